-- The samples of a run, as they are recorded.
use Rattle.std.specs.Prelude.{ℕ, ◌+◌, ◌==◌, Bool, ◌&&◌, nat_lt, is_some, if◌then◌else◌}
use Rattle.circuit.specs.Rounds.{Run, standing_at}
use Rattle.circuit.specs.declared.netlist.Circuit.{Circuit}
use Rattle.spool_format.specs.declared.sample.Sample.{Sample}
use Rattle.stimulus_blocks.specs.Courses.{Course}
use Rattle.stimulus_blocks.specs.Courses as courses
use Rattle.run_core.specs.Words.{words_at}
use Rattle.run_core.specs.declared.next.Next.{Next}
use Rattle.run_core.specs.declared.next.Next.TheVariants as next

-- a circuit under a stimulus, of which so many samples were given
pub record Following : Type 0 where
  pub circuit : Circuit
  pub course : Course
  pub given : ℕ

abbrev pub run_of : Following → Run
run_of f = courses.run_of f.circuit f.course

-- sample k: its number, its time, and the words of what each slot shows
abbrev pub sample_of : Run → ℕ → Sample
sample_of run k = record { number = k; time = (run.row k).time; words = words_at run k }

-- there is a sample behind the first k, and it settles
abbrev pub has_next : Run → ℕ → Bool
has_next run k = nat_lt k run.count && is_some (standing_at run k)

-- what comes behind the first k samples
abbrev pub next_of : Run → ℕ → Next
next_of run k = if has_next run k then next.Sample (sample_of run k) else (if k == run.count then next.Over else next.Unsettled)

abbrev pub after_next : Following → Following
after_next f = record f { given = if has_next (run_of f) f.given then f.given + 1 else f.given }
