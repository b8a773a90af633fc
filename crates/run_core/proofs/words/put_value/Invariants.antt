use Rattle.std.proofs.Common.{◌≡◌, take}
use Rattle.sim_base.specs.Parts.{halves_of}
use Rattle.spool_format.specs.Reading.{written_at}
use Rattle.run_core.proofs.words.put_value.Given as goal

abbrev pub invariant-loop-n : goal.invariant-loop-n
invariant-loop-n l = l.words ≡ written_at l.fn.words l.place (take l.n (halves_of l.value))
