-- Which histories a run may have.
use Rattle.std.specs.Prelude.{◌≡◌, ◌≢◌, ℕ, ◌+◌, ◌<◌, ◌≤◌, ◌==◌, nat_le, Bool, true, false, not, ◌&&◌, List, [], ◌∷◌, ◌++◌, Option, Some, None, if◌then◌else◌, slice_get, length}
use Rattle.std.specs.List.{list_any}
use Rattle.sim_base.specs.declared.kinds.Kinds.{Kinds}
use Rattle.hall_core.specs.declared.entry.Entry.{Entry}
use Rattle.hall_core.specs.declared.entry.Entry.TheVariants as entry
use Rattle.hall_core.specs.declared.entry.Act.{Act}
use Rattle.hall_core.specs.declared.entry.Act.TheVariants as act
use Rattle.hall_core.specs.declared.entry.Goal.{Goal}
use Rattle.hall_core.specs.declared.entry.Goal.TheVariants as goal
use Rattle.hall_core.specs.Replay.{Replayed, replay}

-- What the rules ask of a run. A crate above says what these are of a circuit under its samples.
pub record RunFacts : Type 0 where
  -- the number of its samples
  pub count : ℕ
  -- the first sample that does not settle, or the number of samples where all settle
  pub length : ℕ
  -- whether a diagnostic of one of the kinds fires at a sample
  pub hits : ℕ → Kinds → Bool

abbrev pub is_true : Option Bool → Bool
is_true None = false
is_true (Some b) = b

abbrev pub is_open : Replayed → ℕ → Bool
is_open s c = is_true (slice_get s.clients c)

abbrev pub some_open : Replayed → Bool
some_open s = list_any (λ one. one) s.clients

-- a run is asked for at most all samples
abbrev pub may_act : ℕ → Act → Bool
may_act count act.Look = true
may_act count (act.Run m kinds) = nat_le m count
may_act count act.Pause = true

-- the goal lets samples be recorded up to so many
abbrev pub lets : Goal → ℕ → Bool
lets goal.Hold n = false
lets (goal.To g kinds) n = nat_le n g
lets goal.Over n = false

-- nothing follows the end
abbrev pub is_over : Goal → Bool
is_over goal.Hold = false
is_over (goal.To g kinds) = false
is_over goal.Over = true

-- A history begins with the record of sample 0, or is Unsettled, behind which only the end comes.
abbrev pub may_begin : Replayed → Entry → Bool
may_begin s (entry.Open c) = false
may_begin s (entry.Packet c what) = false
may_begin s (entry.Record m hit) = m == 1 && not hit && not s.unsettled
may_begin s entry.Unsettled = not s.unsettled
may_begin s (entry.Close c why) = false
may_begin s entry.End = s.unsettled

-- What may follow where sample 0 is recorded.
abbrev pub may_follow : ℕ → Replayed → Entry → Bool
may_follow count s (entry.Open c) = c == length s.clients
may_follow count s (entry.Packet c what) = is_open s c && may_act count what
may_follow count s (entry.Record m hit) = nat_le 1 m && lets s.goal (s.n + m) && not s.unsettled
may_follow count s entry.Unsettled = lets s.goal (s.n + 1) && not s.unsettled
may_follow count s (entry.Close c why) = is_open s c
may_follow count s entry.End = not (some_open s)

-- whether an entry may come next in a run of so many samples, where what its samples are is left aside
abbrev pub allowed : ℕ → Replayed → Entry → Bool
allowed count s e = not (is_over s.goal) && (if s.n == 0 then may_begin s e else may_follow count s e)

-- no sample but the last one of a record hits the goal's kinds, and the flag says whether the last one does
abbrev pub HitsAsSaid : RunFacts → ℕ → ℕ → Bool → Goal → Type 0
HitsAsSaid run n m hit goal.Hold = Unit {0}
HitsAsSaid run n m hit (goal.To g kinds) =
    ((k : ℕ) → n ≤ k → k + 1 < n + m → run.hits k kinds ≡ false)
    × ((k : ℕ) → k + 1 ≡ n + m → run.hits k kinds ≡ hit)
HitsAsSaid run n m hit goal.Over = Unit {0}

-- an entry fits the run's samples: what is recorded settles, and Unsettled comes at a sample that does not
abbrev pub Meets : RunFacts → Replayed → Entry → Type 0
Meets run s (entry.Open c) = Unit {0}
Meets run s (entry.Packet c what) = Unit {0}
Meets run s (entry.Record m hit) = (s.n + m ≤ run.length) × HitsAsSaid run s.n m hit s.goal
Meets run s entry.Unsettled = (s.n ≡ run.length) × (run.length < run.count)
Meets run s (entry.Close c why) = Unit {0}
Meets run s entry.End = Unit {0}

-- the entry may come next behind these
pub record Next (run : RunFacts) (before : List Entry) (e : Entry) : Type 0 where
  pub allows : allowed run.count (replay before) e ≡ true
  pub meets : Meets run (replay before) e

-- each entry may come next behind those before it
abbrev pub Follows : RunFacts → List Entry → Type 0
Follows run history = (before more : List Entry) (e : Entry) → history ≡ before ++ e ∷ more → Next run before e

-- a history that the run may have
abbrev pub Legal : RunFacts → List Entry → Type 0
Legal run history = (history ≢ []) × Follows run history
