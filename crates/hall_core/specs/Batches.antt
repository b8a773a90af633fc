-- How many samples may be recorded next.
use Rattle.std.specs.Prelude.{ℕ, zero, suc, ◌+◌, ◌-◌, ◌==◌, Bool, false, not, ◌&&◌, ◌||◌, nat_le, nat_lt, if◌then◌else◌}
use Rattle.hall_core.specs.Legal.{RunFacts, allowed}
use Rattle.hall_core.specs.Replay.{Replayed}
use Rattle.hall_core.specs.declared.entry.Entry.{Entry}
use Rattle.hall_core.specs.declared.entry.Entry.TheVariants as entry
use Rattle.hall_core.specs.declared.entry.Goal.{Goal}
use Rattle.hall_core.specs.declared.entry.Goal.TheVariants as goal

-- a sample has a diagnostic of the goal's kinds
abbrev pub hits_goal : RunFacts → Goal → ℕ → Bool
hits_goal facts goal.Hold k = false
hits_goal facts (goal.To g kinds) k = facts.hits k kinds
hits_goal facts goal.Over k = false

-- one of so many samples, from the k-th on, has
unfoldable pub some_hits : RunFacts → Goal → ℕ → ℕ → Bool
some_hits facts g k zero = false
some_hits facts g k (suc m) = hits_goal facts g k || some_hits facts g (suc k) m

-- the record of the next m samples
abbrev pub record_of : RunFacts → Replayed → ℕ → Entry
record_of facts s m = entry.Record m (hits_goal facts s.goal (s.n + m - 1))

-- the next m samples may be recorded: the goal asks for them, they settle, and none but the last one hits
abbrev pub may_record : RunFacts → Replayed → ℕ → Bool
may_record facts s m = allowed facts.count s (record_of facts s m) && (nat_le (s.n + m) facts.length && not (some_hits facts s.goal s.n (m - 1)))

-- the next sample is asked for and does not settle
abbrev pub may_stop : RunFacts → Replayed → Bool
may_stop facts s = allowed facts.count s entry.Unsettled && (s.n == facts.length && nat_lt facts.length facts.count)

-- the greatest number up to this one that passes a test; 0 where none above 0 does
unfoldable pub greatest : (ℕ → Bool) → ℕ → ℕ
greatest test zero = 0
greatest test (suc n) = if test (suc n) then suc n else greatest test n

-- the most samples, of batches of this size, that may be recorded next
abbrev pub most_recorded : ℕ → RunFacts → Replayed → ℕ
most_recorded size facts s = greatest (may_record facts s) size
