use Rattle.std.proofs.Common.{◌-◌, ◌*◌, ◌≤◌, Bool}
use Rattle.sim_base.proofs.Filling.{IsFilling}
use Rattle.cell_wide.specs.Words.{digitwise}
use Rattle.cell_wide.proofs.values.put_words.Given as goal

abbrev pub invariant-loop-place : goal.invariant-loop-place
invariant-loop-place l = (l.place ≤ l.whole) × ((told : Bool) × IsFilling l.fn.into l.into l.out (digitwise l.op l.width l.fn.one.number l.fn.other.number) l.width (64 * l.place) told)

abbrev pub decreases-loop-place : goal.decreases-loop-place
decreases-loop-place l = l.whole - l.place
