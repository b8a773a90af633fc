use Rattle.std.proofs.Common.{◌-◌, ◌≤◌}
use Rattle.cell_wide.specs.Words.{digitwise}
use Rattle.cell_wide.proofs.Wordwise.{IsDiffering}
use Rattle.cell_wide.proofs.values.is_written.Given as goal

abbrev pub invariant-loop-place : goal.invariant-loop-place
invariant-loop-place l = (l.place ≤ l.whole) × IsDiffering (digitwise l.op l.fn.value.width l.fn.one.number l.fn.other.number) l.fn.value.number l.place l.changed

abbrev pub decreases-loop-place : goal.decreases-loop-place
decreases-loop-place l = l.whole - l.place
