use Rattle.std.proofs.Common.{◌-◌, ◌≤◌, length}
use Rattle.spool_format.proofs.Upto.{IsWritten}
use Rattle.spool_format.proofs.write.append_slots.Given as goal

abbrev pub invariant-loop-slot : goal.invariant-loop-slot
invariant-loop-slot l = record {
  within : l.slot ≤ length l.widths;
  written : IsWritten l.widths l.old l.new 0 l.slot l.place l.count l.initial.into.items l.into.items;
}

abbrev pub decreases-loop-slot : goal.decreases-loop-slot
decreases-loop-slot l = length l.widths - l.slot
