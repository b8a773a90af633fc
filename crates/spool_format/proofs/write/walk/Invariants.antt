use Rattle.std.proofs.Common.{◌≡◌, ◌-◌, ◌≤◌, length}
use Rattle.spool_format.specs.Records.{place_of}
use Rattle.spool_format.proofs.write.walk.Given as goal

abbrev pub invariant-loop-next : goal.invariant-loop-next
invariant-loop-next l = record {
  order : l.slot ≤ l.next;
  within : l.next ≤ length l.widths;
  place : l.start ≡ place_of l.widths l.next;
  from : l.place ≤ l.start;
  end : l.start ≤ l.end;
}

abbrev pub decreases-loop-next : goal.decreases-loop-next
decreases-loop-next l = length l.widths - l.next
