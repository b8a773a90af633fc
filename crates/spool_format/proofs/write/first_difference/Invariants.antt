use Rattle.std.proofs.Common.{◌≡◌, ◌-◌, ◌≤◌, length, take, drop}
use Rattle.spool_format.proofs.write.first_difference.Given as goal

abbrev pub invariant-loop-at : goal.invariant-loop-at
invariant-loop-at l = record {
  order : l.from ≤ l.at;
  within : l.at ≤ length l.new;
  same : take (l.at - l.from) (drop l.from l.old) ≡ take (l.at - l.from) (drop l.from l.new);
}

abbrev pub decreases-loop-at : goal.decreases-loop-at
decreases-loop-at l = length l.new - l.at
