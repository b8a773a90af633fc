use Rattle.std.proofs.Common.{◌-◌, ◌≤◌}
use Rattle.eval_plan.specs.OrderInvariants.{AreRootsOf}
use Rattle.eval_plan.proofs.roots.push_drive.Given as goal

abbrev pub invariant-loop-at : goal.invariant-loop-at
invariant-loop-at l = record {
  within : l.at ≤ l.width;
  roots : AreRootsOf l.circuit l.place l.at l.roots;
}

abbrev pub decreases-loop-at : goal.decreases-loop-at
decreases-loop-at l = l.width - l.at
