use Rattle.eval_plan.specs.OrderInvariants.{AreRootsOf}
use Rattle.eval_plan.proofs.roots.roots_of.Given as goal

abbrev pub invariant-loop-place : goal.invariant-loop-place
invariant-loop-place l = AreRootsOf l.circuit l.place 0 l.roots
