use Rattle.eval_plan.specs.OrderInvariants.{AreNodesOf}
use Rattle.eval_plan.proofs.nodes.nodes_of.Given as goal

abbrev pub invariant-loop-place : goal.invariant-loop-place
invariant-loop-place l = AreNodesOf l.circuit l.sorting.search.order.items l.place l.nodes
