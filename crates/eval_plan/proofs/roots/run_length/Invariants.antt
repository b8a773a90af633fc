use Rattle.eval_plan.specs.OrderInvariants.{IsRun}
use Rattle.eval_plan.proofs.roots.run_length.Given as goal

abbrev pub invariant-loop-count : goal.invariant-loop-count
invariant-loop-count l = IsRun l.owners l.origins l.first l.count
