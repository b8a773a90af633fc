use Rattle.std.proofs.Common.{arith}
use Rattle.eval_plan.proofs.Rooted.{all_roots}
use Rattle.eval_plan.proofs.roots.roots_of.Goals as goal

pub returns : goal.returns
returns c = all_roots c.args.circuit.now c.loop-place.place (omega arith) c.loop-place.roots c.loop-place.invariant
