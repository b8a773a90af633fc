use Rattle.flat_design.proofs.Ordered.{in_order}
use Rattle.flat_design.proofs.laws.flat_is_in_order.Goals as goal

pub returns : goal.returns
returns c = in_order c.args.circuit.now c.requires
