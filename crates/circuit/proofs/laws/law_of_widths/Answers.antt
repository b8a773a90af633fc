use Rattle.circuit.proofs.Widths.{net_below}
use Rattle.circuit.proofs.laws.law_of_widths.Goals as goal

pub returns : goal.returns
returns c = λ circuit state inputs n x is. net_below circuit state inputs n x is
