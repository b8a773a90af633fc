use Rattle.circuit.proofs.Same.{cell_same}
use Rattle.circuit.proofs.laws.law_of_reading.Goals as goal

pub returns : goal.returns
returns c = λ cell one other same. cell_same cell one other same
