use Rattle.circuit.proofs.Shown.{shown_below}
use Rattle.circuit.proofs.laws.law_of_showing.Goals as goal

pub returns : goal.returns
returns c = λ run k slot. shown_below run k slot
