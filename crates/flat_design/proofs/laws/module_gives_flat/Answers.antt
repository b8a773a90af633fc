use Rattle.flat_design.proofs.Flatness.{flat_circuit}
use Rattle.flat_design.proofs.laws.module_gives_flat.Goals as goal

pub returns : goal.returns
returns c = λ m h. flat_circuit m c.args.circuit.now h
