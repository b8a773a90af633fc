use Rattle.std.proofs.Common.{arith}
use Rattle.std.proofs.lemmas.Bool.{ltb-true}
use Rattle.flat_tests.proofs.Samples.{bits_are_inputs}
use Rattle.flat_tests.proofs.rounds.are_inputs.Goals as goal

pub returns : goal.returns
returns c done = bits_are_inputs c.args.circuit.now c.args.row.now c.requires (omega arith) c.told-row (omega arith) (ltb-true _ _ done)
