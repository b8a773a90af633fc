use Rattle.eval_commit.specs.Evaluation.{AreInputsOf}
use Rattle.machine_tests.proofs.samples.inputs_of.Given as goal

abbrev pub invariant-loop-n : goal.invariant-loop-n
invariant-loop-n g l = AreInputsOf l.circuit l.inputs
