use Rattle.std.proofs.Common.{◌≡◌, map, take}
use Rattle.sim_base.specs.BitValue.{zeros}
use Rattle.eval_commit.specs.Evaluation.{input_width}
use Rattle.eval_commit.proofs.start.zero_inputs.Given as goal

abbrev pub invariant-loop-net : goal.invariant-loop-net
invariant-loop-net l = l.inputs ≡ map (λ net. zeros (input_width l.circuit net)) (take l.net-index l.net-items)
