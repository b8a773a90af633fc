use Rattle.std.proofs.Common.{◌≡◌, ℕ, length, map, take, ◌∙◌, ap}
use Rattle.std.proofs.Math.Seq.{take-length}
use Rattle.sim_base.specs.BitValue.{BitValue, zeros}
use Rattle.sim_base.specs.Values.{widths}
use Rattle.eval_commit.specs.Evaluation.{input_width}
use Rattle.eval_commit.proofs.Belonging.{ended}
use Rattle.eval_commit.proofs.Starting.{first_inputs}
use Rattle.eval_commit.proofs.start.zero_inputs.Goals as goal

pub returns-clause-zero : goal.returns-clause-zero
returns-clause-zero c =
    let nets = c.args.circuit.now.inputs in
    let end : c.loop-net.net-index ≡ length nets = ended nets c.as_slice-net-items.result.now c.loop-net.net-index c.as_slice-net-items.ensures c.loop-net-test.false c.loop-net.auto.net-index-end in
    c.loop-net.invariant
    ∙ ap (λ ns. map {B = BitValue} (λ net. zeros (input_width c.args.circuit.now net)) (take c.loop-net.net-index ns)) c.as_slice-net-items.ensures
    ∙ ap (λ (n : ℕ). map (λ net. zeros (input_width c.args.circuit.now net)) (take n nets)) end
    ∙ ap (map (λ net. zeros (input_width c.args.circuit.now net))) (take-length nets)

pub returns-clause-inputs : goal.returns-clause-inputs
returns-clause-inputs c = ap widths (returns-clause-zero c) ∙ first_inputs c.args.circuit.now
