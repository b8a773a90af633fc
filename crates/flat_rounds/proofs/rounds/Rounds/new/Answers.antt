use Rattle.std.proofs.Common.{◌∙◌, [], ap, replicate, sym, subst}
use Rattle.circuit.specs.Rounds.{start, start_state}
use Rattle.circuit.specs.Valuation.{valuation}
use Rattle.flat_rounds.specs.Fits.{AreInputs}
use Rattle.flat_rounds.proofs.Pass.{zeros_inputs, zeros_mapped}
use Rattle.flat_rounds.proofs.Settling.{none_at_start, standing_is}
use Rattle.flat_rounds.proofs.rounds.Rounds.new.Goals as goal

pub evaluate-requires-clause-inputs : goal.evaluate-requires-clause-inputs
evaluate-requires-clause-inputs c =
    subst (AreInputs c.args.circuit.now) (sym (c.deref.ensures.value ∙ c.in_ok-inputs.ensures.words ∙ ap (λ n. replicate n 0) c.len-2.ensures)) (zeros_inputs c.args.circuit.now)

pub returns-clause-start : goal.returns-clause-start
returns-clause-start c =
    standing_is c.in_ok-regs.regs.items c.evaluate.new.nets.items (start c.args.circuit.now) c.in_ok-regs.ensures.numbers
    (none_at_start c.args.circuit.now c.requires.mems)
    (c.evaluate.ensures.valuation
    ∙ ap (λ rs. valuation c.args.circuit.now (record { regs = rs; mems = [] }) c.deref.result.now) (c.deref-2.ensures.value ∙ c.in_ok-regs.ensures.numbers)
    ∙ ap (λ ms. valuation c.args.circuit.now (record { regs = (start_state c.args.circuit.now).regs; mems = ms }) c.deref.result.now) (none_at_start c.args.circuit.now c.requires.mems)
    ∙ ap (valuation c.args.circuit.now (start_state c.args.circuit.now)) (c.deref.ensures.value ∙ c.in_ok-inputs.ensures.words ∙ ap (λ n. replicate n 0) c.len-2.ensures ∙ zeros_mapped c.args.circuit.now.inputs))
