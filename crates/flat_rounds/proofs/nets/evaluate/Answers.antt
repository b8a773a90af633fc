use Rattle.std.proofs.Common.{ℕ, [], ◌∙◌, ap, length, arith}
use Rattle.std.specs.Prelude.{slice_index}
use Rattle.std.proofs.lemmas.List.{length-replicate}
use Rattle.circuit.specs.Valuation.{valuation}
use Rattle.flat_rounds.proofs.Order.{flat_in_order}
use Rattle.flat_rounds.proofs.Given.{valuation_given, valuation_fits}
use Rattle.flat_rounds.proofs.Pass.{all_right, sources_first, zero_of_zeros, zeros_fit}
use Rattle.flat_rounds.proofs.nets.evaluate.Goals as goal

pub one_valuation-requires : goal.one_valuation-requires
one_valuation-requires c = flat_in_order c.args.circuit.now c.requires.flat

pub put_sources-requires-clause-blank : goal.put_sources-requires-clause-blank
put_sources-requires-clause-blank c n = ap (λ xs. slice_index xs n) (c.fill.ensures.items (λ y e. e)) ∙ zero_of_zeros _ n

pub put_sources-requires-clause-nets : goal.put_sources-requires-clause-nets
put_sources-requires-clause-nets c =
    zeros_fit c.args.circuit.now c.fill.new.self.items
    (ap length (c.fill.ensures.items (λ y e. e)) ∙ length-replicate {A = ℕ} _ 0 ∙ (omega (arith, c.args.nets.now.ok.0, c.requires.long)))
    (λ n. ap (λ xs. slice_index xs n) (c.fill.ensures.items (λ y e. e)) ∙ zero_of_zeros _ n)

pub returns-clause-valuation : goal.returns-clause-valuation
returns-clause-valuation c =
    let given = valuation_given c.args.circuit.now (record { regs = c.args.regs.now; mems = [] }) c.args.inputs.now c.requires.flat c.requires.inputs c.requires.regs
    (c.one_valuation.ensures.valuation (record { regs = c.args.regs.now; mems = [] }) c.args.inputs.now)
    (c.one_valuation.ensures.driver (record { regs = c.args.regs.now; mems = [] }) c.args.inputs.now) in
    let numbers = valuation c.args.circuit.now (record { regs = c.args.regs.now; mems = [] }) c.args.inputs.now in
    all_right c.args.circuit.now c.put_cells.new.nets.items numbers c.put_cells.ensures.nets.long (valuation_fits c.args.circuit.now (record { regs = c.args.regs.now; mems = [] }) c.args.inputs.now).long
    (c.put_cells.ensures.right c.args.regs.now c.args.inputs.now numbers given
    (sources_first c.args.circuit.now c.put_sources.new.nets.items numbers (λ n. c.put_sources.ensures.right numbers n given)))
