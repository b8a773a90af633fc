use Rattle.std.proofs.Common.{◌∙◌, ◌%◌, ◌^◌, ap, refl}
use Rattle.circuit.specs.Output.{formula, cell_inputs}
use Rattle.signal_words.proofs.Modulo.{modulo_lower}
use Rattle.cell_words.proofs.arithmetic.result_of.Goals as goal

pub returns : goal.returns
returns c digits a b =
    let width = c.args.cell.now.width in
    let i = cell_inputs digits c.args.cell.now in
    ap (λ x. x % 2 ^ width) (c.low_of.ensures i (record { a_signed = refl; b_signed = refl; first = a; second = b }))
    ∙ modulo_lower width 128 (formula c.args.cell.now.op i) c.requires.narrow
