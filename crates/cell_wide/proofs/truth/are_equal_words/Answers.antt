use Rattle.std.proofs.Common.{◌≤◌, ◌∙◌, ap, arith}
use Rattle.std.specs.Prelude.{◌==◌}
use Rattle.circuit.specs.Output.{modulo, operand}
use Rattle.cell_wide.proofs.Truths.{operands_equal}
use Rattle.cell_wide.proofs.truth.are_equal_words.Goals as goal

pub returns : goal.returns
returns c =
    let m = c.max-width.result in
    let la : c.args.a.width ≤ m = omega (arith, c.max-width.ensures) in
    let lb : c.args.b.width ≤ m = omega (arith, c.max-width.ensures) in
    ap (λ x. (x == c.operand_word-2.result)) c.operand_word.ensures
    ∙ ap (λ x. (modulo m (operand c.args.signed c.args.a.width c.args.a.number) == x)) c.operand_word-2.ensures
    ∙ operands_equal c.args.signed c.args.a.width c.args.b.width m c.args.a.number c.args.b.number c.requires.a_below c.requires.b_below la lb
