use Rattle.std.proofs.Common.{◌<◌, ◌^◌, bit_and, sym, ◌∙◌, ap, subst, arith}
use Rattle.std.proofs.Math.Nat.{mod-eq_of_lt}
use Rattle.std.proofs.lemmas.Nat.{and_mask}
use Rattle.cell_wide.proofs.Narrow.{cut_operand}
use Rattle.cell_wide.proofs.word.extended.Goals as goal

pub returns-then-width-to : goal.returns-then-width-to
returns-then-width-to c =
    let lt : c.args.number < 2 ^ c.args.to = subst (λ w. c.args.number < 2 ^ w) c.if-width-to.true c.requires.below in
    sym (mod-eq_of_lt lt) ∙ cut_operand c.args.signed c.args.number c.args.width c.args.to c.requires.below (omega (arith, c.if-width-to.true))

pub returns-then-width-to-2 : goal.returns-then-width-to-2
returns-then-width-to-2 c =
    ap (bit_and c.args.number) c.ones_word.ensures ∙ and_mask c.args.number c.args.to
    ∙ cut_operand c.args.signed c.args.number c.args.width c.args.to c.requires.below (omega (arith, c.if-width-to-2.true))
