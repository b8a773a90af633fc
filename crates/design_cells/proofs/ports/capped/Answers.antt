use Rattle.std.proofs.Common.{◌≡◌, ◌∙◌, sym, arith}
use Rattle.std.proofs.lemmas.Grind.{common_steps}
use Rattle.std.specs.Int.{bit_at}
use Rattle.design_cells.proofs.Words.{capped_big, capped_small, capped_word}
use Rattle.design_cells.proofs.ports.capped.Goals as goal

pub returns-then-width-le64 : goal.returns-then-width-le64
returns-then-width-le64 c = c.word.ensures ∙ capped_small c.args.value.now.number c.args.value.now.width c.width-width.ensures.below (omega arith)

pub returns-then-bit : goal.returns-then-bit
returns-then-bit c =
    let one : bit_at c.args.value.now.number c.loop-at.at ≡ 1 = grind (arith, common_steps) in
    capped_big c.args.value.now.number c.loop-at.at (omega arith) one

pub returns : goal.returns
returns c = c.field.ensures ∙ capped_word c.args.value.now.number c.args.value.now.width c.width-width.ensures.below (λ at le lt. c.loop-at.invariant at le (omega arith))
