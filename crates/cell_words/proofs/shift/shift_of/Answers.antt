use Rattle.std.proofs.Common.{◌+◌, ◌≤◌, arith}
use Rattle.cell_words.proofs.Sources.{left_answer, right_answer, floor_answer}
use Rattle.cell_words.proofs.shift.shift_of.Goals as goal

pub returns-then-is_to_the_left-clause-value : goal.returns-then-is_to_the_left-clause-value
returns-then-is_to_the_left-clause-value c i h a =
    left_answer c.args.cell.now.op i c.args.cell.now.width c.ones_of-ones.result c.args.amount.by c.min-left.result c.args.amount.negative
    c.requires.kind c.if-is_to_the_left.ensures a.negative a.by c.min-left.ensures c.requires.width h.width_is (c.ones_of-ones.ensures.source i h)

pub returns-in-Sshr-clause-value : goal.returns-in-Sshr-clause-value
returns-in-Sshr-clause-value c i h a =
    floor_answer c.args.cell.now.op i c.args.cell.now.width c.args.a_width c.ones_of-ones.result c.args.amount.by c.min-right.result
    c.in-Sshr.is h.below a.by c.min-right.ensures c.requires.a_width h.width_is h.a_width_is (c.ones_of-ones.ensures.source i h)

pub returns-in_default-clause-value : goal.returns-in_default-clause-value
returns-in_default-clause-value c i h a =
    let most : c.ones_of-ones.result + c.args.a_width ≤ 131072 = omega (arith, c.ones_of-ones.ensures.most, c.requires.width, c.requires.a_width) in
    right_answer c.args.cell.now.op i c.args.cell.now.width c.args.a_width c.ones_of-ones.result c.args.amount.by c.min-right-in_default.result c.args.amount.negative
    c.requires.kind c.in_default.not-Sshr c.if-is_to_the_left.ensures a.negative h.below a.by c.min-right-in_default.ensures most h.width_is h.a_width_is
    (c.ones_of-ones.ensures.source i h)
