use Rattle.std.proofs.Common.{arith}
use Rattle.sim_base.specs.BitValue.{bit_value}
use Rattle.cell_words.proofs.Sources.{none_moved, word_moved}
use Rattle.cell_words.proofs.shift.moved_word.Goals as goal

pub returns-then-shift-gt127 : goal.returns-then-shift-gt127
returns-then-shift-gt127 c =
    none_moved c.args.shift.ones c.args.shift.right c.args.shift.left c.args.width (bit_value c.args.a.width c.args.a.number) c.requires.below (omega arith)

pub returns : goal.returns
returns c =
    word_moved c.args.shift.ones c.args.shift.right c.args.shift.left c.args.width c.low_ones.result c.low_ones-2.result (bit_value c.args.a.width c.args.a.number)
    (omega arith) (omega arith) c.low_ones.ensures c.low_ones-2.ensures
