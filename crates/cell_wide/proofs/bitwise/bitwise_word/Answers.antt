use Rattle.std.proofs.Common.{◌-◌, ◌<◌, ◌^◌, refl, ◌∙◌, ap, arith, bit_xor}
use Rattle.std.proofs.lemmas.Nat.{pow_pos}
use Rattle.circuit.specs.Output.{operand}
use Rattle.circuit.specs.Signal.{sig_value}
use Rattle.circuit.specs.declared.cell.Op.TheVariants as op
use Rattle.cell_wide.specs.declared.words.Bitwise.TheVariants as by
use Rattle.cell_wide.proofs.Outputs.{word_read, combined_word, pair_output, xnor_output, xnor_is}
use Rattle.cell_wide.proofs.bitwise.bitwise_word.Goals as goal

pub returns-in-And-clause-value : goal.returns-in-And-clause-value
returns-in-And-clause-value c digits a b =
    pair_output digits c.args.cell.now op.And by.And by.And c.args.cell.now.width c.operand_word-a.result c.operand_word-b.result c.in-And.is refl refl
    (word_read c.args.cell.now.width c.operand_word-a.result c.are_signed-signed.result _ (sig_value digits c.args.cell.now.a) c.args.a.width c.args.a.number c.operand_word-a.ensures c.are_signed-signed.ensures a)
    (word_read c.args.cell.now.width c.operand_word-b.result c.are_signed-signed.result _ (sig_value digits c.args.cell.now.b) c.args.b.width c.args.b.number c.operand_word-b.ensures c.are_signed-signed.ensures b) refl

pub returns-in-Or-clause-value : goal.returns-in-Or-clause-value
returns-in-Or-clause-value c digits a b =
    pair_output digits c.args.cell.now op.Or by.Or by.Or c.args.cell.now.width c.operand_word-a.result c.operand_word-b.result c.in-Or.is refl refl
    (word_read c.args.cell.now.width c.operand_word-a.result c.are_signed-signed.result _ (sig_value digits c.args.cell.now.a) c.args.a.width c.args.a.number c.operand_word-a.ensures c.are_signed-signed.ensures a)
    (word_read c.args.cell.now.width c.operand_word-b.result c.are_signed-signed.result _ (sig_value digits c.args.cell.now.b) c.args.b.width c.args.b.number c.operand_word-b.ensures c.are_signed-signed.ensures b) refl

pub returns-in-Or-clause-below : goal.returns-in-Or-clause-below
returns-in-Or-clause-below c =
    combined_word by.Or c.args.cell.now.width c.operand_word-a.result c.operand_word-b.result (operand c.are_signed-signed.result c.args.a.width c.args.a.number) (operand c.are_signed-signed.result c.args.b.width c.args.b.number)
    c.operand_word-a.ensures c.operand_word-b.ensures

pub returns-in-Xor-clause-value : goal.returns-in-Xor-clause-value
returns-in-Xor-clause-value c digits a b =
    pair_output digits c.args.cell.now op.Xor by.Xor by.Xor c.args.cell.now.width c.operand_word-a.result c.operand_word-b.result c.in-Xor.is refl refl
    (word_read c.args.cell.now.width c.operand_word-a.result c.are_signed-signed.result _ (sig_value digits c.args.cell.now.a) c.args.a.width c.args.a.number c.operand_word-a.ensures c.are_signed-signed.ensures a)
    (word_read c.args.cell.now.width c.operand_word-b.result c.are_signed-signed.result _ (sig_value digits c.args.cell.now.b) c.args.b.width c.args.b.number c.operand_word-b.ensures c.are_signed-signed.ensures b) refl

pub returns-in-Xor-clause-below : goal.returns-in-Xor-clause-below
returns-in-Xor-clause-below c =
    combined_word by.Xor c.args.cell.now.width c.operand_word-a.result c.operand_word-b.result (operand c.are_signed-signed.result c.args.a.width c.args.a.number) (operand c.are_signed-signed.result c.args.b.width c.args.b.number)
    c.operand_word-a.ensures c.operand_word-b.ensures

low : (c : goal.After-ones_word) → bit_xor c.operand_word-a.result c.operand_word-b.result < 2 ^ c.args.cell.now.width
low c =
    combined_word by.Xor c.args.cell.now.width c.operand_word-a.result c.operand_word-b.result (operand c.are_signed-signed.result c.args.a.width c.args.a.number) (operand c.are_signed-signed.result c.args.b.width c.args.b.number)
    c.operand_word-a.ensures c.operand_word-b.ensures

pub overflow_sub-result : goal.overflow_sub-result
overflow_sub-result c = omega (arith, low c, c.ones_word.ensures)

pub returns-in_default : goal.returns-in_default
returns-in_default c = record {
  value = λ digits a b.
      ap (λ x. x - bit_xor c.operand_word-a.result c.operand_word-b.result) c.ones_word.ensures
      ∙ xnor_output digits c.args.cell.now by.Xor c.args.cell.now.width c.operand_word-a.result c.operand_word-b.result (xnor_is c.args.cell.now.op c.requires.kind c.in_default.not-And c.in_default.not-Or c.in_default.not-Xor) refl refl
      (word_read c.args.cell.now.width c.operand_word-a.result c.are_signed-signed.result _ (sig_value digits c.args.cell.now.a) c.args.a.width c.args.a.number c.operand_word-a.ensures c.are_signed-signed.ensures a)
      (word_read c.args.cell.now.width c.operand_word-b.result c.are_signed-signed.result _ (sig_value digits c.args.cell.now.b) c.args.b.width c.args.b.number c.operand_word-b.ensures c.are_signed-signed.ensures b);
  below = omega (arith, c.ones_word.ensures, pow_pos c.args.cell.now.width);
}
