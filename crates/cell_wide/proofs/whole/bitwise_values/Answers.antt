use Rattle.std.proofs.Common.{◌∙◌, ◌&&◌, refl}
use Rattle.sim_base.specs.BitValue.{bit_value}
use Rattle.circuit.specs.Output.{output}
use Rattle.signal_words.specs.Values.{digits_in}
use Rattle.signal_words.proofs.Told.{same_put}
use Rattle.cell_wide.proofs.Wholes.{bitwise_digits, whole_operand}
use Rattle.cell_wide.proofs.whole.bitwise_values.Goals as goal

pub returns-in-Some-whole_word : goal.returns-in-Some-whole_word
returns-in-Some-whole_word c =
    let digits = digits_in c.args.nets.now in
    let cell = c.args.cell.now in
    let w = cell.width in
    let a = c.in-Some.a in
    let b = c.in-Some-whole_word.b in
    let signed = cell.a_signed && cell.b_signed in
    same_put c.args.out _ (output digits cell) c.args.into.now c.put_word.new.self c.put_word.result
    (c.digitwise.ensures.value ∙ bitwise_digits digits cell c.args.op w a b c.requires.op c.requires.kind refl
    (whole_operand digits signed c.as_slice.result.now cell.a (bit_value w a) w c.in-Some.ensures.value c.in-Some.ensures.below refl c.as_slice.ensures)
    (whole_operand digits signed c.as_slice-in-Some.result.now cell.b (bit_value w b) w c.in-Some-whole_word.ensures.value c.in-Some-whole_word.ensures.below refl c.as_slice-in-Some.ensures))
    c.put_word.ensures
