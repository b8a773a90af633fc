use Rattle.std.proofs.Common.{◌≡◌, ◌∙◌, ◌&&◌, sym}
use Rattle.circuit.specs.Output.{output}
use Rattle.sim_base.specs.Values.{width_at}
use Rattle.signal_words.specs.Values.{digits_in}
use Rattle.signal_words.proofs.Told.{same_put}
use Rattle.cell_wide.proofs.Wholes.{bitwise_digits, whole_operand}
use Rattle.cell_wide.proofs.whole.bitwise_of_words.Goals as goal

pub returns-in-Some-whole_value_of_width : goal.returns-in-Some-whole_value_of_width
returns-in-Some-whole_value_of_width c =
    let digits = digits_in c.args.nets.now in
    let cell = c.args.cell.now in
    let a = c.in-Some.a in
    let b = c.in-Some-whole_value_of_width.b in
    let into = c.args.into.now in
    let signed = cell.a_signed && cell.b_signed in
    let one : a.width ≡ (width_at into c.args.out) = c.in-Some.ensures.width ∙ sym c.requires.ready.into_width in
    let other : b.width ≡ (width_at into c.args.out) = c.in-Some-whole_value_of_width.ensures.width ∙ sym c.requires.ready.into_width in
    same_put c.args.out _ (output digits cell) into c.write_bitwise.new.into c.write_bitwise.result
    (bitwise_digits digits cell c.args.op (width_at into c.args.out) a.number b.number c.requires.op c.requires.kind c.requires.ready.into_width
    (whole_operand digits signed c.as_slice.result.now cell.a a (width_at into c.args.out) c.in-Some.ensures.value c.width.ensures.below one c.as_slice.ensures)
    (whole_operand digits signed c.as_slice-in-Some.result.now cell.b b (width_at into c.args.out) c.in-Some-whole_value_of_width.ensures.value c.width-in-Some-whole_value_of_width.ensures.below other c.as_slice-in-Some.ensures))
    c.write_bitwise.ensures
