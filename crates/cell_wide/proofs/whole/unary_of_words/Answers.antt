use Rattle.std.proofs.Common.{◌≡◌, ◌∙◌, sym, refl}
use Rattle.circuit.specs.Output.{output}
use Rattle.sim_base.specs.Values.{width_at}
use Rattle.signal_words.specs.Values.{digits_in}
use Rattle.signal_words.proofs.Told.{same_put}
use Rattle.cell_wide.proofs.Wholes.{unary_digits, whole_operand}
use Rattle.cell_wide.proofs.whole.unary_of_words.Goals as goal

pub returns-in-Some : goal.returns-in-Some
returns-in-Some c =
    let digits = digits_in c.args.nets.now in
    let cell = c.args.cell.now in
    let a = c.in-Some.a in
    let into = c.args.into.now in
    let width : a.width ≡ (width_at into c.args.out) = c.in-Some.ensures.width ∙ sym c.requires.ready.into_width in
    same_put c.args.out _ (output digits cell) into c.write_unary.new.into c.write_unary.result
    (unary_digits digits cell cell.op (width_at into c.args.out) a.number a.number refl c.requires.kind c.requires.ready.into_width (whole_operand digits cell.a_signed c.as_slice.result.now cell.a a (width_at into c.args.out) c.in-Some.ensures.value c.width.ensures.below width c.as_slice.ensures))
    c.write_unary.ensures
