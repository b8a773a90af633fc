use Rattle.std.proofs.Common.{◌≡◌, ◌∙◌, sym, ap}
use Rattle.circuit.specs.Output.{output, modulo, cell_inputs, truth}
use Rattle.sim_base.specs.Values.{width_at}
use Rattle.signal_words.specs.Values.{digits_in}
use Rattle.signal_words.proofs.Told.{same_put}
use Rattle.cell_wide.proofs.Wholes.{values_equal}
use Rattle.cell_wide.proofs.whole.equality_of_words.Goals as goal

pub returns-in-Some-whole_value_of_width : goal.returns-in-Some-whole_value_of_width
returns-in-Some-whole_value_of_width c =
    let digits = digits_in c.args.nets.now in
    let cell = c.args.cell.now in
    let a = c.in-Some.a in
    let b = c.in-Some-whole_value_of_width.b in
    let into = c.args.into.now in
    let width : a.width ≡ b.width = sym c.width.ensures.value ∙ sym c.in-Some-whole_value_of_width.ensures.width in
    let told = c.is_told.ensures cell.op (cell_inputs digits cell) c.requires.kind c.requires.told (values_equal digits cell c.as_slice.result.now c.as_slice-in-Some.result.now a b c.are_same.result c.in-Some.ensures.value c.in-Some-whole_value_of_width.ensures.value c.as_slice.ensures c.as_slice-in-Some.ensures
    c.width.ensures.below c.width-in-Some-whole_value_of_width.ensures.below width c.are_same.ensures) in
    same_put c.args.out (modulo (width_at into c.args.out) (truth c.is_told.result)) (output digits cell) into c.put_truth.new.into c.put_truth.result
    (ap (λ k. modulo k (truth c.is_told.result)) c.requires.ready.into_width ∙ ap (modulo cell.width) (sym told)) c.put_truth.ensures
