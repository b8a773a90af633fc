use Rattle.std.proofs.Common.{◌≡◌, ◌∙◌, sym, ap, refl}
use Rattle.sim_base.specs.BitValue.{bit_value}
use Rattle.sim_base.specs.Values.{width_at}
use Rattle.circuit.specs.Output.{output, modulo, cell_inputs, truth}
use Rattle.circuit.specs.Signal.{sig_value}
use Rattle.signal_words.specs.Values.{digits_in}
use Rattle.signal_words.proofs.Told.{same_put}
use Rattle.cell_wide.proofs.Wholes.{values_equal}
use Rattle.cell_wide.proofs.whole.equality_of_values.Goals as goal

pub returns-in-Some-whole_word : goal.returns-in-Some-whole_word
returns-in-Some-whole_word c =
    let digits = digits_in c.args.nets.now in
    let cell = c.args.cell.now in
    let w = c.in-Some.a.width in
    let x = c.in-Some.a.number in
    let y = c.in-Some-whole_word.b in
    let into = c.args.into.now in
    let a : bit_value w x ≡ sig_value digits c.as_slice.result.now = ap (λ k. bit_value k x) c.in-Some.ensures.word.width_is ∙ ap (bit_value _) c.in-Some.ensures.word.number_is in
    let told = c.is_told.ensures cell.op (cell_inputs digits cell) c.requires.kind c.requires.told (values_equal digits cell c.as_slice.result.now c.as_slice-in-Some.result.now (bit_value w x) (bit_value w y) _ a c.in-Some-whole_word.ensures.value c.as_slice.ensures c.as_slice-in-Some.ensures
    c.in-Some.ensures.word.below c.in-Some-whole_word.ensures.below refl refl) in
    same_put c.args.out (modulo (width_at into c.args.out) (truth c.is_told.result)) (output digits cell) into c.put_truth.new.into c.put_truth.result
    (ap (λ k. modulo k (truth c.is_told.result)) c.requires.ready.into_width ∙ ap (modulo cell.width) (sym told)) c.put_truth.ensures
