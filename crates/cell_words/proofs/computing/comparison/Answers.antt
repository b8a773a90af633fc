use Rattle.std.proofs.Common.{◌≡◌, ◌<◌, ◌^◌, ◌∙◌, ◌&&◌, ap, refl, sym, subst}
use Rattle.sim_base.specs.BitValue.{bit_value}
use Rattle.circuit.specs.Output.{formula, cell_inputs, modulo, output}
use Rattle.circuit.specs.Signal.{sig_value}
use Rattle.signal_words.specs.Values.{digits_in}
use Rattle.sim_base.specs.Values.{width_at}
use Rattle.signal_words.proofs.Told.{same_put}
use Rattle.cell_words.proofs.Compared.{truth_below, truth_digits, value_operand}
use Rattle.cell_words.proofs.computing.comparison.Goals as goal

pub put_word-requires-clause-below : goal.put_word-requires-clause-below
put_word-requires-clause-below c =
    let w = (width_at c.args.into.now c.args.out) in
    subst (λ n. n < 2 ^ w) (sym c.digit.ensures) (truth_below w c.compared-told.result (subst (λ k. 0 < k) (sym c.requires.ready.into_width) (c.if-is_one_word.ensures.0 refl).0))

number : (c : goal.After-put_word) → c.digit.result ≡ output (digits_in c.args.nets.now) c.args.cell.now
number c =
    let digits = digits_in c.args.nets.now in
    let cell = c.args.cell.now in
    let i = cell_inputs digits cell in
    let flag = cell.a_signed && cell.b_signed in
    let signed = c.are_signed.result in
    let w = c.in-Some.a.width in
    let x = c.in-Some.a.number in
    let y = c.in-Some-whole_word.b in
    let a : bit_value w x ≡ i.a = ap (λ k. bit_value k x) c.in-Some.ensures.word.width_is ∙ ap (bit_value _) c.in-Some.ensures.word.number_is ∙ ap (sig_value digits) c.as_slice.ensures in
    let b : bit_value w y ≡ i.b = c.in-Some-whole_word.ensures.value ∙ ap (sig_value digits) c.as_slice-in-Some.ensures in
    let some : 0 < cell.width = (c.if-is_one_word.ensures.0 refl).0 in
    c.digit.ensures ∙ sym (truth_digits cell.width c.compared-told.result some)
    ∙ ap (modulo cell.width) (sym (c.compared-told.ensures i
    (value_operand flag signed w x (bit_value w x) i.a a c.are_signed.ensures refl refl)
    (value_operand flag signed w y (bit_value w y) i.b b c.are_signed.ensures refl refl)))
    ∙ ap (λ o. modulo cell.width (formula o i)) (sym c.requires.op)

pub returns-then-is_one_word : goal.returns-then-is_one_word
returns-then-is_one_word c = same_put _ _ _ _ _ _ (number c) c.put_word.ensures
