use Rattle.std.proofs.Common.{◌≡◌, ◌∙◌, ◌&&◌, ap, refl, sym}
use Rattle.sim_base.specs.BitValue.{bit_value}
use Rattle.circuit.specs.Output.{formula, cell_inputs, modulo, output}
use Rattle.circuit.specs.Signal.{sig_value}
use Rattle.signal_words.specs.Values.{digits_in}
use Rattle.signal_words.proofs.Told.{same_put}
use Rattle.cell_words.proofs.Combined.{value_digits}
use Rattle.cell_words.proofs.computing.combination.Goals as goal

number : (c : goal.After-put_word) → c.low_digits-word.result ≡ output (digits_in c.args.nets.now) c.args.cell.now
number c =
    let digits = digits_in c.args.nets.now in
    let cell = c.args.cell.now in
    let i = cell_inputs digits cell in
    let signed = cell.a_signed && cell.b_signed in
    let w = cell.width in
    let x = c.in-Some.a in
    let y = c.in-Some-whole_word.b in
    let a : bit_value w x ≡ i.a = c.in-Some.ensures.value ∙ ap (sig_value digits) c.as_slice.ensures in
    let b : bit_value w y ≡ i.b = c.in-Some-whole_word.ensures.value ∙ ap (sig_value digits) c.as_slice-in-Some.ensures in
    c.low_digits-word.ensures
    ∙ c.combined.ensures i w (c.if-is_one_word.ensures.0 refl).1
    (value_digits signed w x (bit_value w x) i.a a refl c.in-Some.ensures.below refl)
    (value_digits signed w y (bit_value w y) i.b b refl c.in-Some-whole_word.ensures.below refl)
    ∙ ap (λ o. modulo w (formula o i)) (sym c.requires.op)

pub returns-in-Some-whole_word : goal.returns-in-Some-whole_word
returns-in-Some-whole_word c = same_put _ _ _ _ _ _ (number c) c.put_word.ensures
