use Rattle.std.proofs.Common.{◌≡◌, ◌%◌, ◌^◌, ◌<◌, ◌≤◌, ◌∙◌, ap, refl, false, sym, subst, arith, lit<}
use Rattle.std.proofs.Math.Nat.{pow-le-pow_right}
use Rattle.circuit.specs.Output.{formula, cell_inputs, modulo, output}
use Rattle.signal_words.specs.Values.{digits_in, IsWordOf}
use Rattle.signal_words.proofs.Modulo.{modulo_lower}
use Rattle.signal_words.proofs.Told.{same_put}
use Rattle.cell_words.specs.Shifts.{is_below_zero, IsPlain}
use Rattle.cell_words.proofs.Sources.{unsigned_amount}
use Rattle.cell_words.proofs.shifting.shift.Goals as goal

plain : (c : goal.After-put_word) → IsPlain (record (cell_inputs (digits_in c.args.nets.now) c.args.cell.now) { b_signed = false }) c.in-Some.a.number c.in-Some-whole_sig_word.b.number
plain c =
    let cell = c.args.cell.now in
    let aw = c.in-Some.a.width in
    let an = c.in-Some.a.number in
    let bw = c.in-Some-whole_sig_word.b.width in
    let bn = c.in-Some-whole_sig_word.b.number in
    let a : IsWordOf c.args.nets.now cell.a aw an = subst (λ sig. IsWordOf c.args.nets.now sig aw an) c.as_slice.ensures c.in-Some.ensures.word in
    let b : IsWordOf c.args.nets.now cell.b bw bn = subst (λ sig. IsWordOf c.args.nets.now sig bw bn) c.as_slice-in-Some.ensures c.in-Some-whole_sig_word.ensures.word in
    let i = cell_inputs (digits_in c.args.nets.now) cell in
    let p : 2 ^ aw ≤ 2 ^ 64 = pow-le-pow_right {n = 2} (lit< tt) {i = aw} {j = 64} a.small in
    record {
      number_is = sym a.number_is;
      below = subst (λ n. n < 2 ^ i.a.width) a.number_is (subst (λ w. an < 2 ^ w) a.width_is a.below);
      word = omega (arith, a.below, p);
      positive = ap (λ w. is_below_zero cell.a_signed w i.a.number) (sym a.width_is) ∙ ap (is_below_zero cell.a_signed aw) (sym a.number_is) ∙ sym c.is_below_zero.ensures ∙ c.if-not-is_below_zero.true;
      by_is = sym b.number_is;
      by_positive = refl;
    }

number : (c : goal.After-put_word) → c.low_digits.result ≡ output (digits_in c.args.nets.now) c.args.cell.now
number c =
    let cell = c.args.cell.now in
    let i = cell_inputs (digits_in c.args.nets.now) cell in
    let j = record i { b_signed = false } in
    c.low_digits.ensures
    ∙ ap (λ n. n % 2 ^ cell.width) (c.shifted_plainly-number.ensures j (plain c)) ∙ modulo_lower cell.width 64 (formula c.args.op j) (c.if-is_one_word.ensures.0 refl).1
    ∙ ap (modulo cell.width) (unsigned_amount c.args.op i c.requires.kind)
    ∙ ap (λ o. modulo cell.width (formula o i)) (sym c.requires.op)

pub returns-then-not-is_below_zero : goal.returns-then-not-is_below_zero
returns-then-not-is_below_zero c = same_put _ _ _ _ _ _ (number c) c.put_word.ensures
