use Rattle.std.proofs.Common.{◌≡◌, ◌%◌, ◌^◌, ◌<◌, ◌≤◌, ◌∙◌, ap, false, sym, subst, arith, lit<}
use Rattle.std.proofs.Math.Nat.{pow-le-pow_right}
use Rattle.circuit.specs.Output.{formula, cell_inputs, output}
use Rattle.signal_words.specs.Values.{digits_in, IsWordOf}
use Rattle.signal_words.proofs.Modulo.{modulo_lower}
use Rattle.sim_base.specs.Values.{width_at}
use Rattle.signal_words.proofs.Told.{same_put}
use Rattle.cell_words.specs.Shifts.{is_below_zero, IsPlain}
use Rattle.cell_words.proofs.shifting.shifted.Goals as goal
use Rattle.cell_words.proofs.shifting.shifted.Goals.{then-is_below_zero, else-is_below_zero}

positive : (c : goal.After-put_low_word) → (is_below_zero c.args.cell.now.a_signed c.in-Some.a.width c.in-Some.a.number ≡ false) × (is_below_zero c.args.cell.now.b_signed c.in-Some-one_word.b.width c.in-Some-one_word.b.number ≡ false)
positive c = elim c.if-is_below_zero.branch [
  | then-is_below_zero w ↦ absurd (let e = w.below-is in let f = c.if-not-below.true in cc)
  | else-is_below_zero w ↦ (sym c.is_below_zero.ensures ∙ w.if-is_below_zero.false, sym w.is_below_zero-below.ensures ∙ sym w.below-is ∙ c.if-not-below.true)
]

plain : (c : goal.After-put_low_word) → IsPlain (cell_inputs (digits_in c.args.nets.now) c.args.cell.now) c.in-Some.a.number c.in-Some-one_word.b.number
plain c =
    let cell = c.args.cell.now in
    let aw = c.in-Some.a.width in
    let an = c.in-Some.a.number in
    let bw = c.in-Some-one_word.b.width in
    let bn = c.in-Some-one_word.b.number in
    let a : IsWordOf c.args.nets.now cell.a aw an = subst (λ sig. IsWordOf c.args.nets.now sig aw an) c.as_slice.ensures c.in-Some.ensures.word in
    let b : IsWordOf c.args.nets.now cell.b bw bn = subst (λ sig. IsWordOf c.args.nets.now sig bw bn) c.as_slice-in-Some.ensures c.in-Some-one_word.ensures.word in
    let i = cell_inputs (digits_in c.args.nets.now) cell in
    let p : 2 ^ aw ≤ 2 ^ 64 = pow-le-pow_right {n = 2} (lit< tt) {i = aw} {j = 64} a.small in
    record {
      number_is = sym a.number_is;
      below = subst (λ n. n < 2 ^ i.a.width) a.number_is (subst (λ w. an < 2 ^ w) a.width_is a.below);
      word = omega (arith, a.below, p);
      positive = ap (λ w. is_below_zero cell.a_signed w i.a.number) (sym a.width_is) ∙ ap (is_below_zero cell.a_signed aw) (sym a.number_is) ∙ (positive c).0;
      by_is = sym b.number_is;
      by_positive = ap (λ w. is_below_zero cell.b_signed w i.b.number) (sym b.width_is) ∙ ap (is_below_zero cell.b_signed bw) (sym b.number_is) ∙ (positive c).1;
    }

pub returns-then-not-below : goal.returns-then-not-below
returns-then-not-below c =
    let cell = c.args.cell.now in
    let i = cell_inputs (digits_in c.args.nets.now) cell in
    let number : c.shifted_plainly-number.result % 2 ^ (width_at c.args.into.now c.args.out) ≡ output (digits_in c.args.nets.now) cell =
    ap (λ w. c.shifted_plainly-number.result % 2 ^ w) c.requires.ready.into_width ∙ ap (λ n. n % 2 ^ cell.width) (c.shifted_plainly-number.ensures i (plain c)) ∙ modulo_lower cell.width 64 (formula cell.op i) c.if-cell-le64.true in
    same_put _ _ _ _ _ _ number c.put_low_word.ensures
