-- Whether a number changed, told part by part.
use Rattle.std.proofs.Common.{◌≡◌, ℕ, ◌+◌, ◌^◌, ◌<◌, Bool, false, not, ◌||◌, ◌==◌, List, length, get_or, set, refl, sym, ◌∙◌, ap, inl, inr}
use Rattle.std.proofs.lemmas.Bool.{cases_lt, ne_eqb, eq-eqb}
use Rattle.std.proofs.lemmas.Bool.Decides.{eqb_tells}
use Rattle.std.proofs.lemmas.List.{get_or-set_same, set-get_or, length-set}
use Rattle.std.proofs.lemmas.Nat.Bits.{same_from_bits}
use Rattle.std.specs.Int.{bit_at}
use Rattle.sim_base.specs.BitValue.{number_of_words, digit_after_copy, AreWords}
use Rattle.sim_base.proofs.Words.{copied_below, copied_above, same_words, fit_set}

-- nothing was written
pub told_none : (n : ℕ) → false ≡ not (n == n)
told_none n = ap not (sym (eq-eqb n n refl))

told_join : (old mid new : ℕ) → (new ≡ old → mid ≡ old) → (not (mid == old) || not (new == mid)) ≡ not (new == old)
told_join old mid new back = elim (eqb_tells mid old) [
  | inl t ↦ ap (λ b. not b || not (new == mid)) t.0 ∙ ap (λ m. not (new == m)) t.1
  | inr f ↦ ap (λ b. not b || not (new == mid)) f.0 ∙ ap not (sym (ne_eqb new old (λ e. f.1 (back e))))
]

-- digits after digits
pub told_more : (at from from_at k m old mid new v : ℕ) (a b : Bool) → ((j : ℕ) → bit_at mid j ≡ digit_after_copy at from from_at k old j) → ((j : ℕ) → bit_at new j ≡ digit_after_copy (at + k) v 0 m mid j) → a ≡ not (mid == old) → b ≡ not (new == mid) → (a || b) ≡ not (new == old)
told_more at from from_at k m old mid new v a b first second told_first told_second =
    ap (λ x. x || b) told_first ∙ ap (λ x. not (mid == old) || x) told_second
    ∙ told_join old mid new (λ e. same_from_bits mid old (λ j. elim (cases_lt j (at + k)) [
      | inl c ↦ sym (copied_below (at + k) v 0 m mid j c) ∙ sym (second j) ∙ ap (λ x. bit_at x j) e
      | inr d ↦ first j ∙ copied_above at from from_at k old j d
    ]))

-- a test of two words is one of the numbers
pub told_word : (ws : List ℕ) (k x : ℕ) → AreWords ws → x < 2 ^ 64 → k < length ws → (get_or ws k 0 == x) ≡ (number_of_words (set ws k x) == number_of_words ws)
told_word ws k x fit fits lt = elim (eqb_tells (get_or ws k 0) x) [
  | inl t ↦
      (let e : set ws k x ≡ ws = ap (λ y. set ws k y) (sym t.1) ∙ set-get_or ws k 0 in
      t.0 ∙ sym (eq-eqb (number_of_words (set ws k x)) (number_of_words ws) (ap number_of_words e)))
  | inr f ↦
      f.0 ∙ sym (ne_eqb (number_of_words (set ws k x)) (number_of_words ws) (λ e.
      let s : set ws k x ≡ ws = same_words (set ws k x) ws (fit_set ws k x fit fits) fit (length-set ws k x) e in
      f.1 (ap (λ (l : List ℕ). get_or l k 0) (sym s) ∙ get_or-set_same ws k x 0 lt)))
]
