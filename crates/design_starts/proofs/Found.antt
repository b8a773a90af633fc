-- What the first of a list is that passes a test.
use Rattle.std.proofs.Common.{◌≡◌, ℕ, zero, suc, ◌<◌, List, [], ◌∷◌, sym, ◌∙◌, ap, arith, inl, inr, Bool, true, false, Some, None}
use Rattle.std.specs.Prelude.{find, slice_get}
use Rattle.std.proofs.lemmas.Bool.{cases_Bool, cond-true, cond-false}

-- a place of it, and none before it passes
pub find_first : {X : Type 0} (test : X → Bool) (xs : List X) (x : X) → find test xs ≡ Some x
    → (i : ℕ) × (slice_get xs i ≡ Some x) × (test x ≡ true) × ((j : ℕ) (y : X) → j < i → slice_get xs j ≡ Some y → test y ≡ true → ⊥)
find_first test [] x e = cc e
find_first {X} test (y ∷ ys) x e = elim (cases_Bool (test y)) [
  | inl on ↦
      (let f : Some y ≡ Some x = sym (cond-true (test y) (Some y) (find test ys) on) ∙ e in
      let g : y ≡ x = cc f in
      (0, f, ap test (sym g) ∙ on, λ j z lt at passes. absurd (omega (arith, lt))))
  | inr off ↦
      (let r = find_first test ys x (sym (cond-false (test y) (Some y) (find test ys) off) ∙ e) in
      (suc r.0, r.1, r.2, behind off r.0 r.3))
]
  where
    behind : test y ≡ false → (i : ℕ) → ((j : ℕ) (z : X) → j < i → slice_get ys j ≡ Some z → test z ≡ true → ⊥)
        → (j : ℕ) (z : X) → j < suc i → slice_get (y ∷ ys) j ≡ Some z → test z ≡ true → ⊥
    behind off i none zero z lt at passes =
        let same : Some y ≡ Some z = at in
        let g : y ≡ z = cc same in
        let clash : true ≡ false = sym passes ∙ ap test (sym g) ∙ off in cc clash
    behind off i none (suc j) z lt at passes = none j z (omega (arith, lt)) at passes

pub find_none : {X : Type 0} (test : X → Bool) (xs : List X) → find test xs ≡ None → (i : ℕ) (x : X) → slice_get xs i ≡ Some x → test x ≡ true → ⊥
find_none test [] none i x at on = cc at
find_none test (y ∷ ys) none zero x at on =
    let same : Some y ≡ Some x = at in
    let g : y ≡ x = cc same in
    let t : test y ≡ true = ap test g ∙ on in
    let f : Some y ≡ None = sym (cond-true (test y) (Some y) (find test ys) t) ∙ none in cc f
find_none test (y ∷ ys) none (suc i) x at on = elim (cases_Bool (test y)) [
  | inl t ↦ (let f : Some y ≡ None = sym (cond-true (test y) (Some y) (find test ys) t) ∙ none in cc f)
  | inr off ↦ find_none test ys (sym (cond-false (test y) (Some y) (find test ys) off) ∙ none) i x at on
]
