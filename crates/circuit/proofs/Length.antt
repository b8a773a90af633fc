-- How many samples a run has.
use Rattle.std.proofs.Common.{◌≡◌, ℕ, zero, suc, ◌<◌, ◌≤◌, refl, sym, ◌∙◌, ap, arith, inl, inr, subst, true, false, Option, Some, None}
use Rattle.std.specs.Prelude.{is_some, option_and_then}
use Rattle.std.proofs.lemmas.Bool.{cases_Bool, cases_eq, cases_lt, cond-true, cond-false, false≢true}
use Rattle.circuit.specs.Rounds.{Run, Standing, settled, settled_samples, standing_after}

none_next : (run : Run) (k : ℕ) (s : Option Standing) → is_some (option_and_then (λ t. settled run.circuit t (run.row k).inputs) s) ≡ true → is_some s ≡ true
none_next run k None e = absurd (false≢true e)
none_next run k (Some t) e = refl

-- where a sample settled, those before it did
before_settled : (run : Run) (k : ℕ) → is_some (standing_after run (suc k)) ≡ true → is_some (standing_after run k) ≡ true
unfolding standing_after
before_settled run k h = none_next run k (standing_after run k) h

all_before : (run : Run) (n k : ℕ) → k ≤ n → is_some (standing_after run n) ≡ true → is_some (standing_after run k) ≡ true
all_before run zero k le h = subst (λ (m : ℕ). is_some (standing_after run m) ≡ true) (let e : 0 ≡ k = omega arith in e) h
all_before run (suc n) k le h = elim (cases_eq k (suc n)) [
  | inl e ↦ subst (λ (m : ℕ). is_some (standing_after run m) ≡ true) (sym e) h
  | inr ne ↦ all_before run n k (omega arith) (before_settled run n h)
]

start_settled : (run : Run) → is_some (standing_after run 0) ≡ true
unfolding standing_after
start_settled run = refl

pub length_within : (run : Run) (n : ℕ) → settled_samples run n ≤ n
unfolding settled_samples
length_within run zero = omega arith
length_within run (suc n) = elim (cases_Bool (is_some (standing_after run (suc n)))) [
  | inl on ↦ (let e : settled_samples run (suc n) ≡ suc n = cond-true (is_some (standing_after run (suc n))) (suc n) (settled_samples run n) on in omega arith)
  | inr off ↦
      (let e : settled_samples run (suc n) ≡ settled_samples run n = cond-false (is_some (standing_after run (suc n))) (suc n) (settled_samples run n) off in
      let h : settled_samples run n ≤ n = length_within run n in omega arith)
]

pub length_settled : (run : Run) (n : ℕ) → is_some (standing_after run (settled_samples run n)) ≡ true
unfolding settled_samples
length_settled run zero = start_settled run
length_settled run (suc n) = elim (cases_Bool (is_some (standing_after run (suc n)))) [
  | inl on ↦ ap (λ m. is_some (standing_after run m)) (cond-true (is_some (standing_after run (suc n))) (suc n) (settled_samples run n) on) ∙ on
  | inr off ↦ ap (λ m. is_some (standing_after run m)) (cond-false (is_some (standing_after run (suc n))) (suc n) (settled_samples run n) off) ∙ length_settled run n
]

pub settled_below : (run : Run) (n k : ℕ) → k < settled_samples run n → is_some (standing_after run (suc k)) ≡ true
settled_below run n k lt = all_before run (settled_samples run n) (suc k) (omega arith) (length_settled run n)

pub unsettled_above : (run : Run) (n k : ℕ) → settled_samples run n < k → k ≤ n → is_some (standing_after run k) ≡ false
unfolding settled_samples
unsettled_above run zero k lt le = absurd (omega arith)
unsettled_above run (suc n) k lt le = elim (cases_Bool (is_some (standing_after run (suc n)))) [
  | inl on ↦ (let e : settled_samples run (suc n) ≡ suc n = cond-true (is_some (standing_after run (suc n))) (suc n) (settled_samples run n) on in absurd (omega arith))
  | inr off ↦
      (let e : settled_samples run (suc n) ≡ settled_samples run n = cond-false (is_some (standing_after run (suc n))) (suc n) (settled_samples run n) off in
      elim (cases_eq k (suc n)) [
        | inl same ↦ ap (λ m. is_some (standing_after run m)) same ∙ off
        | inr ne ↦ unsettled_above run n k (omega arith) (omega arith)
      ])
]

none_from_test : (s : Option Standing) → is_some s ≡ false → s ≡ None
none_from_test None e = refl
none_from_test (Some t) e = absurd (false≢true (sym e))

pub unsettled_at : (run : Run) (n : ℕ) → settled_samples run n < n → standing_after run (suc (settled_samples run n)) ≡ None
unsettled_at run n lt = none_from_test _ (unsettled_above run n (suc (settled_samples run n)) (omega arith) (omega arith))

-- the length is the place where a run is seen to end
pub length_is : (run : Run) (n k : ℕ) → k ≤ n → is_some (standing_after run k) ≡ true → (k < n → standing_after run (suc k) ≡ None) → settled_samples run n ≡ k
length_is run n k le here next = elim (cases_lt (settled_samples run n) k) [
  | inl lt ↦ absurd (false≢true (sym (unsettled_above run n k lt le) ∙ here))
  | inr ge ↦ (elim (cases_lt k (settled_samples run n)) [
    | inl gt ↦
        (let top : settled_samples run n ≤ n = length_within run n in
        let none : standing_after run (suc k) ≡ None = next (omega arith) in
        absurd (false≢true (sym (ap is_some none) ∙ settled_below run n k gt)))
    | inr same ↦ omega arith
  ])
]
