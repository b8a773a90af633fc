-- Sums over the views, of which a step changes one.
use Rattle.std.proofs.Common.{◌≡◌, ◌≢◌, ℕ, zero, suc, ◌+◌, ◌≤◌, List, [], ◌∷◌, ◌++◌, set, refl, sym, ap, ◌∙◌, arith, sum_by}
use Rattle.std.proofs.lemmas.List.Sums.{sum_by-cons, sum_by-append}
use mathlib.Core.Option.{some, some-ne-none, some-injective}
use lib.ListN.{get_elem?}
use Rattle.stage_turn.specs.Kept.{count_of}

module _ {A : Type 0} (g : A → ℕ) where
  pub sum_by-set_view : (l : List A) (j : ℕ) (v w : A) → get_elem? l j ≡ some v → sum_by g (set l j w) + g v ≡ sum_by g l + g w
  sum_by-set_view [] j v w e = absurd (some-ne-none v (sym e))
  sum_by-set_view (x ∷ xs) zero v w e = omega (arith, ap g (some-injective x v e), sum_by-cons g w xs, sum_by-cons g x xs)
  sum_by-set_view (x ∷ xs) (suc j) v w e = omega (arith, sum_by-set_view xs j v w e, sum_by-cons g x (set xs j w), sum_by-cons g x xs)

  pub term_le : (l : List A) (j : ℕ) (v : A) → get_elem? l j ≡ some v → g v ≤ sum_by g l
  term_le [] j v e = absurd (some-ne-none v (sym e))
  term_le (x ∷ xs) zero v e = omega (arith, ap g (some-injective x v e), sum_by-cons g x xs)
  term_le (x ∷ xs) (suc j) v e = omega (arith, term_le xs j v e, sum_by-cons g x xs)

  pub two_terms_le : (l : List A) (j k : ℕ) (v u : A) → k ≢ j → get_elem? l j ≡ some v → get_elem? l k ≡ some u → g v + g u ≤ sum_by g l
  two_terms_le [] j k v u n e d = absurd (some-ne-none v (sym e))
  two_terms_le (x ∷ xs) zero zero v u n e d = absurd (n refl)
  two_terms_le (x ∷ xs) zero (suc k) v u n e d = omega (arith, ap g (some-injective x v e), term_le xs k u d, sum_by-cons g x xs)
  two_terms_le (x ∷ xs) (suc j) zero v u n e d = omega (arith, ap g (some-injective x u d), term_le xs j v e, sum_by-cons g x xs)
  two_terms_le (x ∷ xs) (suc j) (suc k) v u n e d = omega (arith, two_terms_le xs j k v u (λ h. n (ap suc h)) e d, sum_by-cons g x xs)

  sum_by_none : (l : List A) → ((j : ℕ) (u : A) → get_elem? l j ≡ some u → g u ≡ 0) → sum_by g l ≡ 0
  sum_by_none [] h = refl
  sum_by_none (x ∷ xs) h = omega (arith, h 0 x refl, sum_by_none xs (λ j u e. h (suc j) u e), sum_by-cons g x xs)

  -- where all but one give nothing
  pub sum_by_only : (l : List A) (i : ℕ) (v : A) → get_elem? l i ≡ some v → ((j : ℕ) (u : A) → j ≢ i → get_elem? l j ≡ some u → g u ≡ 0) → sum_by g l ≡ g v
  sum_by_only [] i v e h = absurd (some-ne-none v (sym e))
  sum_by_only (x ∷ xs) zero v e h = omega (arith, ap g (some-injective x v e), sum_by_none xs (λ j u d. h (suc j) u (λ z. omega arith) d), sum_by-cons g x xs)
  sum_by_only (x ∷ xs) (suc i) v e h = omega (arith, h 0 x (λ z. omega arith) refl, sum_by_only xs i v e (λ j u n d. h (suc j) u (λ z. n (omega arith)) d), sum_by-cons g x xs)

  pub sum_by_push_view : (l : List A) (w : A) → sum_by g (l ++ w ∷ []) ≡ sum_by g l + g w
  sum_by_push_view l w = sum_by-append g l (w ∷ []) ∙ omega arith

pub count_of-append : (c : ℕ) (xs ys : List ℕ) → count_of c (xs ++ ys) ≡ count_of c xs + count_of c ys
count_of-append c xs ys = sum_by-append _ xs ys
