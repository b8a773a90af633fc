-- One more number of those below.
use Rattle.std.proofs.Common.{◌≡◌, ℕ, zero, suc, ◌+◌, ◌<◌, List, [], ◌∷◌, ◌++◌, map, flat_map, Bool, true, false, ◌&&◌, add-one, append-nil, ap, ◌∙◌, refl, subst, sym, inl, inr, arith}
use Rattle.std.specs.List.{list_all, range_with_len}
use Rattle.std.proofs.lemmas.Bool.{cases_lt}
use Rattle.std.proofs.lemmas.Grind.{flat_map-append}
use Rattle.std.proofs.lemmas.List.FromFn.{map-range_with_len_more}
use Rattle.std.proofs.lemmas.List.Folds.{list_all-append}

numbers_suc : (n a : ℕ) → range_with_len a (suc n) ≡ range_with_len a n ++ (a + n) ∷ []
numbers_suc zero a = let e : a ≡ a + 0 = omega arith in ap (λ x. x ∷ []) e
numbers_suc (suc n) a = let e : a + 1 + n ≡ a + suc n = omega arith in ap (λ l. a ∷ l) (numbers_suc n (a + 1) ∙ ap (λ x. range_with_len (a + 1) n ++ x ∷ []) e)

pub numbers_more : (k : ℕ) → range_with_len 0 (k + 1) ≡ range_with_len 0 k ++ k ∷ []
numbers_more k = let e : 0 + k ≡ k = omega arith in ap (range_with_len 0) (add-one k) ∙ numbers_suc k 0 ∙ ap (λ x. range_with_len 0 k ++ x ∷ []) e

pub map_more : {X : Type 0} (f : ℕ → X) (k : ℕ) → map f (range_with_len 0 (k + 1)) ≡ map f (range_with_len 0 k) ++ f k ∷ []
map_more f k = let e : 0 + k ≡ k = omega arith in map-range_with_len_more f 0 k k e

pub flat_more : {X : Type 0} (f : ℕ → List X) (k : ℕ) → flat_map f (range_with_len 0 (k + 1)) ≡ flat_map f (range_with_len 0 k) ++ f k
flat_more f k = ap (flat_map f) (numbers_more k) ∙ flat_map-append f (range_with_len 0 k) (k ∷ []) ∙ ap (λ xs. flat_map f (range_with_len 0 k) ++ xs) (append-nil (f k))

all_parts : (p : ℕ → Bool) (k : ℕ) → list_all p (range_with_len 0 (k + 1)) ≡ (list_all p (range_with_len 0 k) && (p k && true))
all_parts p k = ap (list_all p) (numbers_more k) ∙ list_all-append p (range_with_len 0 k) (k ∷ [])

pub all_more : (p : ℕ → Bool) (k : ℕ) → list_all p (range_with_len 0 k) ≡ true → p k ≡ true → list_all p (range_with_len 0 (k + 1)) ≡ true
all_more p k all one = all_parts p k ∙ ap (λ b. b && (p k && true)) all ∙ ap (λ b. b && true) one

and_false : (b : Bool) → (b && false) ≡ false
and_false true = refl
and_false false = refl

pub all_fails : (p : ℕ → Bool) (n k : ℕ) → k < n → p k ≡ false → list_all p (range_with_len 0 n) ≡ false
all_fails p zero k below none = absurd (omega arith)
all_fails p (suc n) k below none =
    let parts = ap (λ m. list_all p (range_with_len 0 m)) (sym (add-one n)) ∙ all_parts p n in
    elim (cases_lt k n) [
      | inl lt ↦ parts ∙ ap (λ b. b && (p n && true)) (all_fails p n k lt none)
      | inr le ↦ let same : k ≡ n = omega arith in parts ∙ ap (λ b. list_all p (range_with_len 0 n) && (b && true)) (ap p (sym same) ∙ none) ∙ and_false (list_all p (range_with_len 0 n))
    ]
