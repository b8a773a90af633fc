-- Elements of lists by their places.
use Rattle.std.proofs.Common.{◌≡◌, ◌≢◌, ℕ, zero, suc, ◌+◌, ◌<◌, ◌⊎◌, List, [], ◌∷◌, ◌++◌, length, set, refl, sym, ◌∙◌, ap, subst, arith, inl, inr, Some, get_or, length-set, length-append}
use Rattle.std.proofs.lemmas.List.{get_or_append_left}
use Rattle.std.proofs.Math.Seq.{get_or-append_seam}
use Rattle.std.specs.Prelude.{slice_get, slice_index}
use Rattle.std.proofs.lemmas.Bool.{cases_eq}

pub within : {X : Type 0} (xs : List X) (i : ℕ) (x : X) → slice_get xs i ≡ Some x → i < length xs
within [] i x e = cc e
within (y ∷ xs) zero x e = omega arith
within (y ∷ xs) (suc i) x e = let h : i < length xs = within xs i x e in omega arith

pub found : {X : Type 0} (xs : List X) (i : ℕ) → i < length xs → (x : X) × (slice_get xs i ≡ Some x)
found [] i lt = absurd (let h : i < 0 = lt in omega arith)
found (y ∷ xs) zero lt = (y, refl)
found (y ∷ xs) (suc i) lt = found xs i (let h : suc i < suc (length xs) = lt in omega arith)

pub same : {X : Type 0} (xs : List X) (i : ℕ) (x y : X) → slice_get xs i ≡ Some x → slice_get xs i ≡ Some y → x ≡ y
same xs i x y p q = let e : Some x ≡ Some y = sym p ∙ q in cc e

pub kept : {X : Type 0} (xs ys : List X) (i : ℕ) (x : X) → slice_get xs i ≡ Some x → slice_get (xs ++ ys) i ≡ Some x
kept [] ys i x e = cc e
kept (y ∷ xs) ys zero x e = e
kept (y ∷ xs) ys (suc i) x e = kept xs ys i x e

pub last : {X : Type 0} (xs : List X) (x : X) → slice_get (xs ++ x ∷ []) (length xs) ≡ Some x
last [] x = refl
last (y ∷ xs) x = last xs x

-- an element of a list with one more
pub pushed : {X : Type 0} (xs : List X) (x : X) (i : ℕ) (y : X) → slice_get (xs ++ x ∷ []) i ≡ Some y → (slice_get xs i ≡ Some y) ⊎ ((i ≡ length xs) × (x ≡ y))
pushed [] x zero y e = inr (refl, let h : Some x ≡ Some y = e in cc h)
pushed [] x (suc i) y e = cc e
pushed (z ∷ xs) x zero y e = inl e
pushed (z ∷ xs) x (suc i) y e = elim (pushed xs x i y e) [
  | inl h ↦ inl h
  | inr h ↦ inr (let a : i ≡ length xs = h.0 in ap (λ (n : ℕ). suc n) a, h.1)
]

pub set_same : {X : Type 0} (xs : List X) (i : ℕ) (x : X) → i < length xs → slice_get (set xs i x) i ≡ Some x
set_same [] i x lt = absurd (let h : i < 0 = lt in omega arith)
set_same (y ∷ xs) zero x lt = refl
set_same (y ∷ xs) (suc i) x lt = set_same xs i x (let h : suc i < suc (length xs) = lt in omega arith)

pub set_other : {X : Type 0} (xs : List X) (i j : ℕ) (x : X) → j ≢ i → slice_get (set xs i x) j ≡ slice_get xs j
set_other [] i j x ne = refl
set_other (y ∷ xs) zero zero x ne = absurd (ne refl)
set_other (y ∷ xs) zero (suc j) x ne = refl
set_other (y ∷ xs) (suc i) zero x ne = refl
set_other (y ∷ xs) (suc i) (suc j) x ne = set_other xs i j x (λ e. ne (ap (λ (n : ℕ). suc n) e))

-- an element after one was set
pub was_set : {X : Type 0} (xs : List X) (i j : ℕ) (x y : X) → slice_get (set xs i x) j ≡ Some y → ((j ≡ i) × (y ≡ x)) ⊎ ((j ≢ i) × (slice_get xs j ≡ Some y))
was_set xs i j x y e = elim (cases_eq j i) [
  | inl at ↦ inl (
    at,
    same (set xs i x) i y x (subst (λ (n : ℕ). slice_get (set xs i x) n ≡ Some y) at e)
        (set_same xs i x (let h : i < length (set xs i x) = within (set xs i x) i y (subst (λ (n : ℕ). slice_get (set xs i x) n ≡ Some y) at e) in omega (arith, length-set xs i x))),
  )
  | inr ne ↦ inr (ne, sym (set_other xs i j x ne) ∙ e)
]

pub read : {X : Type 0} (xs : List X) (i : ℕ) (x : X) → i < length xs → x ≡ get_or xs i x → slice_get xs i ≡ Some x
read [] i x lt e = absurd (let h : i < 0 = lt in omega arith)
read (y ∷ xs) zero x lt e = let h : x ≡ y = e in ap (λ (z : _). Some z) (sym h)
read (y ∷ xs) (suc i) x lt e = read xs i x (let h : suc i < suc (length xs) = lt in omega arith) e

pub index_kept : (xs : List ℕ) (x i : ℕ) → i < length xs → slice_index (xs ++ x ∷ []) i ≡ slice_index xs i
index_kept xs x i lt = get_or_append_left xs (x ∷ []) 0 i lt

pub index_last : (xs : List ℕ) (x i : ℕ) → i ≡ length xs → slice_index (xs ++ x ∷ []) i ≡ x
index_last xs x i e = ap (slice_index (xs ++ x ∷ [])) e ∙ get_or-append_seam xs x [] 0

pub length_pushed : {X : Type 0} (xs ys : List X) (x : X) → ys ≡ xs ++ x ∷ [] → length ys ≡ length xs + 1
length_pushed xs ys x e = ap length e ∙ length-append xs (x ∷ [])
