-- An element of a list that one more is added to.
use Rattle.std.proofs.Common.{◌≡◌, ℕ, zero, suc, ◌⊎◌, List, [], ◌∷◌, ◌++◌, length, refl, ap, inl, inr, Some}
use Rattle.std.specs.Prelude.{slice_get}

pub get_left : {X : Type 0} (xs ys : List X) (i : ℕ) (x : X) → slice_get xs i ≡ Some x → slice_get (xs ++ ys) i ≡ Some x
get_left [] ys i x e = cc e
get_left (a ∷ xs) ys zero x e = e
get_left (a ∷ xs) ys (suc i) x e = get_left xs ys i x e

pub get_last : {X : Type 0} (xs : List X) (y : X) → slice_get (xs ++ y ∷ []) (length xs) ≡ Some y
get_last [] y = refl
get_last (a ∷ xs) y = get_last xs y

pub get_push : {X : Type 0} (xs : List X) (y : X) (i : ℕ) (x : X) → slice_get (xs ++ y ∷ []) i ≡ Some x → (slice_get xs i ≡ Some x) ⊎ ((i ≡ length xs) × (x ≡ y))
get_push [] y zero x e = let f : x ≡ y = cc e in inr (refl, f)
get_push [] y (suc i) x e = cc e
get_push (a ∷ xs) y zero x e = inl e
get_push (a ∷ xs) y (suc i) x e = elim (get_push xs y i x e) [ inl h ↦ inl h | inr h ↦ inr (ap suc h.0, h.1) ]
