-- Lists that grow by one at a time, each with a name of its own.
use Rattle.std.proofs.Common.{◌≡◌, ℕ, zero, suc, List, [], ◌∷◌, ◌++◌, length, Some, refl, sym, ap, ◌∙◌, ◌⊎◌, inl, inr}
use Rattle.std.specs.Prelude.{slice_get}

-- no two have one name
abbrev pub AreApart : {X : Type 0} → (X → List ℕ) → List X → Type 0
AreApart {X} name_of xs = (i j : ℕ) (x y : X) → slice_get xs i ≡ Some x → slice_get xs j ≡ Some y → name_of x ≡ name_of y → i ≡ j

-- what stands in a longer list stands in the shorter list, or is the last
pub old_or_last : {X : Type 0} (xs : List X) (new : X) (n : ℕ) (x : X) → slice_get (xs ++ new ∷ []) n ≡ Some x → (slice_get xs n ≡ Some x) ⊎ ((n ≡ length xs) × (x ≡ new))
old_or_last [] new zero x e = let same : new ≡ x = cc e in inr (refl, sym same)
old_or_last [] new (suc n) x e = cc e
old_or_last (y ∷ ys) new zero x e = inl e
old_or_last {X} (y ∷ ys) new (suc n) x e = by (old_or_last ys new n x e)
  where
    by : (slice_get ys n ≡ Some x) ⊎ ((n ≡ length ys) × (x ≡ new)) → (slice_get ys n ≡ Some x) ⊎ ((suc n ≡ suc (length ys)) × (x ≡ new))
    by (inl h) = inl h
    by (inr h) = inr (ap suc h.0, h.1)

pub apart_more : {X : Type 0} (name_of : X → List ℕ) (xs : List X) (new : X) → AreApart name_of xs → ((n : ℕ) (x : X) → slice_get xs n ≡ Some x → name_of x ≡ name_of new → ⊥) → AreApart name_of (xs ++ new ∷ [])
apart_more {X} name_of xs new apart own i j x y e f same = by (old_or_last xs new i x e) (old_or_last xs new j y f)
  where
    by : (slice_get xs i ≡ Some x) ⊎ ((i ≡ length xs) × (x ≡ new)) → (slice_get xs j ≡ Some y) ⊎ ((j ≡ length xs) × (y ≡ new)) → i ≡ j
    by (inl a) (inl b) = apart i j x y a b same
    by (inl a) (inr b) = absurd (own i x a (same ∙ ap name_of b.1))
    by (inr a) (inl b) = absurd (own j y b (sym same ∙ ap name_of a.1))
    by (inr a) (inr b) = a.0 ∙ sym b.0
