-- Lists that change at one place, facts of each element, and beginnings of lists.
use Rattle.std.proofs.Common.{◌≡◌, ◌≢◌, ℕ, zero, suc, ◌+◌, ◌<◌, ◌≤◌, List, [], ◌∷◌, ◌++◌, length, set, refl, sym, subst, ⊎_elim, arith, length-append}
use Rattle.std.specs.Prelude.{All}
use Rattle.std.proofs.lemmas.List.{get_or_append_left, get_or-append-add}
use mathlib.Core.Option.{some, some-ne-none}
use lib.ListN.{get_elem?}
use Rattle.atomic_table.proofs.Lists.{at_set, at_snoc}

module _ {A : Type 0} where
  pub is_within : (l : List A) (i : ℕ) (a : A) → get_elem? l i ≡ some a → i < length l
  is_within [] i a e = absurd (some-ne-none a (sym e))
  is_within (x ∷ xs) zero a e = omega arith
  is_within (x ∷ xs) (suc i) a e = omega (arith, is_within xs i a e)

  pub each_set : (P : A → Type 0) (l : List A) (i : ℕ) (w : A) → P w → ((by : ℕ) (u : A) → by ≢ i → get_elem? l by ≡ some u → P u) → (by : ℕ) (u : A) → get_elem? (set l i w) by ≡ some u → P u
  each_set P l i w mine others by u e = ⊎_elim
      (λ (t : (by ≡ i) × (w ≡ u)). subst P t.1 mine)
      (λ (t : (by ≢ i) × (get_elem? l by ≡ some u)). others by u t.0 t.1)
      (at_set l i by w u e)

  pub each_push : (P : A → Type 0) (l : List A) (w : A) → P w → ((by : ℕ) (u : A) → get_elem? l by ≡ some u → P u) → (by : ℕ) (u : A) → get_elem? (l ++ w ∷ []) by ≡ some u → P u
  each_push P l w mine others by u e = ⊎_elim
      (λ (t : get_elem? l by ≡ some u). others by u t)
      (λ (t : w ≡ u). subst P t mine)
      (at_snoc l w u by e)

  pub All-front : (P : A → Type 0) (xs ys : List A) → All P (xs ++ ys) → All P xs
  All-front P xs ys h k d lt = subst P (get_or_append_left xs ys d k lt) (h k d (omega (arith, length-append xs ys)))

  pub All-behind : (P : A → Type 0) (xs ys : List A) → All P (xs ++ ys) → All P ys
  All-behind P xs ys h k d lt = subst P (get_or-append-add xs ys k d) (h (length xs + k) d (omega (arith, length-append xs ys)))

  pub All_map : (P Q : A → Type 0) (xs : List A) → ((x : A) → P x → Q x) → All P xs → All Q xs
  All_map P Q xs f h k d lt = f _ (h k d lt)

  pub All_both : (P Q S : A → Type 0) (xs : List A) → ((x : A) → P x → Q x → S x) → All P xs → All Q xs → All S xs
  All_both P Q S xs f a b k d lt = f _ (a k d lt) (b k d lt)

  -- two beginnings of one list, the shorter of which begins the longer
  pub begins_longer : (xs ys more rest : List A) → xs ++ more ≡ ys ++ rest → length xs ≤ length ys → (mid : List A) × (ys ≡ xs ++ mid) × (more ≡ mid ++ rest)
  begins_longer [] ys more rest e h = (ys, refl, e)
  begins_longer (x ∷ xs) [] more rest e h = absurd (omega arith)
  begins_longer (x ∷ xs) (y ∷ ys) more rest e h = let t = begins_longer xs ys more rest (cc) (omega arith) in (t.0, (let d : x ≡ y = cc in let f : ys ≡ xs ++ t.0 = t.1 in cc), t.2)
