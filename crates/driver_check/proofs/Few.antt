-- Elements whose numbers are different and below a bound are at most so many.
use Rattle.std.proofs.Common.{◌≡◌, ◌≢◌, ℕ, zero, suc, ◌<◌, ◌≤◌, List, [], ◌∷◌, length, map, get_or, refl, sym, ◌∙◌, ap, arith, true, Some, eqb}
use Rattle.std.specs.Prelude.{slice_get, AllPairs}
use Rattle.std.specs.List.{list_any}
use Rattle.std.proofs.lemmas.List.{length-map}
use Rattle.std.proofs.lemmas.List.Folds.{Any-from_list_any}
use Rattle.std.proofs.lemmas.Map.Made.{IsDistinct-from_AllPairs}
use Rattle.std.proofs.lemmas.Map.Steps.{length-le_from_distinct_below}
use Rattle.std.proofs.lemmas.Option.{slice_get-get_or}
use Rattle.std.specs.Cmp.{unsigned_Decides}

mapped : {X : Type 0} (f : X → ℕ) (xs : List X) (i v : ℕ) → slice_get (map f xs) i ≡ Some v → (x : X) × (slice_get xs i ≡ Some x) × (f x ≡ v)
mapped f [] i v e = cc e
mapped f (x ∷ xs) zero v e = (x, refl, let h : Some (f x) ≡ Some v = e in cc h)
mapped f (x ∷ xs) (suc i) v e = mapped f xs i v e

pub few : {X : Type 0} (f : X → ℕ) (xs : List X) (n : ℕ) → ((i j : ℕ) (x y : X) → slice_get xs i ≡ Some x → slice_get xs j ≡ Some y → f x ≡ f y → i ≡ j) → ((i : ℕ) (x : X) → slice_get xs i ≡ Some x → f x < n) → length xs ≤ n
few f xs n apart below =
    let low = length-le_from_distinct_below (map f xs) n (IsDistinct-from_AllPairs unsigned_Decides (map f xs) pairs) any_below in
    let long = length-map xs f in
    omega (arith, low, long)
  where
    pairs : AllPairs (λ (v w : ℕ). v ≢ w) (map f xs)
    pairs i j d lt inside e =
        let x = mapped f xs i (get_or (map f xs) i d) (slice_get-get_or (map f xs) i d (omega (arith, lt, inside))) in
        let y = mapped f xs j (get_or (map f xs) j d) (slice_get-get_or (map f xs) j d inside) in
        let z = apart i j x.0 y.0 x.1 y.1 (x.2 ∙ e ∙ sym y.2) in
        omega (arith, lt, z)

    any_below : (q : ℕ) → list_any (eqb q) (map f xs) ≡ true → q < n
    any_below q h =
        let a = Any-from_list_any (eqb q) (map f xs) h in
        let at = slice_get-get_or (map f xs) a.0 a.1 a.2 in
        let x = mapped f xs a.0 a.1 (at ∙ ap (λ (v : ℕ). Some v) a.3) in
        let e : q ≡ a.1 = (unsigned_Decides q a.1).0 a.4 in
        let lt = below a.0 x.0 x.1 in
        omega (arith, lt, x.2, e)
