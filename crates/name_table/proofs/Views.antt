-- A table's pairs as its map has them.
use Rattle.std.proofs.Common.{◌≡◌, Bool, true, false, cond, List, [], ◌∷◌, ◌++◌, map, Some, refl, ap}
use Rattle.std.specs.Map.{lookup}

pub lookup_in_view : {K L X : Type 0} (key : K → L) (test : L → Bool) (xs : List (K × X)) → lookup test (map (λ e. (key e.0, e.1)) xs) ≡ lookup (λ k. test (key k)) xs
lookup_in_view key test [] = refl
lookup_in_view key test (x ∷ xs) = elim (test (key x.0)) as (λ b. cond b (Some x.1) (lookup test (map (λ e. (key e.0, e.1)) xs)) ≡ cond b (Some x.1) (lookup (λ k. test (key k)) xs)) [ true ↦ refl | false ↦ lookup_in_view key test xs ]

pub view_behind : {K L X : Type 0} (key : K → L) (xs : List (K × X)) (k : K) (v : X) → map {B = L × X} (λ e. (key e.0, e.1)) (xs ++ (k, v) ∷ []) ≡ map {B = L × X} (λ e. (key e.0, e.1)) xs ++ (key k, v) ∷ []
view_behind key [] k v = refl
view_behind key (x ∷ xs) k v = ap (λ rest. (key x.0, x.1) ∷ rest) (view_behind key xs k v)
