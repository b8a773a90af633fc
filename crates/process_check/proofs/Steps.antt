-- The first of what the elements of a list give, one by one.
use Rattle.std.proofs.Common.{◌≡◌, ℕ, suc, ◌+◌, ◌<◌, List, [], ◌∷◌, ◌++◌, length, get_or, drop, drop-cons, add-one, flat_map, Some, None, refl, sym, ap, ◌∙◌}
use Rattle.std.specs.Prelude.{slice_get}

drop_item : {X : Type 0} (xs : List X) (i : ℕ) (x : X) → i < length xs → x ≡ get_or xs i x → drop i xs ≡ x ∷ drop (i + 1) xs
drop_item xs i x below e = rw (add-one, drop-cons xs i x) (ap (λ y. y ∷ drop (suc i) xs) (sym e))

front : {Y : Type 0} (zs ws : List Y) (y : Y) → Some y ≡ slice_get zs 0 → Some y ≡ slice_get (zs ++ ws) 0
front [] ws y e = cc e
front (z ∷ zs) ws y e = e

nothing : {Y : Type 0} (zs ws : List Y) → None ≡ slice_get zs 0 → zs ++ ws ≡ ws
nothing [] ws e = refl
nothing (z ∷ zs) ws e = cc e

turn : {X Y : Type 0} (f : X → List Y) (all : List Y) (xs : List X) (i : ℕ) (x : X)
    → i < length xs → x ≡ get_or xs i x → all ≡ flat_map f (drop i xs) → all ≡ f x ++ flat_map f (drop (i + 1) xs)
turn f all xs i x below e h = h ∙ ap (flat_map f) (drop_item xs i x below e)

-- the element at this place gives the first
pub first_here : {X Y : Type 0} (f : X → List Y) (all : List Y) (xs : List X) (i : ℕ) (x : X) (y : Y)
    → i < length xs → x ≡ get_or xs i x → all ≡ flat_map f (drop i xs) → Some y ≡ slice_get (f x) 0 → Some y ≡ slice_get all 0
first_here f all xs i x y below e h g = front (f x) (flat_map f (drop (i + 1) xs)) y g ∙ ap (λ ys. slice_get ys 0) (sym (turn f all xs i x below e h))

-- the element at this place gives nothing
pub none_here : {X Y : Type 0} (f : X → List Y) (all : List Y) (xs : List X) (i : ℕ) (x : X)
    → i < length xs → x ≡ get_or xs i x → all ≡ flat_map f (drop i xs) → None ≡ slice_get (f x) 0 → all ≡ flat_map f (drop (i + 1) xs)
none_here f all xs i x below e h g = turn f all xs i x below e h ∙ nothing (f x) (flat_map f (drop (i + 1) xs)) g
