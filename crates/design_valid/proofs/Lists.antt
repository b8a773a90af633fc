-- Tests of lists, and of their parts.
use Rattle.std.proofs.Common.{◌≡◌, List, [], ◌∷◌, ◌++◌, length, Bool, true, Some, refl}
use Rattle.std.specs.Prelude.{slice_get}
use Rattle.std.specs.List.{list_all}
use Rattle.std.proofs.lemmas.Bool.{and_from, and_parts}

pub all_both : {X : Type 0} (test : X → Bool) (xs ys : List X) → list_all test xs ≡ true → list_all test ys ≡ true → list_all test (xs ++ ys) ≡ true
all_both test [] ys f g = g
all_both test (x ∷ xs) ys f g =
    let both = and_parts (test x) (list_all test xs) f in
    and_from (test x) (list_all test (xs ++ ys)) both.0 (all_both test xs ys both.1 g)

pub all_one : {X : Type 0} (test : X → Bool) (x : X) → test x ≡ true → list_all test (x ∷ []) ≡ true
all_one test x h = and_from (test x) true h refl

-- what is appended stands behind what was there
pub last_stands : {X : Type 0} (xs : List X) (x : X) → slice_get (xs ++ x ∷ []) (length xs) ≡ Some x
last_stands [] x = refl
last_stands (y ∷ ys) x = last_stands ys x
