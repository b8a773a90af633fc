-- Tests of what is made number by number.
use Rattle.std.proofs.Common.{◌≡◌, ℕ, zero, suc, ◌+◌, ◌*◌, ◌<◌, ◌≤◌, List, map, flat_map, Bool, true, refl, arith, mul-le-mul_right}
use Rattle.std.specs.List.{list_all, range_with_len}
use Rattle.std.proofs.lemmas.Bool.{and_from}
use Rattle.design_valid.proofs.Lists.{all_both}

pub all_over : {X : Type 0} (test : X → Bool) (f : ℕ → X) (from count : ℕ) → ((i : ℕ) → from ≤ i → i < from + count → test (f i) ≡ true) → list_all test (map f (range_with_len from count)) ≡ true
all_over test f from zero h = refl
all_over test f from (suc n) h =
    and_from (test (f from)) (list_all test (map f (range_with_len (from + 1) n))) (h from (omega arith) (omega arith))
    (all_over test f (from + 1) n (λ i low high. h i (omega (arith, low)) (omega (arith, high))))

pub all_flat : {X : Type 0} (test : X → Bool) (f : ℕ → List X) (from count : ℕ) → ((i : ℕ) → from ≤ i → i < from + count → list_all test (f i) ≡ true) → list_all test (flat_map f (range_with_len from count)) ≡ true
all_flat test f from zero h = refl
all_flat test f from (suc n) h =
    all_both test (f from) (flat_map f (range_with_len (from + 1) n)) (h from (omega arith) (omega arith))
    (all_flat test f (from + 1) n (λ i low high. h i (omega (arith, low)) (omega (arith, high))))

-- one of so many parts of a width stands inside of all
pub in_step : (i count width : ℕ) → i < count → i * width + width ≤ count * width
in_step i count width lt = let next : i + 1 ≤ count = omega (arith, lt) in omega (arith, mul-le-mul_right width next)
