-- The front of a list that passes a test.
use Rattle.std.proofs.Common.{◌≡◌, ℕ, suc, ◌+◌, Bool, true, false, cond, ◌&&◌, List, [], ◌∷◌, take, refl, ap, ◌∙◌, arith}
use Rattle.std.specs.List.{list_all, prefix_len}

front_bit : (p : ℕ → Bool) (x : ℕ) (xs : List ℕ) (b : Bool) → p x ≡ b → list_all p (take (prefix_len p xs) xs) ≡ true → list_all p (take (cond b (1 + prefix_len p xs) 0) (x ∷ xs)) ≡ true
front_bit p x xs true is rest =
    let e : 1 + prefix_len p xs ≡ suc (prefix_len p xs) = omega arith in
    ap (λ n. list_all p (take n (x ∷ xs))) e ∙ ap (λ b. b && list_all p (take (prefix_len p xs) xs)) is ∙ rest
front_bit p x xs false is rest = refl

pub all_of_front : (p : ℕ → Bool) (xs : List ℕ) → list_all p (take (prefix_len p xs) xs) ≡ true
all_of_front p [] = refl
all_of_front p (x ∷ xs) = front_bit p x xs (p x) refl (all_of_front p xs)
