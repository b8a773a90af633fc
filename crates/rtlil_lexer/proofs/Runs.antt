-- Runs of bytes at the front of a text.
use Rattle.std.proofs.Common.{◌≡◌, ℕ, suc, ◌+◌, cond, Bool, true, false, List, [], ◌∷◌, ◌++◌, length, take, drop, refl, sym, ap, subst, ◌∙◌, arith}
use Rattle.std.specs.List.{list_all, prefix_len, take_while}
use Rattle.std.proofs.lemmas.Bool.{and_parts, and_from}
use Rattle.rtlil_lexer.specs.Reading.{NotOn}

pub take_all : {X : Type 0} (xs ys : List X) → take (length xs) (xs ++ ys) ≡ xs
take_all [] ys = refl
take_all (x ∷ xs) ys = ap (λ zs. x ∷ zs) (take_all xs ys)

pub drop_all_of : {X : Type 0} (xs ys : List X) → drop (length xs) (xs ++ ys) ≡ ys
drop_all_of [] ys = refl
drop_all_of (x ∷ xs) ys = drop_all_of xs ys

cond_true : {X : Type 0} (b : Bool) (x y : X) → b ≡ true → cond b x y ≡ x
cond_true b x y e = ap (λ t. cond t x y) e

cond_false : {X : Type 0} (b : Bool) (x y : X) → b ≡ false → cond b x y ≡ y
cond_false b x y e = ap (λ t. cond t x y) e

one_more : (n : ℕ) → 1 + n ≡ suc n
one_more n = omega arith

pub passing : (p : ℕ → Bool) (b : ℕ) (text : List ℕ) → p b ≡ true → prefix_len p (b ∷ text) ≡ suc (prefix_len p text)
passing p b text e = cond_true (p b) (1 + prefix_len p text) 0 e ∙ one_more (prefix_len p text)

pub failing : (p : ℕ → Bool) (b : ℕ) (text : List ℕ) → p b ≡ false → prefix_len p (b ∷ text) ≡ 0
failing p b text e = cond_false (p b) (1 + prefix_len p text) 0 e

-- what passes is counted up to the first byte that does not
pub counted : (p : ℕ → Bool) (bytes rest : List ℕ) → list_all p bytes ≡ true → NotOn p rest → prefix_len p (bytes ++ rest) ≡ length bytes
counted p [] [] each ends = refl
counted p [] (r ∷ rest) each ends = failing p r rest ends
counted p (b ∷ bytes) rest each ends =
    let parts = and_parts (p b) (list_all p bytes) each in
    passing p b (bytes ++ rest) parts.0 ∙ ap suc (counted p bytes rest parts.1 ends)

pub taken : (p : ℕ → Bool) (bytes rest : List ℕ) → list_all p bytes ≡ true → NotOn p rest → take_while p (bytes ++ rest) ≡ bytes
taken p bytes rest each ends = ap (λ n. take n (bytes ++ rest)) (counted p bytes rest each ends) ∙ take_all bytes rest

front_each_by : (p : ℕ → Bool) (b : ℕ) (text : List ℕ) (t : Bool) → p b ≡ t → list_all p (take_while p text) ≡ true → list_all p (take_while p (b ∷ text)) ≡ true
front_each_by p b text true e each = ap (λ n. list_all p (take n (b ∷ text))) (passing p b text e) ∙ and_from (p b) (list_all p (take_while p text)) e each
front_each_by p b text false e each = ap (λ n. list_all p (take n (b ∷ text))) (failing p b text e)

pub front_each : (p : ℕ → Bool) (text : List ℕ) → list_all p (take_while p text) ≡ true
front_each p [] = refl
front_each p (b ∷ text) = front_each_by p b text (p b) refl (front_each p text)

front_ends_by : (p : ℕ → Bool) (b : ℕ) (text : List ℕ) (t : Bool) → p b ≡ t → NotOn p (drop (prefix_len p text) text) → NotOn p (drop (prefix_len p (b ∷ text)) (b ∷ text))
front_ends_by p b text true e ends = subst (λ n. NotOn p (drop n (b ∷ text))) (sym (passing p b text e)) ends
front_ends_by p b text false e ends = subst (λ n. NotOn p (drop n (b ∷ text))) (sym (failing p b text e)) e

pub front_ends : (p : ℕ → Bool) (text : List ℕ) → NotOn p (drop (prefix_len p text) text)
front_ends p [] = tt
front_ends p (b ∷ text) = front_ends_by p b text (p b) refl (front_ends p text)
