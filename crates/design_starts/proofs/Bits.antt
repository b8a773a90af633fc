-- All bits of all nets.
use Rattle.std.proofs.Common.{◌≡◌, ℕ, zero, suc, ◌+◌, ◌<◌, ◌≤◌, List, [], ◌∷◌, ◌++◌, length, refl, ◌∙◌, ap, subst, arith, inl, inr, true, Option, Some, None, sum_by, length-append}
use Rattle.std.specs.Prelude.{slice_get}
use Rattle.std.proofs.lemmas.Bool.{cases_eq, leb-true, le-leb}
use Rattle.std.proofs.lemmas.List.Sums.{sum_by-cons}
use Rattle.circuit.specs.Valid.{net_holds, reaches}
use Rattle.circuit.specs.declared.netlist.Net.{Net}
use Rattle.circuit.proofs.Counting.{IsItem}
use Rattle.driver_check.specs.Depends.{Bit}
use Rattle.driver_check.specs.Numbers.{IsBit}

pub holds_bit : (nets : List Net) (net bit : ℕ) → net_holds nets net (suc bit) ≡ true → IsBit nets (net, bit)
holds_bit nets net bit h = found (slice_get nets net) refl h
  where
    found : (m : Option Net) → slice_get nets net ≡ m → reaches (suc bit) m ≡ true → IsBit nets (net, bit)
    found None at on = cc on
    found (Some x) at on = (x, at, (let le : suc bit ≤ x.width = leb-true (suc bit) x.width on in omega (arith, le)))

pub bit_holds : (nets : List Net) (net bit : ℕ) → IsBit nets (net, bit) → net_holds nets net (suc bit) ≡ true
bit_holds nets net bit b = ap (reaches (suc bit)) b.1 ∙ le-leb (suc bit) b.0.width (omega (arith, b.2))

net_bits : ℕ → ℕ → List Bit
net_bits n zero = []
net_bits n (suc w) = (n, w) ∷ net_bits n w

pub bits_from : ℕ → List Net → List Bit
bits_from n [] = []
bits_from n (x ∷ xs) = net_bits n x.width ++ bits_from (suc n) xs

length_net : (n w : ℕ) → length (net_bits n w) ≡ w
unfolding net_bits
length_net n zero = refl
length_net n (suc w) = let e : length (net_bits n w) ≡ w = length_net n w in omega arith

pub length_bits : (n : ℕ) (xs : List Net) → length (bits_from n xs) ≡ sum_by (λ x. x.width) xs
unfolding bits_from
length_bits n [] = refl
length_bits n (x ∷ xs) =
    length-append (net_bits n x.width) (bits_from (suc n) xs)
    ∙ (let a : length (net_bits n x.width) ≡ x.width = length_net n x.width in
    let b : length (bits_from (suc n) xs) ≡ sum_by (λ y. y.width) xs = length_bits (suc n) xs in
    let s : sum_by (λ (y : Net). y.width) (x ∷ xs) ≡ x.width + sum_by (λ y. y.width) xs = sum_by-cons (λ (y : Net). y.width) x xs in omega arith)

item_left : {X : Type 0} (x : X) (xs ys : List X) → IsItem x xs → IsItem x (xs ++ ys)
unfolding IsItem
item_left x [] ys i = absurd i
item_left x (y ∷ xs) ys (inl e) = inl e
item_left x (y ∷ xs) ys (inr i) = inr (item_left x xs ys i)

item_right : {X : Type 0} (x : X) (xs ys : List X) → IsItem x ys → IsItem x (xs ++ ys)
unfolding IsItem
item_right x [] ys i = i
item_right x (y ∷ xs) ys i = inr (item_right x xs ys i)

item_net : (n w bit : ℕ) → bit < w → IsItem (n, bit) (net_bits n w)
unfolding net_bits IsItem
item_net n zero bit lt = absurd (omega (arith, lt))
item_net n (suc w) bit lt = elim (cases_eq w bit) [
  | inl e ↦ inl (ap (λ (b : ℕ). (n, b)) e)
  | inr ne ↦ inr (item_net n w bit (omega (arith, lt, ne)))
]

pub item_bits : (n : ℕ) (xs : List Net) (k bit : ℕ) (x : Net) → slice_get xs k ≡ Some x → bit < x.width → IsItem (k + n, bit) (bits_from n xs)
unfolding bits_from
item_bits n [] k bit x e lt = cc e
item_bits n (y ∷ xs) zero bit x e lt =
    let same : x ≡ y = cc e in
    let z : n ≡ 0 + n = omega arith in
    item_left (0 + n, bit) (net_bits n y.width) (bits_from (suc n) xs)
    (subst (λ (m : ℕ). IsItem (m, bit) (net_bits n y.width)) z (item_net n y.width bit (let w : x.width ≡ y.width = ap (λ (v : Net). v.width) same in omega (arith, lt))))
item_bits n (y ∷ xs) (suc k) bit x e lt =
    let z : k + suc n ≡ suc k + n = omega arith in
    item_right (suc k + n, bit) (net_bits n y.width) (bits_from (suc n) xs)
    (subst (λ (m : ℕ). IsItem (m, bit) (bits_from (suc n) xs)) z (item_bits (suc n) xs k bit x e lt))
