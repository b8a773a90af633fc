-- The bits of all nets are all that a drive may cover, and in a circuit in order the digits are the one valuation.
use Rattle.std.proofs.Common.{◌≡◌, ℕ, zero, suc, ◌+◌, ◌-◌, ◌<◌, ◌⊎◌, List, [], ◌∷◌, ◌++◌, length, refl, sym, ◌∙◌, ap, subst, arith, inl, inr, Bool, true, eqb, leb, ltb, ◌&&◌, Option, Some, None, sum_by, length-append}
use Rattle.std.specs.Prelude.{find, slice_get}
use Rattle.std.proofs.lemmas.Bool.{cases_eq, cases_Bool, and_parts, eqb-true, ltb-true, cond-true, cond-false}
use Rattle.std.proofs.lemmas.List.Sums.{sum_by-cons}
use Rattle.circuit.specs.Signal.{Digits}
use Rattle.circuit.specs.State.{State}
use Rattle.circuit.specs.Valuation.{covers, drive_of, driven, given, bits_of, digit_at, IsValuation}
use Rattle.circuit.specs.Acyclic.{acyclic_within, drive_acyclic, AreDrivesInside, IsInOrder}
use Rattle.circuit.specs.declared.netlist.Circuit.{Circuit}
use Rattle.circuit.specs.declared.netlist.Drive.{Drive}
use Rattle.circuit.specs.declared.netlist.Net.{Net}
use Rattle.circuit.proofs.Counting.{IsItem, chain_end}
use Rattle.circuit.proofs.Freed.{free_more, free_keeps, free_unique, valuation_from_free}

net_bits : ℕ → ℕ → List (ℕ × ℕ)
net_bits n zero = []
net_bits n (suc w) = (n, w) ∷ net_bits n w

-- the bits of all nets
bits_from : ℕ → List Net → List (ℕ × ℕ)
bits_from n [] = []
bits_from n (x ∷ xs) = net_bits n x.width ++ bits_from (suc n) xs

length_net : (n w : ℕ) → length (net_bits n w) ≡ w
unfolding net_bits
length_net n zero = refl
length_net n (suc w) = let e : length (net_bits n w) ≡ w = length_net n w in omega arith

length_bits : (n : ℕ) (xs : List Net) → length (bits_from n xs) ≡ sum_by (λ x. x.width) xs
unfolding bits_from
length_bits n [] = refl
length_bits n (x ∷ xs) =
    length-append (net_bits n x.width) (bits_from (suc n) xs)
    ∙ (let a : length (net_bits n x.width) ≡ x.width = length_net n x.width in
    let b : length (bits_from (suc n) xs) ≡ sum_by (λ y. y.width) xs = length_bits (suc n) xs in
    let s : sum_by (λ (y : Net). y.width) (x ∷ xs) ≡ x.width + sum_by (λ y. y.width) xs = sum_by-cons (λ (y : Net). y.width) x xs in omega arith)

item_left : {X : Type 0} (x : X) (xs ys : List X) → IsItem x xs → IsItem x (xs ++ ys)
unfolding IsItem
item_left x [] ys i = absurd i
item_left x (y ∷ xs) ys (inl e) = inl e
item_left x (y ∷ xs) ys (inr i) = inr (item_left x xs ys i)

item_right : {X : Type 0} (x : X) (xs ys : List X) → IsItem x ys → IsItem x (xs ++ ys)
unfolding IsItem
item_right x [] ys i = i
item_right x (y ∷ xs) ys i = inr (item_right x xs ys i)

item_net : (n w bit : ℕ) → bit < w → IsItem (n, bit) (net_bits n w)
unfolding net_bits IsItem
item_net n zero bit lt = absurd (omega (arith, lt))
item_net n (suc w) bit lt = elim (cases_eq w bit) [
  | inl e ↦ inl (ap (λ (b : ℕ). (n, b)) e)
  | inr ne ↦ inr (item_net n w bit (omega (arith, lt, ne)))
]

item_bits : (n : ℕ) (xs : List Net) (k bit : ℕ) (x : Net) → slice_get xs k ≡ Some x → bit < x.width → IsItem (k + n, bit) (bits_from n xs)
unfolding bits_from
item_bits n [] k bit x e lt = cc e
item_bits n (y ∷ xs) zero bit x e lt =
    let same : x ≡ y = cc e in
    let z : n ≡ 0 + n = omega arith in
    item_left (0 + n, bit) (net_bits n y.width) (bits_from (suc n) xs)
    (subst (λ (m : ℕ). IsItem (m, bit) (net_bits n y.width)) z (item_net n y.width bit (let w : x.width ≡ y.width = ap (λ (v : Net). v.width) same in omega (arith, lt))))
item_bits n (y ∷ xs) (suc k) bit x e lt =
    let z : k + suc n ≡ suc k + n = omega arith in
    item_right (suc k + n, bit) (net_bits n y.width) (bits_from (suc n) xs)
    (subst (λ (m : ℕ). IsItem (m, bit) (bits_from (suc n) xs)) z (item_bits (suc n) xs k bit x e lt))

find_at : (test : Drive → Bool) (xs : List Drive) (d : Drive) → find test xs ≡ Some d → (i : ℕ) × (slice_get xs i ≡ Some d) × (test d ≡ true)
find_at test [] d e = cc e
find_at test (x ∷ xs) d e = elim (cases_Bool (test x)) [
  | inl on ↦
      (let f : Some x ≡ Some d = sym (cond-true (test x) (Some x) (find test xs) on) ∙ e in
      let g : x ≡ d = cc f in (0, f, ap test (sym g) ∙ on))
  | inr off ↦
      (let r = find_at test xs d (sym (cond-false (test x) (Some x) (find test xs) off) ∙ e) in (suc r.0, r.1, r.2))
]

covered : (c : Circuit) → AreDrivesInside c → (net bit : ℕ) (m : Option Drive) → drive_of c net bit ≡ m → IsItem (net, bit) (bits_from 0 c.nets) ⊎ (m ≡ None)
covered c inside net bit None e = inr refl
covered c inside net bit (Some d) e =
    let f = find_at (covers net bit) c.drives d e in
    let h = inside f.0 d f.1 in
    let p = and_parts (eqb d.net net) (leb d.at bit && ltb bit (d.at + d.width)) f.2 in
    let q = and_parts (leb d.at bit) (ltb bit (d.at + d.width)) p.1 in
    let n : d.net ≡ net = eqb-true d.net net p.0 in
    let z : d.net + 0 ≡ net = omega arith in
    inl (subst (λ (m : ℕ). IsItem (m, bit) (bits_from 0 c.nets)) z
    (item_bits 0 c.nets d.net bit h.0 h.1 (omega (arith, ltb-true bit (d.at + d.width) q.1, h.2))))

-- a list of all bits that some drive may cover
abbrev AreAllBits : Circuit → List (ℕ × ℕ) → Type 0
AreAllBits c bits = (net bit : ℕ) → IsItem (net, bit) bits ⊎ (drive_of c net bit ≡ None)

all_bits : (c : Circuit) → AreDrivesInside c → AreAllBits c (bits_from 0 c.nets)
all_bits c inside net bit = covered c inside net bit (drive_of c net bit) refl

find_none : (test : Drive → Bool) (xs : List Drive) → find test xs ≡ None → (i : ℕ) (d : Drive) → slice_get xs i ≡ Some d → test d ≡ true → ⊥
find_none test [] none i d at on = cc at
find_none test (x ∷ xs) none zero d at on =
    let e : x ≡ d = cc at in
    let t : test x ≡ true = ap test e ∙ on in
    let f : Some x ≡ None = sym (cond-true (test x) (Some x) (find test xs) t) ∙ none in cc f
find_none test (x ∷ xs) none (suc i) d at on = elim (cases_Bool (test x)) [
  | inl t ↦ (let f : Some x ≡ None = sym (cond-true (test x) (Some x) (find test xs) t) ∙ none in cc f)
  | inr off ↦ find_none test xs (sym (cond-false (test x) (Some x) (find test xs) off) ∙ none) i d at on
]

none_free : (c : Circuit) (s net bit : ℕ) → drive_of c net bit ≡ None → acyclic_within c (suc s) net bit ≡ true
unfolding acyclic_within
none_free c s net bit e = ap (drive_acyclic c (acyclic_within c s) bit) e

abbrev bit_free : Circuit → ℕ → ℕ × ℕ → Bool
bit_free c s x = acyclic_within c (suc s) x.0 x.1

other_free : (c : Circuit) (bits : List (ℕ × ℕ)) → AreAllBits c bits → (s : ℕ) (x : ℕ × ℕ) → IsItem x bits ⊎ (bit_free c s x ≡ true)
other_free c bits all s x = elim (all x.0 x.1) [ inl i ↦ inl i | inr none ↦ inr (none_free c s x.0 x.1 none) ]

-- every bit is free within as many steps as there are bits, and one
pub free_in_time : (c : Circuit) → IsInOrder c → (net bit : ℕ) → acyclic_within c (suc (bits_of c)) net bit ≡ true
free_in_time c order net bit =
    subst (λ (n : ℕ). acyclic_within c (suc n) net bit ≡ true) (length_bits 0 c.nets)
    (let h = order.acyclic net bit in
    chain_end (bits_from 0 c.nets) (bit_free c) (λ s x e. free_more c (suc s) x.0 x.1 e) (λ s down x e. free_keeps c (suc s) (λ n b. down (n, b)) x.0 x.1 e) (other_free c (bits_from 0 c.nets) (all_bits c order.inside)) h.0 (net, bit) (free_more c h.0 net bit h.1))

-- the digits are a valuation
pub is_valuation : (c : Circuit) (state : State) (inputs : List ℕ) → IsInOrder c → IsValuation c state inputs (digit_at c state inputs)
is_valuation c state inputs order = valuation_from_free c state inputs (suc (bits_of c)) (free_in_time c order)

-- and the only one
pub only_valuation : (c : Circuit) (state : State) (inputs : List ℕ) (digits : Digits) → IsInOrder c → IsValuation c state inputs digits → (net bit : ℕ) → digits net bit ≡ digit_at c state inputs net bit
only_valuation c state inputs digits order v net bit =
    free_unique c state inputs digits (digit_at c state inputs) v (is_valuation c state inputs order) (suc (bits_of c)) net bit (free_in_time c order net bit)

-- a drive that covers a bit is the bit's drive
pub drive_is : (c : Circuit) → IsInOrder c → (i net bit : ℕ) (d : Drive) → slice_get c.drives i ≡ Some d → covers net bit d ≡ true → drive_of c net bit ≡ Some d
drive_is c order i net bit d at cov = one_drive (drive_of c net bit) refl
  where
    same : (e : Drive) → drive_of c net bit ≡ Some e → e ≡ d
    same e found =
        let f = find_at (covers net bit) c.drives e found in
        let j : f.0 ≡ i = order.once f.0 i net bit e d f.1 at f.2 cov in
        let z : Some e ≡ Some d = sym f.1 ∙ ap (slice_get c.drives) j ∙ at in
        cc z

    one_drive : (m : Option Drive) → drive_of c net bit ≡ m → drive_of c net bit ≡ Some d
    one_drive None none = absurd (find_none (covers net bit) c.drives none i d at cov)
    one_drive (Some e) found = found ∙ ap (λ (x : Drive). Some x) (same e found)

-- each bit has what its driver gives
pub driver_gives : (c : Circuit) (state : State) (inputs : List ℕ) → IsInOrder c → (i net bit : ℕ) (d : Drive) → slice_get c.drives i ≡ Some d → covers net bit d ≡ true → digit_at c state inputs net bit ≡ given c state inputs (digit_at c state inputs) d.by (bit - d.at)
driver_gives c state inputs order i net bit d at cov =
    is_valuation c state inputs order net bit ∙ ap (driven c state inputs (digit_at c state inputs) bit) (drive_is c order i net bit d at cov)
