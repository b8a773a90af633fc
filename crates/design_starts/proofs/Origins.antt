-- What a bit comes from by more wires, and that as many wires as there are bits suffice.
use Rattle.std.proofs.Common.{◌≡◌, ℕ, zero, suc, ◌+◌, ◌-◌, ◌⊎◌, length, refl, sym, ◌∙◌, ap, subst, arith, inl, inr, Bool, true, false, not, cond, Option, Some, None}
use Rattle.std.proofs.lemmas.Bool.{cases_Bool, cond-false}
use Rattle.circuit.specs.Valid.{net_holds}
use Rattle.circuit.specs.Valuation.{drive_of}
use Rattle.circuit.specs.declared.netlist.By.{By}
use Rattle.circuit.specs.declared.netlist.By.TheVariants as by
use Rattle.circuit.specs.declared.netlist.Circuit.{Circuit}
use Rattle.circuit.specs.declared.netlist.Drive.{Drive}
use Rattle.circuit.proofs.Counting.{IsItem, Within, chain_end}
use Rattle.driver_check.specs.Depends.{Bit}
use Rattle.design_starts.specs.Origins.{origin, origin_at, origin_by, origin_within}
use Rattle.design_starts.proofs.Bits.{bits_from, holds_bit, item_bits, length_bits}

abbrev Finds : Type 0
Finds = ℕ → ℕ → Option Bit

abbrev DoesFind : Finds → Finds → Type 0
DoesFind f g = (n b : ℕ) (r : Bit) → f n b ≡ Some r → g n b ≡ Some r

by_up : (f g : Finds) → DoesFind f g → (d : By) (i : ℕ) (r : Bit) → origin_by f d i ≡ Some r → origin_by g d i ≡ Some r
by_up f g up (by.Const v) i r e = cc e
by_up f g up (by.Input n at) i r e = cc e
by_up f g up (by.Wire n at) i r e = up n (at + i) r e
by_up f g up (by.Cell n at) i r e = cc e
by_up f g up (by.Reg n at) i r e = e
by_up f g up (by.Read m n at) i r e = cc e

at_up : (f g : Finds) → DoesFind f g → (bit : ℕ) (m : Option Drive) (r : Bit) → origin_at f bit m ≡ Some r → origin_at g bit m ≡ Some r
at_up f g up bit None r e = cc e
at_up f g up bit (Some d) r e = by_up f g up d.by (bit - d.at) r e

cond_up : (t : Bool) (a b : Option Bit) (r : Bit) → (a ≡ Some r → b ≡ Some r) → cond t a None ≡ Some r → cond t b None ≡ Some r
cond_up true a b r up e = up e
cond_up false a b r up e = cc e

step_up : (c : Circuit) (s t : ℕ) → DoesFind (origin_within c s) (origin_within c t) → DoesFind (origin_within c (suc s)) (origin_within c (suc t))
unfolding origin_within
step_up c s t up net bit r e =
    cond_up (net_holds c.nets net (suc bit)) (origin_at (origin_within c s) bit (drive_of c net bit)) (origin_at (origin_within c t) bit (drive_of c net bit)) r
    (at_up (origin_within c s) (origin_within c t) up bit (drive_of c net bit) r) e

pub origin_more : (c : Circuit) (s : ℕ) → DoesFind (origin_within c s) (origin_within c (suc s))
unfolding origin_within
origin_more c zero net bit r e = cc e
origin_more c (suc s) net bit r e = step_up c s (suc s) (origin_more c s) net bit r e

pub origin_later : (c : Circuit) (s k : ℕ) → DoesFind (origin_within c s) (origin_within c (k + s))
origin_later c s zero net bit r e = subst (λ (n : ℕ). origin_within c n net bit ≡ Some r) (let z : s ≡ 0 + s = omega arith in z) e
origin_later c s (suc k) net bit r e =
    subst (λ (n : ℕ). origin_within c n net bit ≡ Some r) (let z : suc (k + s) ≡ suc k + s = omega arith in z) (origin_more c (k + s) net bit r (origin_later c s k net bit r e))

pub one_origin : (c : Circuit) (s t net bit : ℕ) (r q : Bit) → origin_within c s net bit ≡ Some r → origin_within c t net bit ≡ Some q → r ≡ q
one_origin c s t net bit r q e f =
    let z : s + t ≡ t + s = omega arith in
    let g : Some r ≡ Some q = sym (origin_later c s t net bit r e) ∙ sym (ap (λ (n : ℕ). origin_within c n net bit) z) ∙ origin_later c t s net bit q f in
    cc g

pub outside_none : (c : Circuit) (s net bit : ℕ) → net_holds c.nets net (suc bit) ≡ false → origin_within c s net bit ≡ None
unfolding origin_within
outside_none c zero net bit off = refl
outside_none c (suc s) net bit off =
    cond-false (net_holds c.nets net (suc bit)) (origin_at (origin_within c s) bit (drive_of c net bit)) None off

-- ---- as many wires as there are bits

-- a bit's register is known, or it is no bit of a net
abbrev settled : Option Bit → Bool → Bool
settled None holds = not holds
settled (Some r) holds = true

settled_up : (o p : Option Bit) (holds : Bool) → ((r : Bit) → o ≡ Some r → p ≡ Some r) → settled o holds ≡ true → settled p holds ≡ true
settled_up None None holds up e = e
settled_up None (Some r) holds up e = refl
settled_up (Some r) p holds up e = ap (λ (q : Option Bit). settled q holds) (up r refl)

settled_out : (o : Option Bit) → settled o false ≡ true
settled_out None = refl
settled_out (Some r) = refl

settled_back : (o p : Option Bit) (holds : Bool) (r : Bit) → settled o holds ≡ true → p ≡ Some r → (holds ≡ false → p ≡ None) → ((q : Bit) → o ≡ Some q → p ≡ Some q) → o ≡ Some r
settled_back None p true r e is off up = cc e
settled_back None p false r e is off up = let z : Some r ≡ None = sym is ∙ off refl in cc z
settled_back (Some q) p holds r e is off up = sym (up q refl) ∙ is

module _ (c : Circuit) where
  abbrev holds : Bit → Bool
  holds x = net_holds c.nets x.0 (suc x.1)

  abbrev is_settled : ℕ → Bit → Bool
  is_settled s x = settled (origin_within c s x.0 x.1) (holds x)

  stays_settled : (s : ℕ) → Within (is_settled s) (is_settled (suc s))
  stays_settled s x e = settled_up (origin_within c s x.0 x.1) (origin_within c (suc s) x.0 x.1) (holds x) (origin_more c s x.0 x.1) e

  finds_back : (s : ℕ) → Within (is_settled (suc s)) (is_settled s) → DoesFind (origin_within c (suc s)) (origin_within c s)
  finds_back s down net bit r e =
      settled_back (origin_within c s net bit) (origin_within c (suc s) net bit) (holds (net, bit)) r
      (down (net, bit) (ap (λ (o : Option Bit). settled o (holds (net, bit))) e))
      e (outside_none c (suc s) net bit) (origin_more c s net bit)

  keeps_settled : (s : ℕ) → Within (is_settled (suc s)) (is_settled s) → Within (is_settled (suc (suc s))) (is_settled (suc s))
  keeps_settled s down x e =
      settled_up (origin_within c (suc (suc s)) x.0 x.1) (origin_within c (suc s) x.0 x.1) (holds x) (step_up c (suc s) s (finds_back s down) x.0 x.1) e

  other_settled : (s : ℕ) (x : Bit) → IsItem x (bits_from 0 c.nets) ⊎ (is_settled s x ≡ true)
  other_settled s x = elim (cases_Bool (holds x)) [
    | inl on ↦
        (let b = holds_bit c.nets x.0 x.1 on in
        let z : x.0 + 0 ≡ x.0 = omega arith in
        inl (subst (λ (n : ℕ). IsItem (n, x.1) (bits_from 0 c.nets)) z (item_bits 0 c.nets x.0 x.1 b.0 b.1 b.2)))
    | inr off ↦ inr (ap (settled (origin_within c s x.0 x.1)) off ∙ settled_out (origin_within c s x.0 x.1))
  ]

  abbrev most : ℕ
  most = length (bits_from 0 c.nets)

  -- what is found by any number of wires is the origin
  pub origin_found : (s net bit : ℕ) (r : Bit) → origin_within c s net bit ≡ Some r → origin c net bit ≡ Some r
  origin_found s net bit r e =
      subst (λ (n : ℕ). origin_within c n net bit ≡ Some r) (length_bits 0 c.nets)
      (found (origin_within c most net bit) refl)
    where
      on : holds (net, bit) ≡ true
      on = elim (cases_Bool (holds (net, bit))) [
        | inl h ↦ h
        | inr off ↦ (let z : Some r ≡ None = sym e ∙ outside_none c s net bit off in cc z)
      ]

      ends : settled (origin_within c most net bit) (holds (net, bit)) ≡ true
      ends = chain_end (bits_from 0 c.nets) is_settled stays_settled keeps_settled other_settled s (net, bit) (ap (λ (o : Option Bit). settled o (holds (net, bit))) e)

      found : (o : Option Bit) → origin_within c most net bit ≡ o → origin_within c most net bit ≡ Some r
      found None is = let z : false ≡ true = sym (ap not on) ∙ sym (ap (λ (o : Option Bit). settled o (holds (net, bit))) is) ∙ ends in cc z
      found (Some q) is = is ∙ ap (λ (x : Bit). Some x) (one_origin c most s net bit q r is e)
