-- Bits that wires lead from one to another.
use Rattle.std.proofs.Common.{◌≡◌, ℕ, zero, suc, ◌+◌, ◌*◌, ◌-◌, refl, sym, ◌∙◌, ap, subst, arith, inl, inr, Option, Some, None, mul-suc}
use Rattle.std.proofs.lemmas.Bool.{cases_Bool, cond-true}
use Rattle.circuit.specs.Valid.{net_holds}
use Rattle.circuit.specs.Valuation.{drive_of}
use Rattle.circuit.specs.declared.netlist.By.{By}
use Rattle.circuit.specs.declared.netlist.By.TheVariants as by
use Rattle.circuit.specs.declared.netlist.Circuit.{Circuit}
use Rattle.circuit.specs.declared.netlist.Drive.{Drive}
use Rattle.driver_check.specs.Depends.{Bit}
use Rattle.driver_check.specs.Numbers.{IsBit}
use Rattle.design_starts.specs.Chains.{IsOrigin, Leads, taken_at, taken_by, taken_of}
use Rattle.design_starts.specs.Origins.{origin_at, origin_by, origin_within}
use Rattle.design_starts.specs.declared.taken.Taken.{Taken}
use Rattle.design_starts.specs.declared.taken.Taken.TheVariants as taken
use Rattle.design_starts.proofs.Bits.{bit_holds, holds_bit}
use Rattle.design_starts.proofs.Origins.{origin_later, outside_none}

abbrev ended : (ℕ → ℕ → Option Bit) → Taken → Option Bit
ended more taken.Nothing = None
ended more (taken.Bit net bit) = more net bit
ended more (taken.Register register bit) = Some (register, bit)

by_ended : (more : ℕ → ℕ → Option Bit) (d : By) (i : ℕ) → origin_by more d i ≡ ended more (taken_by d i)
by_ended more (by.Const v) i = refl
by_ended more (by.Input n at) i = refl
by_ended more (by.Wire n at) i = refl
by_ended more (by.Cell n at) i = refl
by_ended more (by.Reg n at) i = refl
by_ended more (by.Read m n at) i = refl

at_ended : (more : ℕ → ℕ → Option Bit) (bit : ℕ) (m : Option Drive) → origin_at more bit m ≡ ended more (taken_at bit m)
at_ended more bit None = refl
at_ended more bit (Some d) = by_ended more d.by (bit - d.at)

one_step : (c : Circuit) (s : ℕ) (x : Bit) → IsBit c.nets x → origin_within c (suc s) x.0 x.1 ≡ ended (origin_within c s) (taken_of c x)
unfolding origin_within
one_step c s x b =
    cond-true (net_holds c.nets x.0 (suc x.1)) (origin_at (origin_within c s) x.1 (drive_of c x.0 x.1)) None (bit_holds c.nets x.0 x.1 b)
    ∙ at_ended (origin_within c s) x.1 (drive_of c x.0 x.1)

-- what is no bit of a net comes from nothing
pub outside_origin : (c : Circuit) (net bit : ℕ) → (IsBit c.nets (net, bit) → ⊥) → IsOrigin c (net, bit) taken.Nothing
outside_origin c net bit out s = elim (cases_Bool (net_holds c.nets net (suc bit))) [
  | inl on ↦ absurd (out (holds_bit c.nets net bit on))
  | inr off ↦ outside_none c s net bit off
]

-- what a bit is taken from is what it comes from, if that is no bit
pub taken_nothing : (c : Circuit) (x : Bit) → IsBit c.nets x → taken.Nothing ≡ taken_of c x → IsOrigin c x taken.Nothing
unfolding origin_within
taken_nothing c x b e zero = refl
taken_nothing c x b e (suc s) = one_step c s x b ∙ ap (ended (origin_within c s)) (sym e)

pub taken_register : (c : Circuit) (x : Bit) (register bit : ℕ) → IsBit c.nets x → taken.Register register bit ≡ taken_of c x → IsOrigin c x (taken.Register register bit)
taken_register c x register bit b e = (1, one_step c 0 x b ∙ ap (ended (origin_within c 0)) (sym e))

-- ---- ways

way_ends : (c : Circuit) (s m : ℕ) (x y : Bit) → Leads c m x y → origin_within c (m + s) x.0 x.1 ≡ origin_within c s y.0 y.1
unfolding Leads
way_ends c s zero x y l =
    ap (λ (n : ℕ). origin_within c n x.0 x.1) (let z : 0 + s ≡ s = omega arith in z) ∙ ap (λ (v : Bit). origin_within c s v.0 v.1) l
way_ends c s (suc m) x y l =
    ap (λ (n : ℕ). origin_within c n x.0 x.1) (let z : suc m + s ≡ suc (m + s) = omega arith in z)
    ∙ one_step c (m + s) x l.1 ∙ ap (ended (origin_within c (m + s))) l.2 ∙ way_ends c s m l.0 y l.3

-- one wire more
pub leads_more : (c : Circuit) (m : ℕ) (x y z : Bit) → Leads c m x y → IsBit c.nets y → taken_of c y ≡ taken.Bit z.0 z.1 → Leads c (suc m) x z
unfolding Leads
leads_more c zero x y z l b t = subst (λ (v : Bit). Leads c 1 v z) (sym l) (z, b, t, refl)
leads_more c (suc m) x y z l b t = (l.0, l.1, l.2, leads_more c m l.0 y z l.3 b t)

pub leads_nowhere : (c : Circuit) (x : Bit) → Leads c 0 x x
unfolding Leads
leads_nowhere c x = refl

-- what a bit comes from, all bits come from that lead to it
pub origin_back : (c : Circuit) (m : ℕ) (x y : Bit) (t : Taken) → Leads c m x y → IsOrigin c y t → IsOrigin c x t
origin_back c m x y taken.Nothing l o = λ s. none s (origin_within c s x.0 x.1) refl
  where
    none : (s : ℕ) (p : Option Bit) → origin_within c s x.0 x.1 ≡ p → origin_within c s x.0 x.1 ≡ None
    none s None e = e
    none s (Some r) e = let z : Some r ≡ None = sym (origin_later c s m x.0 x.1 r e) ∙ way_ends c s m x y l ∙ o s in cc z
origin_back c m x y (taken.Bit net bit) l o = absurd o
origin_back c m x y (taken.Register register bit) l o = (m + o.0, way_ends c o.0 m x y l ∙ o.1)

-- so many times round
laps : (c : Circuit) (m : ℕ) (x : Bit) → Leads c (suc m) x x → (k : ℕ) → origin_within c (k * suc m) x.0 x.1 ≡ None
unfolding origin_within
laps c m x l zero = ap (λ (n : ℕ). origin_within c n x.0 x.1) (let z : 0 * suc m ≡ 0 = omega arith in z)
laps c m x l (suc k) =
    ap (λ (n : ℕ). origin_within c n x.0 x.1) (let z : suc k * suc m ≡ suc m + k * suc m = omega arith in z)
    ∙ way_ends c (k * suc m) (suc m) x x l ∙ laps c m x l k

-- a bit on a circle comes from nothing
pub circle_origin : (c : Circuit) (m : ℕ) (x : Bit) → Leads c (suc m) x x → IsOrigin c x taken.Nothing
circle_origin c m x l s = none (origin_within c s x.0 x.1) refl
  where
    none : (p : Option Bit) → origin_within c s x.0 x.1 ≡ p → origin_within c s x.0 x.1 ≡ None
    none None e = e
    none (Some r) e =
        let long : s * m + s ≡ s * suc m = sym (mul-suc s m) in
        let z : Some r ≡ None = sym (origin_later c s (s * m) x.0 x.1 r e) ∙ ap (λ (n : ℕ). origin_within c n x.0 x.1) long ∙ laps c m x l s in cc z
