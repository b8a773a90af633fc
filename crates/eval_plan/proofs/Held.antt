-- The root of each bit.
use Rattle.std.proofs.Common.{◌≡◌, ℕ, ◌+◌, ◌-◌, ◌<◌, List, length, refl, sym, ◌∙◌, subst, arith, inl, inr, cond, Bool, true, false, Some, nat_le, nat_lt, ◌&&◌}
use Rattle.std.specs.Prelude.{slice_get, slice_index}
use Rattle.std.proofs.lemmas.Bool.{and_from, and_parts, cases_Bool, cases_eq, cond-false, cond-true, le-leb, leb-true, lt-ltb, ltb-true}
use Rattle.circuit.specs.Valuation.{covers}
use Rattle.circuit.specs.declared.netlist.Circuit.{Circuit}
use Rattle.circuit.specs.declared.netlist.Drive.{Drive}
use Rattle.driver_check.specs.Depends.{Bit}
use Rattle.eval_plan.specs.TableInvariants.{AreHeld, nobody, AreHolders, IsHolder}
use Rattle.driver_check.specs.Numbers.{IsBit, IsIn, IsInsideNet, bit_count, before, bit_number, start_of, width_of}
use Rattle.eval_plan.specs.Roots.{AreRoots, CoversIn}
use Rattle.driver_check.proofs.Places.{same, within}
use Rattle.driver_check.proofs.Fitting.{fits_inside}
use Rattle.driver_check.proofs.Numbered.{bit_at_number, bit_below, number_once}
use Rattle.driver_check.proofs.Owned.{covers_from, covers_in}

pub root_inside : (c : Circuit) (roots : List Drive) → AreRoots c roots → (k : ℕ) (r : Drive) → slice_get roots k ≡ Some r → IsInsideNet c.nets r
root_inside c roots are k r at = fits_inside c r (are.right k r at).inside

inside_covers : (c : Circuit) (d : Drive) → IsInsideNet c.nets d → (x : Bit) → IsBit c.nets x → IsIn (start_of c.nets d) d.width (bit_number c.nets x) → covers x.0 x.1 d ≡ true
inside_covers c d n x b h =
    let first = before width_of c.nets d.net in
    let bit = bit_number c.nets x - first in
    let y : Bit = (d.net, bit) in
    let is : IsBit c.nets y = (n.0, n.1, omega (arith, n.2, h.0, h.1)) in
    let there : covers y.0 y.1 d ≡ true = covers_from d d.net bit refl (omega (arith, h.0)) (omega (arith, h.0, h.1)) in
    let s = number_once c.nets y x is b (omega (arith, h.0)) in
    subst (λ (k : ℕ). covers k x.1 d ≡ true) s.0 (subst (λ (k : ℕ). covers y.0 k d ≡ true) s.1 there)

abbrev test : ℕ → ℕ → ℕ → Bool
test first width v = nat_le first v && nat_lt v (first + width)

pub no_holders : (c : Circuit) (roots : List Drive) (holders : List ℕ) → ((v : ℕ) → v < bit_count c.nets → slice_index holders v ≡ nobody) → AreHolders c roots 0 holders
no_holders c roots holders none x b = inr (none (bit_number c.nets x) (bit_below c.nets x b), λ k r lt cov. absurd (omega (arith, lt)))

module _ (c : Circuit) (roots : List Drive) (are : AreRoots c roots) (t : ℕ) (r : Drive) (at : slice_get roots t ≡ Some r) (holders after : List ℕ) (was : AreHolders c roots t holders) where
  pub holders_more : ((v : ℕ) → slice_index after v ≡ cond (test (start_of c.nets r) r.width v) t (slice_index holders v)) → AreHolders c roots (t + 1) after
  holders_more set x b =
      let v = bit_number c.nets x in
      let first = start_of c.nets r in
      elim (cases_Bool (test first r.width v)) [
        | inl on ↦
            (let e : slice_index after v ≡ t = set v ∙ cond-true (test first r.width v) t (slice_index holders v) on in
            let p = and_parts (nat_le first v) (nat_lt v (first + r.width)) on in
            let cov = inside_covers c r (root_inside c roots are t r at) x b (leb-true first v p.0, ltb-true v (first + r.width) p.1) in
            subst (λ (n : ℕ). IsHolder roots (t + 1) x n) (sym e) (inl (omega arith, (r, (at, cov)))))
        | inr off ↦
            (let e : slice_index after v ≡ slice_index holders v = set v ∙ cond-false (test first r.width v) t (slice_index holders v) off in
            subst (λ (n : ℕ). IsHolder roots (t + 1) x n) (sym e) (elim (was x b) [
              | inl h ↦ inl (omega (arith, h.0), h.1)
              | inr h ↦ inr (
                h.0,
                λ k d lt cov. elim (cases_eq k t) [
                  | inl y ↦
                      (let z : d ≡ r = same roots t d r (subst (λ (n : ℕ). slice_get roots n ≡ Some d) y cov.0) at in
                      let here = covers_in c r x (subst (λ (q : Drive). covers x.0 x.1 q ≡ true) z cov.1) in
                      let on = and_from (nat_le first v) (nat_lt v (first + r.width)) (le-leb first v here.0) (lt-ltb v (first + r.width) here.1) in
                      let w : true ≡ false = sym on ∙ off in cc w)
                  | inr n ↦ h.1 k d (omega (arith, lt, n)) cov
                ],
              )
            ]))
      ]

pub holders_held : (c : Circuit) (roots : List Drive) (holders : List ℕ) → length holders ≡ bit_count c.nets → AreHolders c roots (length roots) holders → AreHeld holders (length roots)
holders_held c roots holders long are w lt some =
    let x = bit_at_number c.nets w (omega (arith, lt, long)) in
    elim (subst (λ (n : ℕ). IsHolder roots (length roots) x.0 (slice_index holders n)) x.2 (are x.0 x.1)) [
      | inl h ↦ h.0
      | inr h ↦ absurd (some h.0)
    ]

-- the root that holds a bit covers it
pub held_covers : (c : Circuit) (roots : List Drive) (holders : List ℕ) → AreHolders c roots (length roots) holders → (x : Bit) → IsBit c.nets x → (r : ℕ) → slice_index holders (bit_number c.nets x) ≡ r → (r ≡ nobody → ⊥) → (d : Drive) × CoversIn roots r d x
held_covers c roots holders are x b r is some = elim (are x b) [
  | inl h ↦ subst (λ (n : ℕ). (d : Drive) × CoversIn roots n d x) is h.1
  | inr h ↦ absurd (some (sym is ∙ h.0))
]

pub covers_held : (c : Circuit) (roots : List Drive) → AreRoots c roots → (holders : List ℕ) → AreHolders c roots (length roots) holders → (x : Bit) → IsBit c.nets x → (r : ℕ) (d : Drive) → CoversIn roots r d x → slice_index holders (bit_number c.nets x) ≡ r
covers_held c roots is holders are x b r d cov = elim (are x b) [
  | inl h ↦ is.once (slice_index holders (bit_number c.nets x)) r h.1.0 d x h.1.1 cov
  | inr h ↦ absurd (h.1 r d (within roots r d cov.0) cov)
]
