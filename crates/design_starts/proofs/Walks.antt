-- The steps of a walk along wires keep what it knows.
use Rattle.std.proofs.Common.{◌≡◌, ℕ, zero, suc, ◌+◌, ◌≤◌, ◌⊎◌, List, [], ◌∷◌, ◌++◌, length, set, refl, sym, ◌∙◌, ap, subst, arith, inl, inr, Some, length-set}
use Rattle.std.specs.Prelude.{slice_get}
use Rattle.circuit.specs.declared.netlist.Circuit.{Circuit}
use Rattle.driver_check.specs.Depends.{Bit}
use Rattle.driver_check.specs.Numbers.{IsBit, bit_number}
use Rattle.driver_check.proofs.Numbered.{number_once}
use Rattle.driver_check.proofs.Places.{kept, last, pushed, same, was_set, within}
use Rattle.design_starts.specs.Chains.{IsKnown, IsOnWay, IsOrigin, IsPassed, IsTable, IsWalked, IsWalking, Leads, Stands, one_wire, taken_of, wires_left}
use Rattle.design_starts.specs.declared.taken.Taken.{Taken}
use Rattle.design_starts.specs.declared.taken.Taken.TheVariants as taken
use Rattle.design_starts.proofs.Ways.{circle_origin, leads_more, leads_nowhere, origin_back, outside_origin, taken_nothing, taken_register}

-- ---- wires that are left

pub wires_fewer : (table : List Taken) (place net bit : ℕ) → slice_get table place ≡ Some (taken.Bit net bit) → wires_left (set table place taken.Nothing) + 1 ≤ wires_left table
unfolding wires_left
wires_fewer [] place net bit e = cc e
wires_fewer (t ∷ ts) zero net bit e =
    let same_entry : Some t ≡ Some (taken.Bit net bit) = e in
    let z : t ≡ taken.Bit net bit = cc same_entry in
    let one : one_wire t ≡ 1 = ap one_wire z in
    let g : 0 + wires_left ts + 1 ≤ one_wire t + wires_left ts = omega arith in g
wires_fewer (t ∷ ts) (suc place) net bit e =
    let h : wires_left (set ts place taken.Nothing) + 1 ≤ wires_left ts = wires_fewer ts place net bit e in
    let g : one_wire t + wires_left (set ts place taken.Nothing) + 1 ≤ one_wire t + wires_left ts = omega arith in g

-- ---- the end of a walk

-- what stands where a walk has come to is what that bit comes from, if it is no bit
end_origin : (c : Circuit) (from : Bit) (table : List Taken) (path : List ℕ) (at : Bit) → IsWalking c from table path at → IsBit c.nets at
    → (t : Taken) → Stands c table at t → one_wire t ≡ 0 → IsOrigin c at t
end_origin c from table path at w b t is end = elim (w.known at t b is) [
  | inl p ↦
      (let l = w.passed at b p.0 in
      subst (λ (v : Taken). IsOrigin c at v) (sym p.1) (circle_origin c l.0 at l.1))
  | inr k ↦ elim k [
    | inl e ↦ here t e end
    | inr o ↦ o
  ]
]
  where
    here : (v : Taken) → v ≡ taken_of c at → one_wire v ≡ 0 → IsOrigin c at v
    here taken.Nothing e z = taken_nothing c at b e
    here (taken.Bit net bit) e z = absurd (omega (arith, z))
    here (taken.Register register bit) e z = taken_register c at register bit b e

walked : (c : Circuit) (from : Bit) (table : List Taken) (path : List ℕ) (at : Bit) → IsWalking c from table path at → (t : Taken) → IsOrigin c at t → IsWalked c from table path t
walked c from table path at w t o = record {
  start = origin_back c w.start.0 from at t w.start.1 o;
  passed = λ x b p. let l = w.passed x b p in origin_back c (suc l.0) x at t l.1 o;
  inside = w.inside;
  known = λ x u b is. elim (w.known x u b is) [ inl p ↦ inl p.0 | inr k ↦ inr k ];
}

pub way_outside : (c : Circuit) (from : Bit) (table : List Taken) (path : List ℕ) (net bit : ℕ) → IsWalking c from table path (net, bit) → (IsBit c.nets (net, bit) → ⊥) → IsOnWay c from table path taken.Nothing
way_outside c from table path net bit w out = walked c from table path (net, bit) w taken.Nothing (outside_origin c net bit out)

pub way_nothing : (c : Circuit) (from : Bit) (table : List Taken) (path : List ℕ) (at : Bit) → IsWalking c from table path at → IsBit c.nets at → Stands c table at taken.Nothing → IsOnWay c from table path taken.Nothing
way_nothing c from table path at w b is = walked c from table path at w taken.Nothing (end_origin c from table path at w b taken.Nothing is refl)

pub way_register : (c : Circuit) (from : Bit) (table : List Taken) (path : List ℕ) (at : Bit) (register bit : ℕ) → IsWalking c from table path at → IsBit c.nets at → Stands c table at (taken.Register register bit) → IsOnWay c from table path (taken.Register register bit)
way_register c from table path at register bit w b is =
    walked c from table path at w (taken.Register register bit) (end_origin c from table path at w b (taken.Register register bit) is refl)

pub no_wire : (t : Taken) → ((net bit : ℕ) → t ≡ taken.Bit net bit → ⊥) → one_wire t ≡ 0
no_wire taken.Nothing never = refl
no_wire (taken.Bit net bit) never = absurd (never net bit refl)
no_wire (taken.Register register bit) never = refl

pub way_end : (c : Circuit) (from : Bit) (table : List Taken) (path : List ℕ) (at : Bit) → IsWalking c from table path at → IsBit c.nets at
    → (t : Taken) → ((net bit : ℕ) → t ≡ taken.Bit net bit → ⊥) → Stands c table at t → IsOnWay c from table path t
way_end c from table path at w b taken.Nothing never is = way_nothing c from table path at w b is
way_end c from table path at w b (taken.Bit net bit) never is = absurd (never net bit refl)
way_end c from table path at w b (taken.Register register bit) never is = way_register c from table path at register bit w b is

pub way_walked : (c : Circuit) (from : Bit) (table : List Taken) (path : List ℕ) (t : Taken) → IsOnWay c from table path t → ((net bit : ℕ) → t ≡ taken.Bit net bit → ⊥) → IsWalked c from table path t
way_walked c from table path taken.Nothing w never = w
way_walked c from table path (taken.Bit net bit) w never = absurd (never net bit refl)
way_walked c from table path (taken.Register register bit) w never = w

-- ---- one wire more

module _ (c : Circuit) (from : Bit) (table : List Taken) (path : List ℕ) (at : Bit) (net bit : ℕ) (w : IsWalking c from table path at) (b : IsBit c.nets at) (is : Stands c table at (taken.Bit net bit)) where
  abbrev place : ℕ
  place = bit_number c.nets at

  abbrev now : List Taken
  now = set table place taken.Nothing

  abbrev longer : List ℕ
  longer = path ++ place ∷ []

  by_wire : taken_of c at ≡ taken.Bit net bit
  by_wire = elim (w.known at (taken.Bit net bit) b is) [
    | inl p ↦ (let z : taken.Bit net bit ≡ taken.Nothing = p.1 in cc z)
    | inr k ↦ elim k [ inl e ↦ sym e | inr o ↦ absurd o ]
  ]

  same_place : (x : Bit) → IsBit c.nets x → bit_number c.nets x ≡ place → x ≡ at
  same_place x bx e =
      let s = number_once c.nets x at bx b e in
      subst (λ (n : ℕ). ◌≡◌ {A = Bit} x (n, at.1)) s.0 (subst (λ (m : ℕ). ◌≡◌ {A = Bit} x (x.0, m)) s.1 refl)

  passed_more : (p : ℕ) → IsPassed path p → IsPassed longer p
  passed_more p h = (h.0, kept path (place ∷ []) h.0 p h.1)

  pub way_on : IsWalking c from now longer (net, bit)
  way_on = record {
    start = (suc w.start.0, leads_more c w.start.0 from at (net, bit) w.start.1 b by_wire);
    passed = λ x bx p. elim (pushed path place p.0 (bit_number c.nets x) p.1) [
      | inl old ↦ (let l = w.passed x bx (p.0, old) in (suc l.0, leads_more c (suc l.0) x at (net, bit) l.1 b by_wire))
      | inr new ↦
          (let e = same_place x bx (sym new.1) in
          (0, subst (λ (v : Bit). Leads c 1 v (net, bit)) (sym e) (leads_more c 0 at at (net, bit) (leads_nowhere c at) b by_wire)))
    ];
    inside = λ k p e. elim (pushed path place k p e) [
      | inl old ↦ (let h = w.inside k p old in omega (arith, h, length-set table place taken.Nothing))
      | inr new ↦ (let h = within table place (taken.Bit net bit) is in omega (arith, h, new.1, length-set table place taken.Nothing))
    ];
    known = λ x t bx s. elim (was_set table place (bit_number c.nets x) taken.Nothing t s) [
      | inl here ↦ inl ((length path, subst (λ (n : ℕ). slice_get longer (length path) ≡ Some n) (sym here.0) (last path place)), here.1)
      | inr old ↦ elim (w.known x t bx old.1) [
        | inl p ↦ inl (passed_more (bit_number c.nets x) p.0, p.1)
        | inr k ↦ inr k
      ]
    ];
  }

-- ---- before and behind a walk

no_place : (k p : ℕ) → slice_get [] k ≡ Some p → ⊥
no_place k p e = cc e

pub way_begins : (c : Circuit) (from : Bit) (table : List Taken) (path : List ℕ) → path ≡ [] → IsTable c table → IsWalking c from table path from
way_begins c from table path empty t = record {
  start = (0, leads_nowhere c from);
  passed = λ x b p. absurd (nothing p.0 (bit_number c.nets x) p.1);
  inside = λ k p e. absurd (nothing k p e);
  known = λ x u b is. inr (t x u b is);
}
  where
    nothing : (k p : ℕ) → slice_get path k ≡ Some p → ⊥
    nothing k p e = no_place k p (sym (ap (λ (xs : List ℕ). slice_get xs k) empty) ∙ e)

pub table_kept : (c : Circuit) (from : Bit) (table now : List Taken) (path : List ℕ) (end : Taken) → IsWalked c from table path end
    → ((place : ℕ) → IsPassed path place → slice_get now place ≡ Some end)
    → ((place : ℕ) → (IsPassed path place × (slice_get now place ≡ Some end)) ⊎ (slice_get now place ≡ slice_get table place))
    → IsTable c now
table_kept c from table now path end w passed others x t b is = elim (others (bit_number c.nets x)) [
  | inl p ↦ there p.0
  | inr e ↦ elim (w.known x t b (sym e ∙ is)) [ inl p ↦ there p | inr k ↦ k ]
]
  where
    there : IsPassed path (bit_number c.nets x) → IsKnown c x t
    there p =
        let z : end ≡ t = same now (bit_number c.nets x) end t (passed (bit_number c.nets x) p) is in
        inr (subst (λ (v : Taken). IsOrigin c x v) z (w.passed x b p))
