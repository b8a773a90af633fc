-- The roots of a run of bits.
use Rattle.std.proofs.Common.{◌≡◌, ℕ, zero, suc, ◌+◌, ◌-◌, ◌<◌, ◌≤◌, ◌⊎◌, List, [], ◌∷◌, ◌++◌, length, refl, sym, ◌∙◌, ap, subst, arith, inl, inr, true, Option, Some, None}
use Rattle.std.specs.Prelude.{slice_get, slice_index}
use Rattle.std.specs.Int.{bit_at}
use Rattle.std.proofs.lemmas.Bool.{cases_eq, cases_lt}
use Rattle.circuit.specs.Acyclic.{AreDrivesInside, IsDrivenOnce}
use Rattle.circuit.specs.Valid.{drive_fits, drivers_of}
use Rattle.circuit.specs.Valuation.{covers, drive_of}
use Rattle.circuit.specs.declared.netlist.Circuit.{Circuit}
use Rattle.circuit.specs.declared.netlist.Drive.{Drive}
use Rattle.circuit.specs.declared.netlist.By.{By}
use Rattle.circuit.specs.declared.netlist.By.TheVariants as by
use Rattle.driver_check.specs.Depends.{Bit}
use Rattle.driver_check.specs.Numbers.{IsBit, bit_count, bit_number, start_of}
use Rattle.eval_plan.specs.Ordered.{CellBit, Digit, InputBit, ReadBit, RegBit, SourceBit, Undriven, source_at, source_by, source_within}
use Rattle.eval_plan.specs.OrderInvariants.{AreAllOrigins, IsOrigin, AreRootsOf, IsDone, IsRun}
use Rattle.eval_plan.specs.Roots.{IsWire, AreRoots, CoversIn, IsRoot, root_source}
use Rattle.driver_check.specs.Owners.{AreOwners}
use Rattle.driver_check.proofs.Places.{kept, last, pushed, same, within}
use Rattle.driver_check.proofs.Numbered.{bit_at_number, bit_below}
use Rattle.driver_check.proofs.Linked.{drive_at}
use Rattle.driver_check.proofs.Owned.{covered_is_bit, covers_from, covers_in, covers_parts, nobody_drive, offset_is, owner_drive, owner_has}

-- what is no wire names a source
named_source : (more : ℕ → ℕ → Option SourceBit) (b : By) (i : ℕ) → (IsWire b → ⊥) → (o : SourceBit) × (source_by more b i ≡ Some o) × (root_source b i ≡ Some o)
named_source more (by.Const v) i unwired = (Digit (bit_at v.number i), refl, refl)
named_source more (by.Input n at) i unwired = (InputBit n (at + i), refl, refl)
named_source more (by.Wire n at) i unwired = absurd (unwired (n, at, refl))
named_source more (by.Cell n at) i unwired = (CellBit n (at + i), refl, refl)
named_source more (by.Reg n at) i unwired = (RegBit n (at + i), refl, refl)
named_source more (by.Read m n at) i unwired = (ReadBit m n (at + i), refl, refl)

-- and what is named has a driver
named_driven : (b : By) (i : ℕ) → root_source b i ≡ Some Undriven → ⊥
named_driven (by.Const v) i e = cc e
named_driven (by.Input n at) i e = cc e
named_driven (by.Wire n at) i e = cc e
named_driven (by.Cell n at) i e = cc e
named_driven (by.Reg n at) i e = cc e
named_driven (by.Read m n at) i e = cc e

-- a bit has one source
same_some : (u o p : SourceBit) → Some u ≡ Some o → Some u ≡ Some p → o ≡ p
same_some u o p e f = let z : Some o ≡ Some p = sym e ∙ f in cc z

once_by : (more most : ℕ → ℕ → Option SourceBit) → ((n i : ℕ) (o p : SourceBit) → more n i ≡ Some o → most n i ≡ Some p → o ≡ p) → (b : By) (i : ℕ) (o p : SourceBit) → source_by more b i ≡ Some o → source_by most b i ≡ Some p → o ≡ p
once_by more most ih (by.Const v) i o p e f = same_some (Digit (bit_at v.number i)) o p e f
once_by more most ih (by.Input n at) i o p e f = same_some (InputBit n (at + i)) o p e f
once_by more most ih (by.Wire n at) i o p e f = ih n (at + i) o p e f
once_by more most ih (by.Cell n at) i o p e f = same_some (CellBit n (at + i)) o p e f
once_by more most ih (by.Reg n at) i o p e f = same_some (RegBit n (at + i)) o p e f
once_by more most ih (by.Read m n at) i o p e f = same_some (ReadBit m n (at + i)) o p e f

once_at : (more most : ℕ → ℕ → Option SourceBit) → ((n i : ℕ) (o p : SourceBit) → more n i ≡ Some o → most n i ≡ Some p → o ≡ p) → (bit : ℕ) (d : Option Drive) (o p : SourceBit) → source_at more bit d ≡ Some o → source_at most bit d ≡ Some p → o ≡ p
once_at more most ih bit None o p e f = same_some Undriven o p e f
once_at more most ih bit (Some d) o p e f = once_by more most ih d.by (bit - d.at) o p e f

pub source_once : (c : Circuit) (s r net bit : ℕ) (o p : SourceBit) → source_within c s net bit ≡ Some o → source_within c r net bit ≡ Some p → o ≡ p
unfolding source_within
source_once c zero r net bit o p e f = cc e
source_once c (suc s) zero net bit o p e f = cc f
source_once c (suc s) (suc r) net bit o p e f = once_at (source_within c s) (source_within c r) (source_once c s r) bit (drive_of c net bit) o p e f

first_source : (c : Circuit) (z : Bit) (d : Drive) → drive_of c z.0 z.1 ≡ Some d → (o : SourceBit) → source_by (source_within c 0) d.by (z.1 - d.at) ≡ Some o → source_within c 1 z.0 z.1 ≡ Some o
unfolding source_within
first_source c z d e o h = ap (source_at (source_within c 0) z.1) e ∙ h

first_none : (c : Circuit) (z : Bit) → drive_of c z.0 z.1 ≡ None → source_within c 1 z.0 z.1 ≡ Some Undriven
unfolding source_within
first_none c z e = ap (source_at (source_within c 0) z.1) e

pub no_roots : (c : Circuit) → AreRootsOf c 0 0 []
no_roots c = record {
  right = λ i r e. cc e;
  claimed = λ i r x h. absurd (let e : slice_get [] i ≡ Some r = h.0 in cc e);
  whole = λ k d x h done. absurd (elim done [ inl lt ↦ omega (arith, lt) | inr e ↦ (let p = covers_parts d x.0 x.1 h.1 in omega (arith, p.1, e.1)) ]);
  once = λ i j r q x h g. absurd (let e : slice_get [] i ≡ Some r = h.0 in cc e);
}

module _ (c : Circuit) (inside : AreDrivesInside c) (once : IsDrivenOnce c) (owners origins : List ℕ) (own : AreOwners c (length c.drives) owners) (are : AreAllOrigins c origins)
    (p a n : ℕ) (d : Drive) (at : slice_get c.drives p ≡ Some d) (some : 0 < n) (low : a + n ≤ d.width) (run : IsRun owners origins (start_of c.nets d + a) n) (roots : List Drive) (was : AreRootsOf c p a roots) where
  abbrev first : ℕ
  first = start_of c.nets d + a

  abbrev origin : ℕ
  origin = slice_index origins first

  -- a bit of the drive that is in the run
  abbrev InRun : Bit → Type 0
  InRun x = (covers x.0 x.1 d ≡ true) × (d.at + a ≤ x.1) × (x.1 < d.at + a + n)

  abbrev place_in : Bit → ℕ
  place_in x = x.1 - (d.at + a)

  number_in : (x : Bit) → InRun x → bit_number c.nets x ≡ first + place_in x
  number_in x h =
      let o = offset_is c x d h.0 in
      let i = covers_in c d x h.0 in
      omega (arith, o, h.1, i.0)

  run_bit : (x : Bit) → InRun x → IsBit c.nets x
  run_bit x h = covered_is_bit c inside p x (d, at, h.0)

  -- the origin of a bit of the run, and its owner
  run_origin : (x : Bit) → InRun x → IsOrigin c x (origin + place_in x)
  run_origin x h =
      let r = run (place_in x) (omega (arith, h.1, h.2)) in
      subst (λ (v : ℕ). IsOrigin c x v) (ap (slice_index origins) (number_in x h) ∙ r.0) (are x (run_bit x h))

  run_owner : (x : Bit) → InRun x → slice_index owners (origin + place_in x) ≡ slice_index owners origin
  run_owner x h = (run (place_in x) (omega (arith, h.1, h.2))).1

  -- a bit of the run by its place
  bit_from : (j : ℕ) → j < n → (x : Bit) × InRun x × (place_in x ≡ j)
  bit_from j lt = ((d.net, d.at + a + j), (covers_from d d.net (d.at + a + j) refl (omega arith) (omega (arith, lt, low)), omega arith, omega (arith, lt)), (let z : d.at + a + j - (d.at + a) ≡ j = omega arith in z))

  pub origin_below : origin < bit_count c.nets
  origin_below =
      let x = bit_from 0 some in
      let o = run_origin x.0 x.1 in
      let h = bit_below c.nets o.bit o.inside in
      omega (arith, h, o.number, x.2)

  -- a bit that is done with the run, and was not before
  newly : (k : ℕ) (e : Drive) (x : Bit) → CoversIn c.drives k e x → IsDone c p (a + n) k e x → IsDone c p a k e x ⊎ ((k ≡ p) × InRun x)
  newly k e x h done = elim done [
    | inl lt ↦ inl (inl lt)
    | inr eq ↦
        (let z : e ≡ d = same c.drives p e d (subst (λ (i : ℕ). slice_get c.drives i ≡ Some e) eq.0 h.0) at in
        let w : e.at ≡ d.at = ap (λ (u : Drive). u.at) z in
        elim (cases_lt x.1 (e.at + a)) [
          | inl lt ↦ inl (inr (eq.0, lt))
          | inr le ↦ inr (eq.0, (subst (λ (u : Drive). covers x.0 x.1 u ≡ true) z h.1, omega (arith, le, w), omega (arith, eq.1, w)))
        ])
  ]

  more_done : (k : ℕ) (e : Drive) (x : Bit) → IsDone c p a k e x → IsDone c p (a + n) k e x
  more_done k e x done = elim done [ inl lt ↦ inl lt | inr eq ↦ inr (eq.0, omega (arith, eq.1)) ]

  -- no drive gives the bits of the run
  pub run_without : length c.drives ≤ slice_index owners origin → AreRootsOf c p (a + n) roots
  run_without past = record {
    right = was.right;
    claimed = λ i r x h. let k = was.claimed i r x h in (k.0, k.1, k.2, more_done k.0 k.1 x k.3);
    whole = λ k e x h done. elim (newly k e x h done) [
      | inl old ↦ was.whole k e x h old
      | inr new ↦
          (let o = run_origin x new.1 in
          let owner = ap (slice_index owners) o.number ∙ run_owner x new.1 in
          let none = nobody_drive c o.bit (slice_index owners (bit_number c.nets o.bit)) (own o.bit o.inside) (omega (arith, owner, past)) in
          inr (o.leads 1 Undriven (first_none c o.bit none)))
    ];
    once = was.once;
  }

  -- the origins of the run are bits of a drive
  module _ (e : Drive) (there : slice_get c.drives (slice_index owners origin) ≡ Some e) where
    origin_drive : (x : Bit) (h : InRun x) → drive_of c (run_origin x h).bit.0 (run_origin x h).bit.1 ≡ Some e
    origin_drive x h =
        let o = run_origin x h in
        let owner = ap (slice_index owners) o.number ∙ run_owner x h in
        owner_drive c o.bit (slice_index owners (bit_number c.nets o.bit)) e (own o.bit o.inside) (subst (λ (i : ℕ). slice_get c.drives i ≡ Some e) (sym owner) there)

    origin_covered : (x : Bit) (h : InRun x) → covers (run_origin x h).bit.0 (run_origin x h).bit.1 e ≡ true
    origin_covered x h =
        let o = run_origin x h in
        let owner = ap (slice_index owners) o.number ∙ run_owner x h in
        owner_has c o.bit (slice_index owners (bit_number c.nets o.bit)) e (own o.bit o.inside) (subst (λ (i : ℕ). slice_get c.drives i ≡ Some e) (sym owner) there)

    pub origin_in : (start_of c.nets e ≤ origin) × (origin + n ≤ start_of c.nets e + e.width)
    origin_in =
        let x = bit_from 0 some in
        let y = bit_from (n - 1) (omega (arith, some)) in
        let i = covers_in c e (run_origin x.0 x.1).bit (origin_covered x.0 x.1) in
        let k = covers_in c e (run_origin y.0 y.1).bit (origin_covered y.0 y.1) in
        (omega (arith, i.0, (run_origin x.0 x.1).number, x.2), omega (arith, k.1, (run_origin y.0 y.1).number, y.2, some))

    -- the root of the run
    module _ (r : Drive) (net : r.net ≡ d.net) (r_at : r.at ≡ d.at + a) (width : r.width ≡ n) (fits : drive_fits (drivers_of c) r ≡ true)
        (source : (j : ℕ) → j < n → root_source r.by j ≡ root_source e.by (origin - start_of c.nets e + j)) where
      root_bit : (x : Bit) → covers x.0 x.1 r ≡ true → InRun x
      root_bit x h =
          let q = covers_parts r x.0 x.1 h in
          (covers_from d x.0 x.1 (sym net ∙ q.0) (omega (arith, q.1, r_at)) (omega (arith, q.2, r_at, width, low)), omega (arith, q.1, r_at), omega (arith, q.2, r_at, width))

      bit_root : (x : Bit) → InRun x → covers x.0 x.1 r ≡ true
      bit_root x h =
          let q = covers_parts d x.0 x.1 h.0 in
          covers_from r x.0 x.1 (net ∙ q.0) (omega (arith, r_at, h.1)) (omega (arith, r_at, width, h.2))

      root_is : IsRoot c r
      root_is = record {
        wide = omega (arith, width, some);
        unwired = λ w.
            let x = bit_from 0 some in
            let s = named_source (source_within c 0) e.by (origin - start_of c.nets e + 0) ((run_origin x.0 x.1).ends e (origin_drive x.0 x.1)) in
            let none : root_source r.by 0 ≡ None = ap (λ (b : By). root_source b 0) w.2 in
            let z : None ≡ Some s.0 = sym none ∙ source 0 some ∙ s.2 in cc z;
        inside = fits;
        names = λ x h.
            let i = root_bit x h in
            let o = run_origin x i in
            let off = offset_is c o.bit e (origin_covered x i) in
            let s = named_source (source_within c 0) e.by (o.bit.1 - e.at) (o.ends e (origin_drive x i)) in
            let src = o.leads 1 s.0 (first_source c o.bit e (origin_drive x i) s.0 s.1) in
            let step : root_source r.by (x.1 - r.at) ≡ root_source e.by (origin - start_of c.nets e + place_in x) =
            ap (λ (k : ℕ). root_source r.by (x.1 - k)) r_at ∙ source (place_in x) (omega (arith, i.1, i.2)) in
            let same_place : origin - start_of c.nets e + place_in x ≡ o.bit.1 - e.at = omega (arith, off, o.number, origin_in.0) in
            (src.0, s.0, src.1, step ∙ ap (root_source e.by) same_place ∙ s.2);
      }

      pub run_with : AreRootsOf c p (a + n) (roots ++ r ∷ [])
      run_with = record {
        right = λ i q g. elim (pushed roots r i q g) [
          | inl h ↦ was.right i q h
          | inr h ↦ subst (λ (u : Drive). IsRoot c u) h.1 root_is
        ];
        claimed = λ i q x h. elim (pushed roots r i q h.0) [
          | inl g ↦ (let k = was.claimed i q x (g, h.1) in (k.0, k.1, k.2, more_done k.0 k.1 x k.3))
          | inr g ↦
              (let i = root_bit x (subst (λ (u : Drive). covers x.0 x.1 u ≡ true) (sym g.1) h.1) in
              (p, d, (at, i.0), inr (refl, omega (arith, i.2))))
        ];
        whole = λ k u x h done. elim (newly k u x h done) [
          | inl old ↦ elim (was.whole k u x h old) [
            | inl w ↦ inl (w.0, w.1, (kept roots (r ∷ []) w.0 w.1 w.2.0, w.2.1))
            | inr w ↦ inr w
          ]
          | inr new ↦ inl (length roots, r, (last roots r, bit_root x new.1))
        ];
        once = λ i j u q x h g. elim (pushed roots r i u h.0) [
          | inl y ↦ elim (pushed roots r j q g.0) [
            | inl z ↦ was.once i j u q x (y, h.1) (z, g.1)
            | inr z ↦ absurd (clash i u x (y, h.1) (subst (λ (w : Drive). covers x.0 x.1 w ≡ true) (sym z.1) g.1))
          ]
          | inr y ↦ elim (pushed roots r j q g.0) [
            | inl z ↦ absurd (clash j q x (z, g.1) (subst (λ (w : Drive). covers x.0 x.1 w ≡ true) (sym y.1) h.1))
            | inr z ↦ y.0 ∙ sym z.0
          ]
        ];
      }
        where
          clash : (i : ℕ) (u : Drive) (x : Bit) → CoversIn roots i u x → covers x.0 x.1 r ≡ true → ⊥
          clash i u x h g =
              let k = was.claimed i u x h in
              let b = root_bit x g in
              let e : k.0 ≡ p = once k.0 p x.0 x.1 k.1 d k.2.0 at k.2.1 b.0 in
              elim k.3 [
                | inl lt ↦ omega (arith, lt, e)
                | inr eq ↦
                    (let z : k.1 ≡ d = same c.drives p k.1 d (subst (λ (v : ℕ). slice_get c.drives v ≡ Some k.1) e k.2.0) at in
                    let w : k.1.at ≡ d.at = ap (λ (v : Drive). v.at) z in
                    omega (arith, eq.1, b.1, w))
              ]

-- ---- from drive to drive

-- all bits of a drive are done
pub drive_done : (c : Circuit) (p a : ℕ) (d : Drive) → slice_get c.drives p ≡ Some d → d.width ≤ a → (roots : List Drive) → AreRootsOf c p a roots → AreRootsOf c (p + 1) 0 roots
drive_done c p a d at full roots was = record {
  right = was.right;
  claimed = λ i r x h. let k = was.claimed i r x h in (k.0, k.1, k.2, elim k.3 [ inl lt ↦ inl (omega (arith, lt)) | inr e ↦ inl (omega (arith, e.0)) ]);
  whole = λ k e x h done. was.whole k e x h (elim done [
    | inl lt ↦ elim (cases_eq k p) [
      | inl eq ↦
          (let z : e ≡ d = same c.drives p e d (subst (λ (i : ℕ). slice_get c.drives i ≡ Some e) eq h.0) at in
          let w : e.width ≡ d.width = ap (λ (u : Drive). u.width) z in
          let q = covers_parts e x.0 x.1 h.1 in
          inr (eq, omega (arith, q.2, w, full)))
      | inr ne ↦ inl (omega (arith, lt, ne))
    ]
    | inr far ↦ absurd (let q = covers_parts e x.0 x.1 h.1 in omega (arith, q.1, far.1))
  ]);
  once = was.once;
}

-- the roots of all drives
pub all_roots : (c : Circuit) (p : ℕ) → length c.drives ≤ p → (roots : List Drive) → AreRootsOf c p 0 roots → AreRoots c roots
all_roots c p end roots was = record {
  right = was.right;
  once = was.once;
  undriven = λ x none. by_drive x none (drive_of c x.0 x.1) refl;
  driven = λ i s r x h e.
      let n = (was.right i r h.0).names x h.1 in
      let z : n.1 ≡ Undriven = source_once c n.0 s x.0 x.1 n.1 Undriven n.2 e in
      named_driven r.by (x.1 - r.at) (n.3 ∙ ap (λ (o : SourceBit). Some o) z);
}
  where
    by_drive : (x : Bit) → ((i : ℕ) (r : Drive) → CoversIn roots i r x → ⊥) → (o : Option Drive) → drive_of c x.0 x.1 ≡ o → (s : ℕ) × (source_within c s x.0 x.1 ≡ Some Undriven)
    by_drive x none None e = (1, first_none c x e)
    by_drive x none (Some d) e =
        let k = drive_at c x d e in
        elim (was.whole k.0 d x (k.1, k.2) (inl (let lt = within c.drives k.0 d k.1 in omega (arith, lt, end)))) [
          | inl r ↦ absurd (none r.0 r.1 r.2)
          | inr h ↦ h
        ]

-- an origin is the number of a bit
pub origins_below : (c : Circuit) (origins : List ℕ) → AreAllOrigins c origins → (v : ℕ) → v < bit_count c.nets → slice_index origins v < bit_count c.nets
origins_below c origins are v lt =
    let x = bit_at_number c.nets v lt in
    let o = are x.0 x.1 in
    let h = bit_below c.nets o.bit o.inside in
    subst (λ (u : ℕ). slice_index origins u < bit_count c.nets) x.2 (omega (arith, h, o.number))
