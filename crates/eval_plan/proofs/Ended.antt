-- The bits at which wires end.
use Rattle.std.proofs.Common.{◌≡◌, ◌≢◌, ℕ, suc, ◌+◌, ◌-◌, ◌<◌, ◌≤◌, ◌⊎◌, List, length, set, refl, sym, ◌∙◌, ap, subst, arith, inl, inr, true, Option, Some, None, get_or-set_same, get_or-set_other}
use Rattle.std.specs.Prelude.{slice_get, slice_index}
use Rattle.std.proofs.lemmas.Bool.{cases_eq}
use Rattle.circuit.specs.Valid.{is_valid}
use Rattle.circuit.specs.Valuation.{drive_of}
use Rattle.circuit.specs.declared.netlist.Circuit.{Circuit}
use Rattle.circuit.specs.declared.netlist.Drive.{Drive}
use Rattle.circuit.specs.declared.netlist.By.{By}
use Rattle.circuit.specs.declared.netlist.By.TheVariants as by
use Rattle.driver_check.specs.Depends.{Bit, DependsOn, DriveTakes, TakesBit}
use Rattle.driver_check.specs.Numbers.{bit_count, IsBit, bit_number}
use Rattle.eval_plan.specs.Ordered.{SourceBit, source_at, source_by, source_within}
use Rattle.eval_plan.specs.OrderInvariants.{AreOrigins, IsOrigin}
use Rattle.eval_plan.specs.Roots.{IsWire}
use Rattle.driver_check.specs.Sorting.{IsSorting}
use Rattle.driver_check.specs.Vertices.{bit_span, by_span, drive_span}
use Rattle.driver_check.specs.declared.graph.Span.{Span}
use Rattle.driver_check.specs.declared.sorting.Sorting.{Sorting}
use Rattle.driver_check.proofs.Places.{same}
use Rattle.driver_check.proofs.Numbered.{bit_below}
use Rattle.driver_check.proofs.Linked.{back}
use Rattle.driver_check.proofs.Freedom.{earlier}

-- a bit with a wire: its vertex needs that of the bit at the other end, and it has the same sources
pub record IsJoined (c : Circuit) (x y : Bit) : Type 0 where
  pub depends : DependsOn c x y
  pub number : bit_number c.nets y ≡ (bit_span c x).first
  pub leads : (s : ℕ) (o : SourceBit) → source_within c s y.0 y.1 ≡ Some o → (r : ℕ) × (source_within c r x.0 x.1 ≡ Some o)

module _ (c : Circuit) (valid : is_valid c ≡ true) where
  span_here : (x : Bit) (d : Drive) → drive_of c x.0 x.1 ≡ Some d → (b : By) → d.by ≡ b → bit_span c x ≡ by_span c b (x.1 - d.at)
  span_here x d e b f = ap (λ (o : Option Drive). drive_span c o x.1) e ∙ ap (λ (u : By). by_span c u (x.1 - d.at)) f

  joined : (x : Bit) (d : Drive) → drive_of c x.0 x.1 ≡ Some d → (n a : ℕ) → d.by ≡ by.Wire n a → IsJoined c x (n, a + (x.1 - d.at))
  unfolding source_within
  joined x d e n a f = record {
    depends = subst (λ (o : Option Drive). DriveTakes c o x.1 n (a + (x.1 - d.at))) (sym e) (subst (λ (b : By). TakesBit c b (x.1 - d.at) n (a + (x.1 - d.at))) (sym f) (refl, refl));
    number = (let h = ap (λ (p : Span). p.first) (span_here x d e (by.Wire n a) f) in omega (arith, h));
    leads = λ s o h. (suc s, ap (source_at (source_within c s) x.1) e ∙ ap (λ (b : By). source_by (source_within c s) b (x.1 - d.at)) f ∙ h);
  }

  -- a bit whose vertex needs that of a bit has a wire
  pub wired : (x : Bit) → 0 < (bit_span c x).width → (bit_span c x).first < bit_count c.nets → (y : Bit) × IsJoined c x y
  wired x wide low = by_drive (drive_of c x.0 x.1) refl
    where
      by_by : (d : Drive) → drive_of c x.0 x.1 ≡ Some d → (b : By) → d.by ≡ b → (y : Bit) × IsJoined c x y
      by_by d e (by.Const v) f = absurd (let h = ap (λ (p : Span). p.width) (span_here x d e (by.Const v) f) in omega (arith, h, wide))
      by_by d e (by.Input n a) f = absurd (let h = ap (λ (p : Span). p.width) (span_here x d e (by.Input n a) f) in omega (arith, h, wide))
      by_by d e (by.Wire n a) f = ((n, a + (x.1 - d.at)), joined x d e n a f)
      by_by d e (by.Cell n a) f = absurd (let h = ap (λ (p : Span). p.first) (span_here x d e (by.Cell n a) f) in omega (arith, h, low))
      by_by d e (by.Reg n a) f = absurd (let h = ap (λ (p : Span). p.width) (span_here x d e (by.Reg n a) f) in omega (arith, h, wide))
      by_by d e (by.Read m n a) f = absurd (let h = ap (λ (p : Span). p.first) (span_here x d e (by.Read m n a) f) in omega (arith, h, low))

      by_drive : (o : Option Drive) → drive_of c x.0 x.1 ≡ o → (y : Bit) × IsJoined c x y
      by_drive None e = absurd (let h = ap (λ (o : Option Drive). (drive_span c o x.1).width) e in omega (arith, h, wide))
      by_drive (Some d) e = by_by d e d.by refl

  -- and a bit with a wire needs that of a bit
  pub wire_span : (x : Bit) (d : Drive) → drive_of c x.0 x.1 ≡ Some d → IsWire d.by → ((bit_span c x).width ≡ 1) × ((bit_span c x).first < bit_count c.nets)
  wire_span x d e w =
      let j = joined x d e w.0 w.1 w.2 in
      let b = (back c valid x (w.0, w.1 + (x.1 - d.at)) j.depends).0 in
      let low = bit_below c.nets (w.0, w.1 + (x.1 - d.at)) b in
      (ap (λ (p : Span). p.width) (span_here x d e (by.Wire w.0 w.1) w.2), omega (arith, low, j.number))

  -- a bit that has no wire is its own origin
  pub own_origin : (x : Bit) → IsBit c.nets x → ((bit_span c x).width ≡ 0) ⊎ (bit_count c.nets ≤ (bit_span c x).first) → IsOrigin c x (bit_number c.nets x)
  own_origin x b why = record {
    bit = x;
    inside = b;
    number = refl;
    ends = λ d e w. (let s = wire_span x d e w in elim why [ inl z ↦ omega (arith, z, s.0) | inr z ↦ omega (arith, z, s.1) ]);
    leads = λ s o h. (s, h);
  }

  -- the origin of a bit with a wire is that of the other end
  pub joined_origin : (x y : Bit) (v : ℕ) → IsJoined c x y → IsOrigin c y v → IsOrigin c x v
  joined_origin x y v j o = record {
    bit = o.bit;
    inside = o.inside;
    number = o.number;
    ends = o.ends;
    leads = λ s u h. (let r = o.leads s u h in j.leads r.0 u r.1);
  }

-- the origin that was noted for the bit at the other end of a wire
pub other_end : (c : Circuit) (valid : is_valid c ≡ true) (s : Sorting) (is : IsSorting c s) (place : ℕ) (origins : List ℕ) → AreOrigins c s.search.order.items place origins → (x : Bit) → IsBit c.nets x → slice_get s.search.order.items place ≡ Some (bit_number c.nets x) → (first : ℕ) → first ≡ (bit_span c x).first → 0 < (bit_span c x).width → first < bit_count c.nets → IsOrigin c x (slice_index origins first)
other_end c valid s is place origins were x b at first e wide low =
    let y = wired c valid x wide (omega (arith, e, low)) in
    let yb = (back c valid x y.0 y.1.depends).0 in
    let j = earlier c valid s.parts.nodes.items s.parts.ports.items is.parts s.graph is.graph s.search.marks.items s.search.order.items is.sorted x y.0 place b at y.1.depends in
    let o = were j.0 y.0 j.1 yb j.2 in
    joined_origin c valid x y.0 (slice_index origins first) y.1 (subst (λ (v : ℕ). IsOrigin c y.0 (slice_index origins v)) (y.1.number ∙ sym e) o)

-- the origin of one more vertex
pub origins_more : (c : Circuit) (order : List ℕ) → ((i j v : ℕ) → slice_get order i ≡ Some v → slice_get order j ≡ Some v → i ≡ j) → (t : ℕ) (origins : List ℕ) → AreOrigins c order t origins → (v : ℕ) → v < length origins → slice_get order t ≡ Some v → (w : ℕ)
    → ((x : Bit) → IsBit c.nets x → bit_number c.nets x ≡ v → IsOrigin c x w) → AreOrigins c order (t + 1) (set origins v w)
origins_more c order single t origins were v lt at w new i x less b e = elim (cases_eq (bit_number c.nets x) v) [
  | inl eq ↦
      subst (λ (n : ℕ). IsOrigin c x n) (sym (ap (slice_index (set origins v w)) eq ∙ get_or-set_same origins v w 0 lt)) (new x b eq)
  | inr ne ↦
      (let before : i < t = (let i_ne : i ≢ t = λ (z : i ≡ t). ne (same order t (bit_number c.nets x) v (subst (λ (k : ℕ). slice_get order k ≡ Some (bit_number c.nets x)) z e) at) in omega (arith, less, i_ne)) in
      subst (λ (n : ℕ). IsOrigin c x n) (sym (get_or-set_other origins v (bit_number c.nets x) w 0 ne)) (were i x before b e))
]

-- a vertex that is no bit's has no origin
pub origins_same : (c : Circuit) (order : List ℕ) (t : ℕ) (origins : List ℕ) → AreOrigins c order t origins → (v : ℕ) → slice_get order t ≡ Some v → bit_count c.nets ≤ v → AreOrigins c order (t + 1) origins
origins_same c order t origins were v at high i x less b e = elim (cases_eq i t) [
  | inl z ↦ absurd
      (let h : bit_number c.nets x ≡ v = same order t (bit_number c.nets x) v (subst (λ (k : ℕ). slice_get order k ≡ Some (bit_number c.nets x)) z e) at in
      let low = bit_below c.nets x b in omega (arith, h, low, high))
  | inr ne ↦ were i x (omega (arith, less, ne)) b e
]
