-- The next bit of a walk along stuck bits.
use Rattle.std.proofs.Common.{◌≡◌, ℕ, ◌+◌, ◌-◌, ◌<◌, ◌≤◌, ◌⊎◌, List, [], ◌∷◌, ◌++◌, length, get_or, sym, ◌∙◌, subst, arith, inl, inr, true, Option, Some, None}
use Rattle.std.specs.Prelude.{slice_get, slice_index}
use Rattle.std.proofs.lemmas.Bool.{cases_lt}
use Rattle.circuit.specs.Valid.{is_valid}
use Rattle.circuit.specs.Valuation.{drive_of}
use Rattle.circuit.specs.declared.netlist.Circuit.{Circuit}
use Rattle.circuit.specs.declared.netlist.Drive.{Drive}
use Rattle.circuit.specs.declared.netlist.By.{By}
use Rattle.circuit.specs.declared.netlist.By.TheVariants as by
use Rattle.driver_check.specs.Depends.{Bit, DependsOn, IsStuck}
use Rattle.driver_check.specs.Faults.{IsFirstStuck, IsNext}
use Rattle.driver_check.specs.Numbers.{bit_count, IsBit, IsIn, bit_number, start_of}
use Rattle.driver_check.specs.Nodes.{NodeReads, IsPart, part_place}
use Rattle.driver_check.specs.Owners.{IsOwner}
use Rattle.driver_check.specs.Search.{Has, Needs, row_of}
use Rattle.driver_check.specs.Invariants.{IsFirstMarked, IsLeastStuck}
use Rattle.driver_check.specs.Sorting.{IsSorting}
use Rattle.driver_check.specs.Vertices.{bit_span, by_span, drive_span, node_spans, nothing}
use Rattle.driver_check.specs.declared.graph.Span.{Span}
use Rattle.driver_check.specs.declared.parts.Node.{Node}
use Rattle.driver_check.specs.declared.search.Mark.{Mark}
use Rattle.driver_check.specs.declared.search.Mark.TheVariants as mark
use Rattle.driver_check.specs.declared.sorting.Sorting.{Sorting}
use Rattle.driver_check.proofs.Places.{read, same}
use Rattle.driver_check.proofs.Numbered.{bit_at_number, bit_below, number_order}
use Rattle.driver_check.proofs.Owned.{covers_in, nobody_drive, one_bit, owner_has}
use Rattle.driver_check.proofs.Placed.{place_once}
use Rattle.driver_check.proofs.Linked.{back, needs_either, needs_left, needs_node, needs_one, needs_right, node_bits, node_needs, one_needs, via}
use Rattle.driver_check.proofs.Freedom.{row_bit, row_node, stuck_marked, stuck_stuck}

-- ---- the least stuck vertex of a row

pub least_more : (marks : List Mark) (row : List Span) (s : Span) (bound least after : ℕ) → IsLeastStuck marks row bound least → after ≤ least
    → ((w : ℕ) → IsIn s.first s.width w → Has marks mark.Stuck w → after ≤ w)
    → (after ≡ least) ⊎ (IsIn s.first s.width after × Has marks mark.Stuck after)
    → IsLeastStuck marks (row ++ s ∷ []) bound after
least_more marks row s bound least after was most below is = record {
  most = omega (arith, most, was.most);
  below = λ w need stuck. elim (needs_either row (s ∷ []) w need) [
    | inl n ↦ (let h = was.below w n stuck in omega (arith, h, most))
    | inr n ↦ below w (needs_one s w n) stuck
  ];
  is = elim is [
    | inl e ↦ elim was.is [
      | inl b ↦ inl (e ∙ b)
      | inr h ↦ inr (needs_left row (s ∷ []) after (subst (λ (v : ℕ). Needs row v) (sym e) h.0), subst (λ (v : ℕ). Has marks mark.Stuck v) (sym e) h.1)
    ]
    | inr h ↦ inr (needs_right row (s ∷ []) after (one_needs s after h.0.0 h.0.1), h.1)
  ];
}

-- ---- the span of a bit

narrow_by : (c : Circuit) (b : By) (i : ℕ) → (by_span c b i).width ≤ 1
narrow_by c (by.Const v) i = omega arith
narrow_by c (by.Input n at) i = omega arith
narrow_by c (by.Wire n at) i = omega arith
narrow_by c (by.Cell n at) i = omega arith
narrow_by c (by.Reg n at) i = omega arith
narrow_by c (by.Read m n at) i = omega arith

narrow : (c : Circuit) (o : Option Drive) (bit : ℕ) → (drive_span c o bit).width ≤ 1
narrow c None bit = omega arith
narrow c (Some d) bit = narrow_by c d.by (bit - d.at)

module _ (c : Circuit) (valid : is_valid c ≡ true) (s : Sorting) (is : IsSorting c s) where
  abbrev marks : List Mark
  marks = s.search.marks.items

  abbrev nets_number : Bit → ℕ
  nets_number x = bit_number c.nets x

  -- the span of a stuck bit has one vertex, which is stuck
  one_need : (x : Bit) (w : ℕ) → Needs (bit_span c x ∷ []) w → w ≡ (bit_span c x).first
  one_need x w n =
      let o = needs_one (bit_span c x) w n in
      let h = narrow c (drive_of c x.0 x.1) x.1 in
      omega (arith, o.0, o.1, h)

  pub span_stuck : (x : Bit) → IsBit c.nets x → Has marks mark.Stuck (bit_number c.nets x) → Needs (bit_span c x ∷ []) (bit_span c x).first × Has marks mark.Stuck (bit_span c x).first
  span_stuck x b stuck =
      let w = is.sorted.stuck (bit_number c.nets x) stuck in
      let n = subst (λ (spans : List Span). Needs spans w.0) (row_bit c valid s.parts.nodes.items s.parts.ports.items is.parts s.graph is.graph x b) w.1 in
      let e = one_need x w.0 n in
      (subst (λ (v : ℕ). Needs (bit_span c x ∷ []) v) e n, subst (λ (v : ℕ). Has marks mark.Stuck v) e w.2)

  is_stuck_bit : (y : Bit) → IsBit c.nets y → Has marks mark.Stuck (bit_number c.nets y) → IsStuck c y
  is_stuck_bit y b h = stuck_stuck c valid s.parts.nodes.items s.parts.ports.items is.parts s.graph is.graph marks s.search.order.items is.sorted y b h

  marked : (y : Bit) → IsStuck c y → IsBit c.nets y × Has marks mark.Stuck (bit_number c.nets y)
  marked y h = stuck_marked c valid s.parts.nodes.items s.parts.ports.items is.parts s.graph is.graph marks s.search.order.items is.sorted y h

  -- through a wire
  pub wire_next : (x y : Bit) → IsBit c.nets x → IsBit c.nets y → Has marks mark.Stuck (bit_number c.nets x) → bit_number c.nets y ≡ (bit_span c x).first → IsNext c x y
  wire_next x y b d stuck at =
      let f = span_stuck x b stuck in
      let low = bit_below c.nets y d in
      record {
        depends = elim (via c valid x (bit_span c x).first f.0) [
          | inl z ↦ subst (λ (u : Bit). DependsOn c x u) (one_bit c.nets z.0 y z.2 d (z.3 ∙ sym at)) z.1
          | inr n ↦ absurd (omega (arith, n.2, at, low))
        ];
        stuck = is_stuck_bit y d (subst (λ (v : ℕ). Has marks mark.Stuck v) (sym at) f.1);
        least = λ z dep bad lt.
            let r = back c valid x z dep in
            elim r.1 [
              | inl n ↦ (let e = one_need x (bit_number c.nets z) n in number_order c.nets y z d r.0 (omega (arith, e, at)) lt)
              | inr k ↦ absurd (let e = one_need x (bit_count c.nets + part_place c k.0) k.2 in omega (arith, e, at, low))
            ];
      }

  -- through a node
  module _ (x : Bit) (b : IsBit c.nets x) (stuck : Has marks mark.Stuck (bit_number c.nets x)) (high : bit_count c.nets ≤ (bit_span c x).first) (r : ℕ) (least : IsLeastStuck marks (row_of s.graph (bit_span c x).first) (bit_count c.nets) r) where
    the_node : (n : Node) × IsPart c n × (bit_count c.nets + part_place c n ≡ (bit_span c x).first) × ((net bit : ℕ) → NodeReads c n net bit → DependsOn c x (net, bit))
    the_node = elim (via c valid x (bit_span c x).first (span_stuck x b stuck).0) [
      | inl z ↦ absurd (let low = bit_below c.nets z.0 z.2 in omega (arith, low, z.3, high))
      | inr n ↦ n
    ]

    node_row : row_of s.graph (bit_span c x).first ≡ node_spans c the_node.0
    node_row = subst (λ (v : ℕ). row_of s.graph v ≡ node_spans c the_node.0) the_node.2 (row_node c valid s.parts.nodes.items s.parts.ports.items is.parts s.graph is.graph the_node.0 the_node.1)

    pub node_least : (r < bit_count c.nets) × Needs (row_of s.graph (bit_span c x).first) r × Has marks mark.Stuck r
    node_least =
        let u = is.sorted.stuck (bit_span c x).first (span_stuck x b stuck).1 in
        let y = node_needs c the_node.0 u.0 (subst (λ (spans : List Span). Needs spans u.0) node_row u.1) in
        let low = bit_below c.nets (y.0, y.1) (node_bits c valid the_node.0 y.0 y.1 y.2) in
        let le = least.below u.0 u.1 u.2 in (
          omega (arith, le, low, y.3),
          elim least.is [
            | inl e ↦ absurd (omega (arith, le, low, y.3, e))
            | inr h ↦ h.0
          ],
          elim least.is [
            | inl e ↦ absurd (omega (arith, le, low, y.3, e))
            | inr h ↦ h.1
          ],
        )

    pub node_next : (y : Bit) → IsBit c.nets y → bit_number c.nets y ≡ r → IsNext c x y
    node_next y d at =
        let z = node_needs c the_node.0 r (subst (λ (spans : List Span). Needs spans r) node_row node_least.1) in
        let zb = node_bits c valid the_node.0 z.0 z.1 z.2 in
        record {
          depends = subst (λ (u : Bit). DependsOn c x u) (one_bit c.nets (z.0, z.1) y zb d (z.3 ∙ sym at)) (the_node.3 z.0 z.1 z.2);
          stuck = is_stuck_bit y d (subst (λ (v : ℕ). Has marks mark.Stuck v) (sym at) node_least.2);
          least = λ u dep bad lt.
              let t = back c valid x u dep in
              elim t.1 [
                | inl n ↦ absurd (let e = one_need x (bit_number c.nets u) n in let low = bit_below c.nets u t.0 in omega (arith, e, low, high))
                | inr k ↦
                    (let e = one_need x (bit_count c.nets + part_place c k.0) k.2 in
                    let same_node : k.0 ≡ the_node.0 = place_once c k.0 the_node.0 k.1 the_node.1 (omega (arith, e, the_node.2)) in
                    let reads = subst (λ (n : Node). NodeReads c n u.0 u.1) same_node k.3 in
                    let need = subst (λ (spans : List Span). Needs spans (bit_number c.nets u)) (sym node_row) (needs_node c the_node.0 u.0 u.1 reads) in
                    let le = least.below (bit_number c.nets u) need (marked u bad).1 in
                    number_order c.nets y u d t.0 (omega (arith, le, at)) lt)
              ];
        }

  -- a stuck bit has a drive
  pub stuck_owned : (x : Bit) → IsBit c.nets x → Has marks mark.Stuck (bit_number c.nets x) → slice_index s.owners.items (bit_number c.nets x) < length c.drives
  stuck_owned x b stuck = elim (cases_lt (slice_index s.owners.items (bit_number c.nets x)) (length c.drives)) [
    | inl lt ↦ lt
    | inr le ↦ absurd
        (let none = nobody_drive c x (slice_index s.owners.items (bit_number c.nets x)) (is.owners x b) le in
        let n = (span_stuck x b stuck).0 in
        let m = subst (λ (o : Option Drive). Needs (drive_span c o x.1 ∷ []) (drive_span c o x.1).first) none n in
        let o = needs_one nothing 0 m in
        let z : 0 < 0 + 0 = o.1 in omega (arith, z))
  ]

  pub owner_in : (v : ℕ) → v < bit_count c.nets → Has marks mark.Stuck v → (slice_index s.owners.items v < length c.drives) × ((d : Drive) → slice_get c.drives (slice_index s.owners.items v) ≡ Some d → IsIn (start_of c.nets d) d.width v)
  owner_in v lt stuck =
      let x = bit_at_number c.nets v lt in
      let h = subst (λ (u : ℕ). Has marks mark.Stuck u) (sym x.2) stuck in (
        subst (λ (u : ℕ). slice_index s.owners.items u < length c.drives) x.2 (stuck_owned x.0 x.1 h),
        λ d at.
            let owns = subst (λ (u : ℕ). IsOwner c (length c.drives) x.0 (slice_index s.owners.items u)) x.2 (is.owners x.0 x.1) in
            subst (λ (u : ℕ). IsIn (start_of c.nets d) d.width u) x.2 (covers_in c d x.0 (owner_has c x.0 (slice_index s.owners.items v) d owns at)),
      )

  -- the first stuck bit
  pub first_is : (v : ℕ) → IsFirstMarked s v → (x : Bit) → IsBit c.nets x → bit_number c.nets x ≡ v → Has marks mark.Stuck v → IsFirstStuck c x
  first_is v first x b at stuck = record {
    stuck = is_stuck_bit x b (subst (λ (u : ℕ). Has marks mark.Stuck u) (sym at) stuck);
    least = λ y bad lt.
        let m = marked y bad in
        elim (cases_lt (bit_number c.nets y) v) [
          | inl less ↦ first.below (bit_number c.nets y) less m.1
          | inr le ↦ number_order c.nets x y b m.0 (omega (arith, le, at)) lt
        ];
  }

-- the span that was read is that of each bit with the number
pub span_is : (c : Circuit) (s : Sorting) → IsSorting c s → (v : ℕ) (span : Span) → v < s.numbering.bits → span ≡ get_or s.graph.bits.items v span → (x : Bit) → IsBit c.nets x → bit_number c.nets x ≡ v → span ≡ bit_span c x
span_is c s is v span lt e x b at =
    let here = read s.graph.bits.items v span (omega (arith, lt, is.numbers.total, is.graph.bits_long)) e in
    same s.graph.bits.items v span (bit_span c x) here (subst (λ (u : ℕ). slice_get s.graph.bits.items u ≡ Some (bit_span c x)) at (is.graph.bit x b))
