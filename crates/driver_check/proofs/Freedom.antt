-- The bits that a search of a circuit's graph gets done are those that are free.
use Rattle.std.proofs.Common.{◌≡◌, ℕ, zero, suc, ◌+◌, ◌-◌, ◌<◌, ◌≤◌, ◌⊎◌, List, [], ◌∷◌, length, refl, sym, ◌∙◌, ap, subst, arith, inl, inr, true, Option, Some, None, nat_lt}
use Rattle.std.specs.Prelude.{slice_get}
use Rattle.std.specs.Option.{option_map}
use Rattle.std.proofs.lemmas.Bool.{cases_lt, cond-true, cond-false, false≢true, lt-ltb, le-ltb}
use Rattle.std.proofs.lemmas.Option.{slice_get-map}
use Rattle.std.proofs.lemmas.List.{length-map}
use Rattle.circuit.specs.Acyclic.{IsAcyclic, acyclic_within}
use Rattle.circuit.specs.Valid.{is_valid}
use Rattle.circuit.specs.Valuation.{drive_of}
use Rattle.circuit.specs.declared.netlist.Circuit.{Circuit}
use Rattle.circuit.specs.declared.netlist.Drive.{Drive}
use Rattle.circuit.proofs.Freed.{free_later}
use Rattle.driver_check.specs.Depends.{Bit, DependsOn, DriveTakes, IsStuck}
use Rattle.driver_check.specs.Numbers.{bit_count, IsBit, bit_number}
use Rattle.driver_check.specs.Search.{AreInside, Has, IsSorted, Needs, all_spans, one_span, row_of, size_of_graph}
use Rattle.driver_check.specs.Nodes.{AreParts, IsPart, part_place}
use Rattle.driver_check.specs.Vertices.{IsGraphOf, bit_span, node_spans}
use Rattle.driver_check.specs.declared.graph.Span.{Span}
use Rattle.driver_check.specs.declared.graph.Graph.{Graph}
use Rattle.driver_check.specs.declared.parts.Node.{Node}
use Rattle.driver_check.specs.declared.search.Mark.{Mark}
use Rattle.driver_check.specs.declared.search.Mark.TheVariants as mark
use Rattle.driver_check.proofs.Places.{found, within}
use Rattle.driver_check.proofs.Numbered.{bit_at_number, bit_below}
use Rattle.driver_check.proofs.Fitting.{drives_inside}
use Rattle.driver_check.proofs.Owned.{covered_is_bit}
use Rattle.driver_check.proofs.Frees.{free_from, free_to}
use Rattle.driver_check.proofs.Linked.{back, drive_at, needs_node, node_bits, node_needs, via}

module _ (c : Circuit) (valid : is_valid c ≡ true) (nodes : List Node) (ports : List ℕ) (parts : AreParts c nodes ports) (g : Graph) (graph : IsGraphOf c nodes g.bits.items g.nodes.items) where
  pub row_bit : (x : Bit) → IsBit c.nets x → row_of g (bit_number c.nets x) ≡ bit_span c x ∷ []
  row_bit x b =
      cond-true (nat_lt (bit_number c.nets x) (length g.bits.items)) (one_span (slice_get g.bits.items (bit_number c.nets x))) (all_spans (slice_get g.nodes.items (bit_number c.nets x - length g.bits.items)))
      (lt-ltb (bit_number c.nets x) (length g.bits.items) (let h = bit_below c.nets x b in omega (arith, h, graph.bits_long)))
      ∙ ap one_span (graph.bit x b)

  pub row_node : (n : Node) → IsPart c n → row_of g (bit_count c.nets + part_place c n) ≡ node_spans c n
  row_node n part =
      let v : ℕ = bit_count c.nets + part_place c n in
      cond-false (nat_lt v (length g.bits.items)) (one_span (slice_get g.bits.items v)) (all_spans (slice_get g.nodes.items (v - length g.bits.items)))
      (le-ltb v (length g.bits.items) (let h : length g.bits.items ≤ bit_count c.nets + part_place c n = omega (arith, graph.bits_long) in h))
      ∙ ap (λ (i : ℕ). all_spans (slice_get g.nodes.items i)) (let e : bit_count c.nets + part_place c n - length g.bits.items ≡ part_place c n = omega (arith, graph.bits_long) in e)
      ∙ ap (λ (rows : List (List Span)). all_spans (slice_get rows (part_place c n))) graph.row
      ∙ ap all_spans (slice_get-map (node_spans c) nodes (part_place c n) ∙ ap (option_map (node_spans c)) (parts.every n part))

  pub rows_long : length g.nodes.items ≡ length nodes
  rows_long = ap (λ (rows : List (List Span)). length rows) graph.row ∙ length-map nodes (node_spans c)

  -- each vertex is that of a bit or of a node
  pub kinds : (v : ℕ) → v < size_of_graph g → ((x : Bit) × IsBit c.nets x × (bit_number c.nets x ≡ v)) ⊎ ((n : Node) × IsPart c n × (bit_count c.nets + part_place c n ≡ v))
  kinds v lt = elim (cases_lt v (bit_count c.nets)) [
    | inl less ↦ inl (bit_at_number c.nets v less)
    | inr le ↦
        (let n = found nodes (v - bit_count c.nets) (omega (arith, lt, le, graph.bits_long, rows_long)) in
        let p = parts.placed (v - bit_count c.nets) n.0 n.1 in
        inr (n.0, p.0, omega (arith, p.1, le)))
  ]

  pub node_below : (n : Node) → IsPart c n → bit_count c.nets + part_place c n < size_of_graph g
  node_below n part =
      let h = within nodes (part_place c n) n (parts.every n part) in
      omega (arith, h, rows_long, graph.bits_long)

  pub bit_in_graph : (x : Bit) → IsBit c.nets x → bit_number c.nets x < size_of_graph g
  bit_in_graph x b = let h = bit_below c.nets x b in omega (arith, h, graph.bits_long)

  past_none : {X : Type 0} (xs : List X) (i : ℕ) → length xs ≤ i → slice_get xs i ≡ None
  past_none [] i le = refl
  past_none (x ∷ xs) zero le = absurd (let h : suc (length xs) ≤ 0 = le in omega arith)
  past_none (x ∷ xs) (suc i) le = past_none xs i (let h : suc (length xs) ≤ suc i = le in omega arith)

  past_row : (v : ℕ) → size_of_graph g ≤ v → row_of g v ≡ []
  past_row v le =
      cond-false (nat_lt v (length g.bits.items)) (one_span (slice_get g.bits.items v)) (all_spans (slice_get g.nodes.items (v - length g.bits.items))) (le-ltb v (length g.bits.items) (omega (arith, le)))
      ∙ ap all_spans (past_none g.nodes.items (v - length g.bits.items) (omega (arith, le)))

  pub graph_inside : AreInside (row_of g) (size_of_graph g)
  graph_inside v w need = elim (cases_lt v (size_of_graph g)) [
    | inr le ↦ absurd (let n : Needs [] w = subst (λ (spans : List Span). Needs spans w) (past_row v le) need in let e : slice_get [] n.0 ≡ Some n.1 = n.2 in cc e)
    | inl lt ↦ elim (kinds v lt) [
      | inl x ↦
          (let row = subst (λ (u : ℕ). row_of g u ≡ bit_span c x.0 ∷ []) x.2 (row_bit x.0 x.1) in
          elim (via c valid x.0 w (subst (λ (spans : List Span). Needs spans w) row need)) [
            | inl y ↦ (let h = bit_in_graph y.0 y.2 in omega (arith, h, y.3))
            | inr n ↦ (let h = node_below n.0 n.1 in omega (arith, h, n.2))
          ])
      | inr n ↦
          (let row = subst (λ (u : ℕ). row_of g u ≡ node_spans c n.0) n.2 (row_node n.0 n.1) in
          let y = node_needs c n.0 w (subst (λ (spans : List Span). Needs spans w) row need) in
          let h = bit_in_graph (y.0, y.1) (node_bits c valid n.0 y.0 y.1 y.2) in
          omega (arith, h, y.3))
    ]
  ]

  module _ (marks : List Mark) (order : List ℕ) (sorted : IsSorted (row_of g) (size_of_graph g) marks order) where
    -- what a bit in the order depends on stands before it
    pub earlier : (x y : Bit) (i : ℕ) → IsBit c.nets x → slice_get order i ≡ Some (bit_number c.nets x) → DependsOn c x y → (j : ℕ) × (j < i) × (slice_get order j ≡ Some (bit_number c.nets y))
    earlier x y i b at dep =
        let r = back c valid x y dep in
        let need = λ (w : ℕ) (n : Needs (bit_span c x ∷ []) w). sorted.ready i (bit_number c.nets x) w at (subst (λ (spans : List Span). Needs spans w) (sym (row_bit x b)) n) in
        elim r.1 [
          | inl n ↦ need (bit_number c.nets y) n
          | inr k ↦
              (let j = need (bit_count c.nets + part_place c k.0) k.2 in
              let n = subst (λ (spans : List Span). Needs spans (bit_number c.nets y)) (sym (row_node k.0 k.1)) (needs_node c k.0 y.0 y.1 k.3) in
              let l = sorted.ready j.0 (bit_count c.nets + part_place c k.0) (bit_number c.nets y) j.2 n in
              (l.0, omega (arith, l.1, j.1), l.2))
        ]

    -- a bit in the order is free within as many steps as its place, and one
    free_up_to : (k : ℕ) (x : Bit) (i : ℕ) → i < k → IsBit c.nets x → slice_get order i ≡ Some (bit_number c.nets x) → acyclic_within c (suc i) x.0 x.1 ≡ true
    free_up_to zero x i lt b at = absurd (omega (arith, lt))
    free_up_to (suc k) x i lt b at = free_from c i x (λ y dep.
        let j = earlier x y i b at dep in
        let h = free_up_to k y j.0 (omega (arith, lt, j.1)) (back c valid x y dep).0 j.2 in
        let e : (i - suc j.0) + suc j.0 ≡ i = omega (arith, j.1) in
        subst (λ (s : ℕ). acyclic_within c s y.0 y.1 ≡ true) e (free_later c (suc j.0) (i - suc j.0) y.0 y.1 h))

    pub done_free : (x : Bit) → IsBit c.nets x → Has marks mark.Done (bit_number c.nets x) → IsAcyclic c x.0 x.1
    done_free x b done =
        let i = sorted.done_order (bit_number c.nets x) done in
        (suc i.0, free_up_to (suc i.0) x i.0 (omega arith) b i.1)

    -- a bit that is stuck depends on one that is
    pub next_stuck : (x : Bit) → IsBit c.nets x → Has marks mark.Stuck (bit_number c.nets x) → (y : Bit) × DependsOn c x y × IsBit c.nets y × Has marks mark.Stuck (bit_number c.nets y)
    next_stuck x b stuck =
        let w = sorted.stuck (bit_number c.nets x) stuck in
        elim (via c valid x w.0 (subst (λ (spans : List Span). Needs spans w.0) (row_bit x b) w.1)) [
          | inl y ↦ (y.0, y.1, y.2, subst (λ (v : ℕ). Has marks mark.Stuck v) (sym y.3) w.2)
          | inr n ↦
              (let u = sorted.stuck (bit_count c.nets + part_place c n.0) (subst (λ (v : ℕ). Has marks mark.Stuck v) (sym n.2) w.2) in
              let y = node_needs c n.0 u.0 (subst (λ (spans : List Span). Needs spans u.0) (row_node n.0 n.1) u.1) in
              ((y.0, y.1), n.3 y.0 y.1 y.2, node_bits c valid n.0 y.0 y.1 y.2, subst (λ (v : ℕ). Has marks mark.Stuck v) (sym y.3) u.2))
        ]

    not_within : (s : ℕ) (x : Bit) → IsBit c.nets x → Has marks mark.Stuck (bit_number c.nets x) → acyclic_within c s x.0 x.1 ≡ true → ⊥
    unfolding acyclic_within
    not_within zero x b stuck h = false≢true h
    not_within (suc s) x b stuck h =
        let y = next_stuck x b stuck in
        not_within s y.0 y.2 y.3 (free_to c s x y.0 h y.1)

    pub stuck_stuck : (x : Bit) → IsBit c.nets x → Has marks mark.Stuck (bit_number c.nets x) → IsStuck c x
    stuck_stuck x b stuck free = not_within free.0 x b stuck free.1

    -- a bit that no drive covers is free
    undriven_free : (x : Bit) → drive_of c x.0 x.1 ≡ None → IsAcyclic c x.0 x.1
    undriven_free x e = (1, free_from c 0 x (λ y dep. absurd (subst (λ (m : Option Drive). DriveTakes c m x.1 y.0 y.1) e dep)))

    pub all_free : ((x : Bit) → IsBit c.nets x → Has marks mark.Done (bit_number c.nets x)) → (net bit : ℕ) → IsAcyclic c net bit
    all_free done net bit = by_drive (drive_of c net bit) refl
      where
        by_drive : (o : Option Drive) → drive_of c net bit ≡ o → IsAcyclic c net bit
        by_drive None e = undriven_free (net, bit) e
        by_drive (Some d) e =
            let at = drive_at c (net, bit) d e in
            let b = covered_is_bit c (drives_inside c valid) at.0 (net, bit) (d, at.1, at.2) in
            done_free (net, bit) b (done (net, bit) b)

    -- a bit that is not free is one of a net, and marked so
    pub stuck_marked : (x : Bit) → IsStuck c x → IsBit c.nets x × Has marks mark.Stuck (bit_number c.nets x)
    stuck_marked x stuck = by_drive (drive_of c x.0 x.1) refl
      where
        by_drive : (o : Option Drive) → drive_of c x.0 x.1 ≡ o → IsBit c.nets x × Has marks mark.Stuck (bit_number c.nets x)
        by_drive None e = absurd (stuck (undriven_free x e))
        by_drive (Some d) e =
            let at = drive_at c x d e in
            let b = covered_is_bit c (drives_inside c valid) at.0 x (d, at.1, at.2) in (
              b,
              elim (sorted.either (bit_number c.nets x) (bit_in_graph x b)) [
                | inl done ↦ absurd (stuck (done_free x b done))
                | inr h ↦ h
              ],
            )
