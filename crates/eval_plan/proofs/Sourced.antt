-- Where the bits of a circuit come from, in the order of its search.
use Rattle.std.proofs.Common.{◌≡◌, ℕ, zero, suc, ◌+◌, ◌-◌, ◌<◌, ◌≤◌, List, [], ◌∷◌, length, refl, sym, ◌∙◌, ap, subst, arith, inl, inr, true, Option, Some, None}
use Rattle.std.specs.Prelude.{slice_get}
use Rattle.std.specs.Int.{bit_at}
use Rattle.circuit.specs.Acyclic.{IsInOrder}
use Rattle.circuit.specs.Valid.{is_valid}
use Rattle.circuit.specs.Valuation.{drive_of}
use Rattle.circuit.specs.declared.netlist.Circuit.{Circuit}
use Rattle.circuit.specs.declared.netlist.Drive.{Drive}
use Rattle.circuit.specs.declared.netlist.By.{By}
use Rattle.circuit.specs.declared.netlist.By.TheVariants as by
use Rattle.driver_check.specs.Depends.{Bit, DependsOn, DriveTakes, TakesBit}
use Rattle.eval_plan.specs.OrderInvariants.{AreNodesOf, StandsAt}
use Rattle.driver_check.specs.Numbers.{bit_count, IsBit, bit_number}
use Rattle.eval_plan.specs.Ordered.{CellBit, Digit, InputBit, IsOrdered, IsThere, ReadBit, RegBit, SourceBit, Undriven, source_at, source_by, source_within}
use Rattle.driver_check.specs.Search.{Has, Needs}
use Rattle.driver_check.specs.Sorting.{IsSorting}
use Rattle.driver_check.specs.Nodes.{IsPart, part_place}
use Rattle.driver_check.specs.Vertices.{bit_span, by_span, drive_span, span_of}
use Rattle.driver_check.specs.declared.graph.Span.{Span}
use Rattle.driver_check.specs.declared.parts.Node.{Node}
use Rattle.driver_check.specs.declared.parts.Node.TheVariants as node
use Rattle.driver_check.specs.declared.search.Mark.TheVariants as mark
use Rattle.driver_check.specs.declared.sorting.Sorting.{Sorting}
use Rattle.driver_check.proofs.Places.{same, within}
use Rattle.driver_check.proofs.Freedom.{bit_in_graph, earlier, node_below, row_bit, row_node, stuck_stuck}
use Rattle.driver_check.proofs.Linked.{back, drive_at, needs_node, node_bits, node_needs, one_needs}
use Rattle.eval_plan.proofs.Noded.{behind_node, node_part, nodes_single}
use Rattle.driver_check.proofs.Fitting.{cell_there, drive_fits_at, drives_inside}
use Rattle.driver_check.proofs.Owned.{covered_is_bit}

module _ (c : Circuit) (valid : is_valid c ≡ true) (s : Sorting) (is : IsSorting c s) where
  abbrev order : List ℕ
  order = s.search.order.items

  -- what a source takes stands before a place of the order
  abbrev StandsBefore : ℕ → SourceBit → Type 0
  StandsBefore i Undriven = Unit {0}
  StandsBefore i (Digit d) = Unit {0}
  StandsBefore i (InputBit n at) = Unit {0}
  StandsBefore i (CellBit n at) = (j : ℕ) × (j < i) × StandsAt c order j (node.Cell n) × (n < length c.cells)
  StandsBefore i (RegBit n at) = Unit {0}
  StandsBefore i (ReadBit m n at) = (j : ℕ) × (j < i) × StandsAt c order j (node.Read m n)

  later : (i k : ℕ) → i < k → (o : SourceBit) → StandsBefore i o → StandsBefore k o
  later i k lt Undriven h = tt
  later i k lt (Digit d) h = tt
  later i k lt (InputBit n at) h = tt
  later i k lt (CellBit n at) h = (h.0, omega (arith, h.1, lt), h.2, h.3)
  later i k lt (RegBit n at) h = tt
  later i k lt (ReadBit m n at) h = (h.0, omega (arith, h.1, lt), h.2)

  depends : (x : Bit) (d : Drive) → drive_of c x.0 x.1 ≡ Some d → (b : By) → d.by ≡ b → (y : Bit) → TakesBit c b (x.1 - d.at) y.0 y.1 → DependsOn c x y
  depends x d e b at y t = subst (λ (o : Option Drive). DriveTakes c o x.1 y.0 y.1) (sym e) (subst (λ (k : By). TakesBit c k (x.1 - d.at) y.0 y.1) (sym at) t)

  -- a node that drives a bit stands before it
  node_before : (x : Bit) (i : ℕ) → IsBit c.nets x → slice_get order i ≡ Some (bit_number c.nets x) → (d : Drive) → drive_of c x.0 x.1 ≡ Some d → (b : By) → d.by ≡ b → (n : Node) → by_span c b (x.1 - d.at) ≡ span_of (bit_count c.nets + part_place c n) 1
      → (j : ℕ) × (j < i) × StandsAt c order j n
  node_before x i b at d e k is_by n span =
      let v : ℕ = bit_count c.nets + part_place c n in
      let here : bit_span c x ≡ span_of v 1 = ap (λ (o : Option Drive). drive_span c o x.1) e ∙ ap (λ (u : By). by_span c u (x.1 - d.at)) is_by ∙ span in
      let low : v ≤ v = omega arith in
      let high : v < v + 1 = omega arith in
      let need : Needs (bit_span c x ∷ []) v = subst (λ (p : Span). Needs (p ∷ []) v) (sym here) (one_needs (span_of v 1) v low high) in
      is.sorted.ready i (bit_number c.nets x) v at (subst (λ (spans : List Span). Needs spans v) (sym (row_bit c valid s.parts.nodes.items s.parts.ports.items is.parts s.graph is.graph x b)) need)

  cell_of : (x : Bit) (d : Drive) → drive_of c x.0 x.1 ≡ Some d → (n a : ℕ) → d.by ≡ by.Cell n a → n < length c.cells
  cell_of x d e n a k =
      let at = drive_at c x d e in
      cell_there c valid d (drive_fits_at c valid at.0 d at.1) n a k

  bit_earlier : (x y : Bit) (i : ℕ) → IsBit c.nets x → slice_get order i ≡ Some (bit_number c.nets x) → DependsOn c x y → (j : ℕ) × (j < i) × (slice_get order j ≡ Some (bit_number c.nets y))
  bit_earlier = earlier c valid s.parts.nodes.items s.parts.ports.items is.parts s.graph is.graph s.search.marks.items order is.sorted

  -- the source of a bit takes from what stands before the bit, where this is so of earlier bits
  module _ (t : ℕ) (x : Bit) (i : ℕ) (o : SourceBit) (b : IsBit c.nets x) (at : slice_get order i ≡ Some (bit_number c.nets x)) (again : (y : Bit) (j : ℕ) → IsBit c.nets y → slice_get order j ≡ Some (bit_number c.nets y) → source_within c t y.0 y.1 ≡ Some o → StandsBefore j o) where
    fed_by : (d : Drive) → drive_of c x.0 x.1 ≡ Some d → (k : By) → d.by ≡ k → source_by (source_within c t) k (x.1 - d.at) ≡ Some o → StandsBefore i o
    fed_by d at_d (by.Const v) k h = subst (λ (u : SourceBit). StandsBefore i u) (let z : Digit (bit_at v.number (x.1 - d.at)) ≡ o = cc h in z) tt
    fed_by d at_d (by.Input n a) k h = subst (λ (u : SourceBit). StandsBefore i u) (let z : InputBit n (a + (x.1 - d.at)) ≡ o = cc h in z) tt
    fed_by d at_d (by.Wire n a) k h =
        let y : Bit = (n, a + (x.1 - d.at)) in
        let dep = depends x d at_d (by.Wire n a) k y (refl, refl) in
        let j = bit_earlier x y i b at dep in
        later j.0 i j.1 o (again y j.0 (back c valid x y dep).0 j.2 h)
    fed_by d at_d (by.Cell n a) k h =
        subst (λ (u : SourceBit). StandsBefore i u) (let z : CellBit n (a + (x.1 - d.at)) ≡ o = cc h in z) (let j = node_before x i b at d at_d (by.Cell n a) k (node.Cell n) refl in (j.0, j.1, j.2, cell_of x d at_d n a k))
    fed_by d at_d (by.Reg n a) k h = subst (λ (u : SourceBit). StandsBefore i u) (let z : RegBit n (a + (x.1 - d.at)) ≡ o = cc h in z) tt
    fed_by d at_d (by.Read m n a) k h =
        subst (λ (u : SourceBit). StandsBefore i u) (let z : ReadBit m n (a + (x.1 - d.at)) ≡ o = cc h in z) (node_before x i b at d at_d (by.Read m n a) k (node.Read m n) refl)

    fed_drive : (m : Option Drive) → drive_of c x.0 x.1 ≡ m → source_at (source_within c t) x.1 m ≡ Some o → StandsBefore i o
    fed_drive None k h = subst (λ (u : SourceBit). StandsBefore i u) (let z : Undriven ≡ o = cc h in z) tt
    fed_drive (Some d) k h = fed_by d k d.by refl h

  fed : (t : ℕ) (x : Bit) (i : ℕ) (o : SourceBit) → IsBit c.nets x → slice_get order i ≡ Some (bit_number c.nets x) → source_within c t x.0 x.1 ≡ Some o → StandsBefore i o
  unfolding source_within
  fed zero x i o b at e = cc e
  fed (suc t) x i o b at e = fed_drive t x i o b at (λ y j d in_order src. fed t y j o d in_order src) (drive_of c x.0 x.1) refl e

  abbrev HasSource : Bit → Type 0
  HasSource x = (t : ℕ) × (o : SourceBit) × (source_within c t x.0 x.1 ≡ Some o)

  -- each bit in the order has a source, where those before it have
  module _ (x : Bit) (i : ℕ) (b : IsBit c.nets x) (at : slice_get order i ≡ Some (bit_number c.nets x)) (again : (y : Bit) (j : ℕ) → j < i → IsBit c.nets y → slice_get order j ≡ Some (bit_number c.nets y) → HasSource y) where
    source_more : (t : ℕ) (d : Drive) → drive_of c x.0 x.1 ≡ Some d → (k : By) → d.by ≡ k → (o : SourceBit) → source_by (source_within c t) k (x.1 - d.at) ≡ Some o → HasSource x
    unfolding source_within
    source_more t d e k f o h = (suc t, o, ap (source_at (source_within c t) x.1) e ∙ ap (λ (n : By). source_by (source_within c t) n (x.1 - d.at)) f ∙ h)

    source_by_drive : (d : Drive) → drive_of c x.0 x.1 ≡ Some d → (n : By) → d.by ≡ n → HasSource x
    source_by_drive d e (by.Const v) f = source_more 0 d e (by.Const v) f (Digit (bit_at v.number (x.1 - d.at))) refl
    source_by_drive d e (by.Input n a) f = source_more 0 d e (by.Input n a) f (InputBit n (a + (x.1 - d.at))) refl
    source_by_drive d e (by.Wire n a) f =
        let y : Bit = (n, a + (x.1 - d.at)) in
        let dep = depends x d e (by.Wire n a) f y (refl, refl) in
        let j = bit_earlier x y i b at dep in
        let r = again y j.0 j.1 (back c valid x y dep).0 j.2 in
        source_more r.0 d e (by.Wire n a) f r.1 r.2
    source_by_drive d e (by.Cell n a) f = source_more 0 d e (by.Cell n a) f (CellBit n (a + (x.1 - d.at))) refl
    source_by_drive d e (by.Reg n a) f = source_more 0 d e (by.Reg n a) f (RegBit n (a + (x.1 - d.at))) refl
    source_by_drive d e (by.Read m n a) f = source_more 0 d e (by.Read m n a) f (ReadBit m n (a + (x.1 - d.at))) refl

  unsourced : (net bit : ℕ) → drive_of c net bit ≡ None → (t : ℕ) × (o : SourceBit) × (source_within c t net bit ≡ Some o)
  unfolding source_within
  unsourced net bit e = (1, Undriven, ap (source_at (source_within c 0) bit) e)

  source_here : (x : Bit) (i : ℕ) → IsBit c.nets x → slice_get order i ≡ Some (bit_number c.nets x) → ((y : Bit) (j : ℕ) → j < i → IsBit c.nets y → slice_get order j ≡ Some (bit_number c.nets y) → HasSource y) → (m : Option Drive) → drive_of c x.0 x.1 ≡ m → HasSource x
  source_here x i b at again None e = unsourced x.0 x.1 e
  source_here x i b at again (Some d) e = source_by_drive x i b at again d e d.by refl

  source_up_to : (k : ℕ) (x : Bit) (i : ℕ) → i < k → IsBit c.nets x → slice_get order i ≡ Some (bit_number c.nets x) → HasSource x
  source_up_to zero x i lt b at = absurd (omega (arith, lt))
  source_up_to (suc k) x i lt b at = source_here x i b at (λ y j less d in_order. source_up_to k y j (omega (arith, lt, less)) d in_order) (drive_of c x.0 x.1) refl

  -- where all bits are done, all nodes are
  node_done : ((x : Bit) → IsBit c.nets x → Has s.search.marks.items mark.Done (bit_number c.nets x)) → (n : Node) → IsPart c n → (i : ℕ) × StandsAt c order i n
  node_done done n part =
      let v : ℕ = bit_count c.nets + part_place c n in
      elim (is.sorted.either v (node_below c valid s.parts.nodes.items s.parts.ports.items is.parts s.graph is.graph n part)) [
        | inl h ↦ is.sorted.done_order v h
        | inr stuck ↦ absurd
            (let w = is.sorted.stuck v stuck in
            let y = node_needs c n w.0 (subst (λ (spans : List Span). Needs spans w.0) (row_node c valid s.parts.nodes.items s.parts.ports.items is.parts s.graph is.graph n part) w.1) in
            let b = node_bits c valid n y.0 y.1 y.2 in
            let d = subst (λ (u : ℕ). Has s.search.marks.items mark.Done u) y.3 (done (y.0, y.1) b) in
            let z : mark.Done ≡ mark.Stuck = same s.search.marks.items w.0 mark.Done mark.Stuck d w.2 in cc z)
      ]

  -- the nodes are in order
  pub ordered : ((x : Bit) → IsBit c.nets x → Has s.search.marks.items mark.Done (bit_number c.nets x)) → (nodes : List Node) → AreNodesOf c order (length order) nodes → IsOrdered c nodes
  ordered done nodes are = record {
    there = λ k n e. (are.from k n e).0;
    every = λ n h.
        let v : ℕ = bit_count c.nets + part_place c n in
        let i = stands n (node_part c n h) in
        are.to i.0 n (within order i.0 v i.1) i.1 h;
    single = nodes_single c order is.sorted.single (length order) nodes are;
    ready = λ k net bit n e reads t o src.
        let r = (are.from k n e).1 in
        let b = node_bits c valid n net bit reads in
        let need = subst (λ (spans : List Span). Needs spans (bit_number c.nets (net, bit))) (sym (row_node c valid s.parts.nodes.items s.parts.ports.items is.parts s.graph is.graph n (node_part c n (are.from k n e).0))) (needs_node c n net bit reads) in
        let j = is.sorted.ready r.0 (bit_count c.nets + part_place c n) (bit_number c.nets (net, bit)) r.2 need in
        final k r.0 j.0 n e r.2 j.1 r.1 o (fed t (net, bit) j.0 o b j.2 src);
    sourced = λ net bit. by_drive net bit (drive_of c net bit) refl;
  }
    where
      stands : (n : Node) → IsPart c n → (i : ℕ) × StandsAt c order i n
      stands n part = node_done done n part

      final : (k i j : ℕ) (n : Node) → slice_get nodes k ≡ Some n → StandsAt c order i n → j < i → i < length order → (o : SourceBit) → StandsBefore j o → IsThere c nodes k o
      final k i j n e at lt inside Undriven h = tt
      final k i j n e at lt inside (Digit d) h = tt
      final k i j n e at lt inside (InputBit m a) h = tt
      final k i j n e at lt inside (CellBit m a) h =
          behind_node c order is.sorted.single (length order) nodes are k i h.0 n (node.Cell m) e at h.2 h.3 (omega (arith, h.1, lt)) inside
      final k i j n e at lt inside (RegBit m a) h = tt
      final k i j n e at lt inside (ReadBit l m a) h = λ there.
          behind_node c order is.sorted.single (length order) nodes are k i h.0 n (node.Read l m) e at h.2 there (omega (arith, h.1, lt)) inside

      by_drive : (net bit : ℕ) (m : Option Drive) → drive_of c net bit ≡ m → (t : ℕ) × (o : SourceBit) × (source_within c t net bit ≡ Some o)
      by_drive net bit None e = unsourced net bit e
      by_drive net bit (Some d) e =
          let at = drive_at c (net, bit) d e in
          let b = covered_is_bit c (drives_inside c valid) at.0 (net, bit) (d, at.1, at.2) in
          let i = is.sorted.done_order (bit_number c.nets (net, bit)) (done (net, bit) b) in
          source_up_to (suc i.0) (net, bit) i.0 (omega arith) b i.1

-- in a circuit in order all bits are done
pub all_done : (c : Circuit) (valid : is_valid c ≡ true) (s : Sorting) (is : IsSorting c s) → IsInOrder c → (x : Bit) → IsBit c.nets x → Has s.search.marks.items mark.Done (bit_number c.nets x)
all_done c valid s is order x b =
    elim (is.sorted.either (bit_number c.nets x) (bit_in_graph c valid s.parts.nodes.items s.parts.ports.items is.parts s.graph is.graph x b)) [
      | inl done ↦ done
      | inr stuck ↦ absurd (stuck_stuck c valid s.parts.nodes.items s.parts.ports.items is.parts s.graph is.graph s.search.marks.items s.search.order.items is.sorted x b stuck (order.acyclic x.0 x.1))
    ]
