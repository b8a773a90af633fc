use Rattle.std.proofs.Common.{◌≡◌, ℕ, ◌+◌, ◌-◌, ◌<◌, ◌≤◌, List, length, sym, ◌∙◌, ap, refl, subst, arith, Some, true, get_or}
use Rattle.std.specs.Prelude.{slice_get}
use Rattle.circuit.specs.Valid.{is_valid}
use Rattle.circuit.specs.declared.netlist.Circuit.{Circuit}
use Rattle.eval_plan.specs.OrderInvariants.{AreNodesOf, StandsAt}
use Rattle.driver_check.specs.Numbers.{bit_count}
use Rattle.driver_check.specs.Nodes.{IsNode, IsPart, part_place}
use Rattle.driver_check.specs.Sorting.{IsSorting}
use Rattle.driver_check.specs.declared.parts.Node.{Node}
use Rattle.driver_check.specs.declared.search.Mark.TheVariants as mark
use Rattle.driver_check.specs.declared.sorting.Sorting.{Sorting}
use Rattle.driver_check.proofs.Places.{read, same, within}
use Rattle.driver_check.proofs.Freedom.{rows_long}
use Rattle.eval_plan.proofs.Noded.{node_part, none_more, one_more_node}
use Rattle.driver_check.proofs.Placed.{place_once}
use Rattle.eval_plan.proofs.nodes.push_node.Goals as goal

-- the vertex that was read, and the node that was read for it
vertex_at : (order : List ℕ) (place v : ℕ) → place < length order → v ≡ get_or order place v → slice_get order place ≡ Some v
vertex_at order place v lt e = read order place v lt e

vertex_below : (c : Circuit) → is_valid c ≡ true → (s : Sorting) → IsSorting c s → (place v : ℕ) → slice_get s.search.order.items place ≡ Some v → v < bit_count c.nets + length s.parts.nodes.items
vertex_below c valid s is place v at =
    let d = is.sorted.order_done place v at in
    let lt = within s.search.marks.items v mark.Done d in
    let rows = rows_long c valid s.parts.nodes.items s.parts.ports.items is.parts s.graph is.graph in
    omega (arith, lt, is.sorted.sized, rows, is.graph.bits_long)

node_stands : (c : Circuit) (s : Sorting) → IsSorting c s → (place v bits : ℕ) (n : Node) → slice_get s.search.order.items place ≡ Some v → bits ≡ s.numbering.bits → bits ≤ v → slice_get s.parts.nodes.items (v - bits) ≡ Some n → IsPart c n × StandsAt c s.search.order.items place n
node_stands c s is place v bits n at all le there =
    let p = is.parts.placed (v - bits) n there in
    let e : v ≡ bit_count c.nets + part_place c n = omega (arith, p.1, le, all, is.numbers.total) in
    (p.0, at ∙ ap (λ (u : ℕ). Some u) e)

pub returns-then-vertex-bits : goal.returns-then-vertex-bits
returns-then-vertex-bits c =
    let s = c.args.sorting.now in
    let order = s.search.order.items in
    let at = vertex_at order c.args.place c.index-vertex.result.now c.requires.there c.index-vertex.ensures in
    none_more c.args.circuit.now order c.requires.sorting.sorted.single c.args.place c.args.nodes.now c.requires.nodes (λ n stands is.
    let e : c.index-vertex.result.now ≡ bit_count c.args.circuit.now.nets + part_place c.args.circuit.now n = same order c.args.place c.index-vertex.result.now (bit_count c.args.circuit.now.nets + part_place c.args.circuit.now n) at stands in
    omega (arith, e, c.if-vertex-bits.true, c.requires.sorting.numbers.total))

pub index-node-requires : goal.index-node-requires
index-node-requires c =
    let s = c.args.sorting.now in
    let at = vertex_at s.search.order.items c.args.place c.index-vertex.result.now c.requires.there c.index-vertex.ensures in
    let lt = vertex_below c.args.circuit.now c.requires.valid s c.requires.sorting c.args.place c.index-vertex.result.now at in
    omega (arith, lt, c.if-vertex-bits.false, c.requires.sorting.numbers.total)

pub is_node-requires : goal.is_node-requires
is_node-requires c =
    let s = c.args.sorting.now in
    let at = vertex_at s.search.order.items c.args.place c.index-vertex.result.now c.requires.there c.index-vertex.ensures in
    let lt = vertex_below c.args.circuit.now c.requires.valid s c.requires.sorting c.args.place c.index-vertex.result.now at in
    let there = read s.parts.nodes.items (c.index-vertex.result.now - s.numbering.bits) c.index-node.result.now (omega (arith, lt, c.if-vertex-bits.false, c.requires.sorting.numbers.total)) c.index-node.ensures in
    (c.requires.sorting.parts.placed (c.index-vertex.result.now - s.numbering.bits) c.index-node.result.now there).0

pub returns-in_ok-push : goal.returns-in_ok-push
returns-in_ok-push c =
    let s = c.args.sorting.now in
    let order = s.search.order.items in
    let at = vertex_at order c.args.place c.index-vertex.result.now c.requires.there c.index-vertex.ensures in
    let lt = vertex_below c.args.circuit.now c.requires.valid s c.requires.sorting c.args.place c.index-vertex.result.now at in
    let there = read s.parts.nodes.items (c.index-vertex.result.now - s.numbering.bits) c.index-node.result.now (omega (arith, lt, c.if-vertex-bits.false, c.requires.sorting.numbers.total)) c.index-node.ensures in
    let p = node_stands c.args.circuit.now s c.requires.sorting c.args.place c.index-vertex.result.now s.numbering.bits c.index-node.result.now at refl c.if-vertex-bits.false there in
    subst (λ (nodes : List Node). AreNodesOf c.args.circuit.now order (c.args.place + 1) nodes) (sym c.in_ok-push.ensures.ok)
    (one_more_node c.args.circuit.now order c.requires.sorting.sorted.single c.args.place c.args.nodes.now c.requires.nodes c.index-node.result.now (c.is_node.ensures.yes c.if-is_node.true) p.1)

pub returns-else-is_node : goal.returns-else-is_node
returns-else-is_node c =
    let s = c.args.sorting.now in
    let circuit = c.args.circuit.now in
    let order = s.search.order.items in
    let at = vertex_at order c.args.place c.index-vertex.result.now c.requires.there c.index-vertex.ensures in
    let lt = vertex_below circuit c.requires.valid s c.requires.sorting c.args.place c.index-vertex.result.now at in
    let there = read s.parts.nodes.items (c.index-vertex.result.now - s.numbering.bits) c.index-node.result.now (omega (arith, lt, c.if-vertex-bits.false, c.requires.sorting.numbers.total)) c.index-node.ensures in
    let p = node_stands circuit s c.requires.sorting c.args.place c.index-vertex.result.now s.numbering.bits c.index-node.result.now at refl c.if-vertex-bits.false there in
    none_more circuit order c.requires.sorting.sorted.single c.args.place c.args.nodes.now c.requires.nodes (λ n stands is.
    let e = same order c.args.place (bit_count circuit.nets + part_place circuit c.index-node.result.now) (bit_count circuit.nets + part_place circuit n) p.1 stands in
    let z = place_once circuit c.index-node.result.now n p.0 (node_part circuit n is) (omega (arith, e)) in
    c.is_node.ensures.no c.if-is_node.false (subst (λ (m : Node). IsNode circuit m) (sym z) is))
