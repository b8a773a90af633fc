-- How many nodes and roots a plan can have.
use Rattle.std.proofs.Common.{◌≡◌, ℕ, ◌+◌, ◌<◌, ◌≤◌, ◌^◌, List, length, refl, sym, subst, arith, true, Some}
use Rattle.std.specs.Prelude.{slice_get, sum_by}
use Rattle.std.proofs.lemmas.Bool.{and_parts, ltb-true}
use Rattle.std.proofs.lemmas.List.Recursion.{is_sum_by}
use Rattle.circuit.specs.Valid.{is_valid, node_count}
use Rattle.circuit.proofs.Grown.{fitting_of}
use Rattle.circuit.specs.Valuation.{bits_of, covers}
use Rattle.circuit.specs.declared.netlist.Circuit.{Circuit}
use Rattle.circuit.specs.declared.netlist.Drive.{Drive}
use Rattle.driver_check.specs.Depends.{Bit}
use Rattle.driver_check.specs.Nodes.{part_place}
use Rattle.driver_check.specs.Numbers.{IsBit, before, bit_count, read_count, start_of, width_of}
use Rattle.driver_check.specs.declared.parts.Node.{Node}
use Rattle.driver_check.proofs.Few.{few}
use Rattle.driver_check.proofs.Fitting.{counts, fits_inside}
use Rattle.driver_check.proofs.Numbered.{bit_below, number_once}
use Rattle.driver_check.proofs.Owned.{covers_from}
use Rattle.driver_check.proofs.Placed.{place_below, place_once}
use Rattle.eval_plan.specs.Ordered.{IsOrdered}
use Rattle.eval_plan.specs.Roots.{AreRoots}
use Rattle.eval_plan.proofs.Noded.{node_part}

-- the nodes have places of their own among all cells and read ports
few_nodes : (c : Circuit) (nodes : List Node) → IsOrdered c nodes → length nodes ≤ length c.cells + before read_count c.mems (length c.mems)
few_nodes c nodes order = few (part_place c) nodes (length c.cells + before read_count c.mems (length c.mems)) (λ i j n m p q e.
    let z : n ≡ m = place_once c n m (node_part c n (order.there i n p)) (node_part c m (order.there j m q)) e in
    order.single i j n p (subst (λ (k : Node). slice_get nodes j ≡ Some k) (sym z) q)) (λ i n p. place_below c n (node_part c n (order.there i n p)))

-- the first bits of the roots have numbers of their own
few_roots : (c : Circuit) (roots : List Drive) → AreRoots c roots → length roots ≤ bit_count c.nets
few_roots c roots are = few (start_of c.nets) roots (bit_count c.nets) (λ i j r q p g e.
    let o = number_once c.nets (first r) (first q) (bit i r p) (bit j q g) e in
    are.once i j r q (first r) (p, covered i r p) (g, subst (λ (net : ℕ). covers net r.at q ≡ true) (sym o.0) (subst (λ (at : ℕ). covers q.net at q ≡ true) (sym o.1) (covered j q g)))) (λ i r p. bit_below c.nets (first r) (bit i r p))
  where
    first : Drive → Bit
    first r = (r.net, r.at)

    bit : (i : ℕ) (r : Drive) → slice_get roots i ≡ Some r → IsBit c.nets (first r)
    bit i r p =
        let is = are.right i r p in
        let x = fits_inside c r is.inside in
        (x.0, x.1, let wide = is.wide in omega (arith, x.2, wide))

    covered : (i : ℕ) (r : Drive) → slice_get roots i ≡ Some r → covers r.net r.at r ≡ true
    covered i r p = covers_from r r.net r.at refl (let h : r.at ≤ r.at = omega arith in h) (let wide = (are.right i r p).wide in omega (arith, wide))

all_before : {X : Type 0} (size : X → ℕ) (xs : List X) → before size xs (length xs) ≡ sum_by size xs
all_before size xs = is_sum_by (λ ys. before size ys (length ys)) size refl (λ x ys. refl) xs

-- 32 bits number them
counted : (c : Circuit) → is_valid c ≡ true → (node_count c < 2 ^ 32) × (bits_of c < 2 ^ 32)
counted c valid = let fits = fitting_of c valid in (fits.counts.nodes, fits.counts.bits)

pub nodes_countable : (c : Circuit) (nodes : List Node) → is_valid c ≡ true → IsOrdered c nodes → length nodes < 2 ^ 32
nodes_countable c nodes valid order =
    let most = few_nodes c nodes order in
    let ports = all_before read_count c.mems in
    let low = (counted c valid).0 in
    omega (arith, most, ports, low)

pub roots_countable : (c : Circuit) (roots : List Drive) → is_valid c ≡ true → AreRoots c roots → length roots < 2 ^ 32
roots_countable c roots valid are =
    let most = few_roots c roots are in
    let bits = all_before width_of c.nets in
    let low = (counted c valid).1 in
    omega (arith, most, bits, low)
