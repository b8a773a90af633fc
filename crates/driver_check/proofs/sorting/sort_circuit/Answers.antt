use Rattle.std.proofs.Common.{◌≡◌, ℕ, List, length, sym, ap, subst, arith}
use Rattle.circuit.specs.declared.netlist.Net.{Net}
use Rattle.driver_check.specs.Numbers.{IsNumbering, before, width_of}
use Rattle.driver_check.specs.Owners.{AreOwners}
use Rattle.driver_check.specs.Invariants.{IsLeastShared}
use Rattle.driver_check.proofs.Fitting.{bits_bound, drives_inside}
use Rattle.driver_check.proofs.Freedom.{graph_inside}
use Rattle.driver_check.proofs.Owned.{once}
use Rattle.driver_check.proofs.sorting.sort_circuit.Goals as goal

pub number_bits-requires : goal.number_bits-requires
number_bits-requires c = λ n.
    let h = bits_bound c.args.circuit.now c.requires n in
    let e = ap (λ (nets : List Net). before width_of nets n) c.as_slice.ensures in
    omega (arith, h, e)

pub least_shared-least-requires-clause-owners : goal.least_shared-least-requires-clause-owners
least_shared-least-requires-clause-owners c =
    subst (λ (owners : List ℕ). AreOwners c.args.circuit.now (length c.args.circuit.now.drives) owners) (sym c.deref.ensures.value) c.in_ok-owners.ensures.1

pub two_drivers-requires-clause-owners : goal.two_drivers-requires-clause-owners
two_drivers-requires-clause-owners c =
    subst (λ (owners : List ℕ). AreOwners c.args.circuit.now (length c.args.circuit.now.drives) owners) (sym c.deref-then-least-numbering.ensures.value) c.in_ok-owners.ensures.1

pub graph_of-requires-clause-owners : goal.graph_of-requires-clause-owners
graph_of-requires-clause-owners c =
    subst (λ (owners : List ℕ). AreOwners c.args.circuit.now (length c.args.circuit.now.drives) owners) (sym c.deref-2.ensures.value) c.in_ok-owners.ensures.1

pub sort-requires : goal.sort-requires
sort-requires c =
    graph_inside c.args.circuit.now c.requires c.in_ok-parts.parts.nodes.items c.in_ok-parts.parts.ports.items c.in_ok-parts.ensures c.in_ok-graph.graph c.in_ok-graph.ensures

pub returns : goal.returns
returns c =
    let bits = c.in_ok-numbering.numbering.bits in
    let numbers : IsNumbering c.args.circuit.now.nets c.in_ok-numbering.numbering.firsts.items bits =
    subst (λ (nets : List Net). IsNumbering nets c.in_ok-numbering.numbering.firsts.items bits) c.as_slice.ensures c.in_ok-numbering.ensures in
    let shared = c.least_shared-least.ensures in
    let all : c.least_shared-least.result ≡ bits = omega (arith, shared.most, c.if-least-numbering.false) in
    record {
      numbers = numbers;
      owners_long = c.in_ok-owners.ensures.0;
      owners = c.in_ok-owners.ensures.1;
      parts = c.in_ok-parts.ensures;
      graph = c.in_ok-graph.ensures;
      sorted = c.in_ok-search.ensures;
      once = once c.args.circuit.now (drives_inside c.args.circuit.now c.requires) c.in_ok-owners.owners.items c.in_ok-owners.ensures.1 bits numbers.total
          (subst (λ (least : ℕ). IsLeastShared c.args.circuit.now (length c.args.circuit.now.drives) least bits) all shared);
    }
