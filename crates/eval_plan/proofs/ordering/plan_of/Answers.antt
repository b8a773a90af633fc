use Rattle.std.proofs.Common.{ℕ, List, length, sym, ap, subst, arith}
use Rattle.driver_check.specs.Numbers.{bit_number}
use Rattle.eval_plan.specs.OrderInvariants.{AreAllOrigins}
use Rattle.circuit.specs.declared.netlist.Drive.{Drive}
use Rattle.eval_plan.specs.Ordered.{IsOrdered}
use Rattle.eval_plan.specs.Readers.{AreReaders}
use Rattle.eval_plan.specs.Sources.{AreSources}
use Rattle.driver_check.specs.declared.parts.Node.{Node}
use Rattle.eval_plan.proofs.Counted.{nodes_countable, roots_countable}
use Rattle.eval_plan.proofs.Read.{readers_follow}
use Rattle.driver_check.proofs.Places.{within}
use Rattle.eval_plan.proofs.Sourced.{all_done, ordered}
use Rattle.eval_plan.proofs.ordering.plan_of.Goals as goal

pub roots_of-requires-clause-origins : goal.roots_of-requires-clause-origins
roots_of-requires-clause-origins c =
    let circuit = c.args.circuit.now in
    let s = c.args.sorting.now in
    let is = c.requires.sorting in
    subst (λ (origins : List ℕ). AreAllOrigins circuit origins) (sym c.deref.ensures.value) (λ x b.
    let i = is.sorted.done_order (bit_number circuit.nets x) (all_done circuit c.requires.valid s is c.requires.order x b) in
    c.in_ok-origins.ensures.1 i.0 x (within s.search.order.items i.0 (bit_number circuit.nets x) i.1) b i.1)

pub readers_of-requires-clause-nodes : goal.readers_of-requires-clause-nodes
readers_of-requires-clause-nodes c =
    let circuit = c.args.circuit.now in
    let s = c.args.sorting.now in
    let is = c.requires.sorting in
    subst (λ (nodes : List Node). IsOrdered circuit nodes) (sym c.as_slice-2.ensures)
    (ordered circuit c.requires.valid s is (all_done circuit c.requires.valid s is c.requires.order) c.in_ok-nodes.nodes c.in_ok-nodes.ensures)

pub sources_of-requires-clause-few : goal.sources_of-requires-clause-few
sources_of-requires-clause-few c =
    let few = roots_countable c.args.circuit.now c.in_ok-roots.roots c.requires.valid c.in_ok-roots.ensures in
    omega (arith, few, ap (λ (roots : List Drive). length roots) c.as_slice.ensures)

pub readers_of-requires-clause-few : goal.readers_of-requires-clause-few
readers_of-requires-clause-few c =
    let circuit = c.args.circuit.now in
    let s = c.args.sorting.now in
    let is = c.requires.sorting in
    let nodes = ordered circuit c.requires.valid s is (all_done circuit c.requires.valid s is c.requires.order) c.in_ok-nodes.nodes c.in_ok-nodes.ensures in
    let few = nodes_countable circuit c.in_ok-nodes.nodes c.requires.valid nodes in
    omega (arith, few, ap (λ (nodes : List Node). length nodes) c.as_slice-2.ensures)

pub readers_of-requires-clause-few_roots : goal.readers_of-requires-clause-few_roots
readers_of-requires-clause-few_roots c =
    let few = roots_countable c.args.circuit.now c.in_ok-roots.roots c.requires.valid c.in_ok-roots.ensures in
    omega (arith, few, ap (λ (roots : List Drive). length roots) c.as_slice-3.ensures)

pub returns : goal.returns
returns c =
    let circuit = c.args.circuit.now in
    let s = c.args.sorting.now in
    let is = c.requires.sorting in
    let nodes = ordered circuit c.requires.valid s is (all_done circuit c.requires.valid s is c.requires.order) c.in_ok-nodes.nodes c.in_ok-nodes.ensures in
    let readers = subst (λ (nodes : List Node). AreReaders circuit nodes c.in_ok-roots.roots c.in_ok-readers.readers) c.as_slice-2.ensures
    (subst (λ (roots : List Drive). AreReaders circuit c.as_slice-2.result.now roots c.in_ok-readers.readers) c.as_slice-3.ensures c.in_ok-readers.ensures) in
    record {
      valid = c.requires.valid;
      order = c.requires.order;
      nodes = nodes;
      roots = c.in_ok-roots.ensures;
      sources = subst (λ (roots : List Drive). AreSources circuit roots c.in_ok-sources.sources) c.as_slice.ensures c.in_ok-sources.ensures;
      readers = readers;
      follow = readers_follow circuit c.in_ok-nodes.nodes nodes c.in_ok-roots.roots c.in_ok-roots.ensures c.in_ok-readers.readers readers;
    }
