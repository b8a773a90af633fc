use Rattle.std.proofs.Common.{ℕ, List, ap, arith, ◌∙◌}
use Rattle.std.specs.Prelude.{slice_index}
use Rattle.eval_plan.proofs.Given.{port_low, sources_are}
use Rattle.eval_plan.proofs.listing.sources_of.Goals as goal

pub invariant_of-result : goal.invariant_of-result
invariant_of-result c =
    let ports = c.args.parts.now.ports.items in
    let e = c.in_ok-from_slice.ensures.items ∙ c.as_slice.ensures.value in
    record {
      low = λ m.
          let h = port_low c.args.circuit.now c.args.parts.now.nodes.items ports c.requires.parts m in
          let f = ap (λ (l : List ℕ). slice_index l m) e in
          let long = c.args.parts.now.nodes.ok in
          let small = c.args.parts.now.nodes.small in
          omega (arith, h, f, long.0, long.1, small);
    }

pub returns : goal.returns
returns c =
    sources_are c.args.circuit.now c.args.parts.now.nodes.items c.args.parts.now.ports.items c.requires.parts c.args.roots.now c.requires.roots _ (c.in_ok-from_slice.ensures.items ∙ c.as_slice.ensures.value)
    c.in_ok-table_by.ensures c.in_ok-table_by-2.ensures c.in_ok-table_by-3.ensures c.in_ok-table_by-4.ensures
