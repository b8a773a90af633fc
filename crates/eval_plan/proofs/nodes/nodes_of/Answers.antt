use Rattle.std.proofs.Common.{◌≡◌, ℕ, length, subst, arith}
use Rattle.eval_plan.specs.OrderInvariants.{AreNodesOf}
use Rattle.eval_plan.proofs.nodes.nodes_of.Goals as goal

pub returns : goal.returns
returns c =
    let order = c.args.sorting.now.search.order.items in
    let end : c.loop-place.place ≡ length order = omega (arith, c.len-place-end.ensures) in
    subst (λ (t : ℕ). AreNodesOf c.args.circuit.now order t c.loop-place.nodes) end c.loop-place.invariant
