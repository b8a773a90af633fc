use Rattle.std.proofs.Common.{◌≡◌, ℕ, ◌+◌, List, ◌++◌, ◌∷◌, [], sym, ap, subst, arith, ◌∙◌}
use Rattle.driver_check.specs.Nodes.{ArePlaced}
use Rattle.driver_check.specs.declared.parts.Node.{Node}
use Rattle.driver_check.specs.declared.parts.Node.TheVariants as node
use Rattle.driver_check.proofs.Places.{length_pushed, within}
use Rattle.driver_check.proofs.Placed.{placed_more}
use Rattle.driver_check.proofs.parts.push_cells.Goals as goal

pub loop-cell-init : goal.loop-cell-init
loop-cell-init c = record {
  long = c.requires.empty;
  placed = λ k n e. absurd (omega (arith, within c.args.nodes.now.items k n e, c.requires.empty));
}

pub loop-cell-preserved : goal.loop-cell-preserved
loop-cell-preserved c =
    let nodes = c.loop-cell.nodes.items in
    let items : c.push.new.self.items ≡ nodes ++ node.Cell c.loop-cell.cell ∷ [] = c.in_ok-push.ensures.items in
    record {
      long = length_pushed nodes c.push.new.self.items (node.Cell c.loop-cell.cell) items ∙ ap (λ (n : ℕ). n + 1) c.loop-cell.invariant.long;
      placed = subst (λ (xs : List Node). ArePlaced c.args.circuit.now xs) (sym items)
          (placed_more c.args.circuit.now nodes (node.Cell c.loop-cell.cell) c.loop-cell.invariant.placed (omega arith) (sym c.loop-cell.invariant.long));
    }
