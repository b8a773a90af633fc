use Rattle.std.proofs.Common.{◌≡◌, map, take}
use Rattle.circuit.proofs.store.start_cells.Given as goal

abbrev pub invariant-loop-cell : goal.invariant-loop-cell
invariant-loop-cell l = l.widths.items ≡ map (λ x. x.width) (take l.cell-index l.cells)
