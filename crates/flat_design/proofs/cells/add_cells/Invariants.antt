use Rattle.std.proofs.Common.{◌≡◌, ◌+◌, ◌≤◌, drop, length}
use Rattle.flat_design.specs.Cells.{with_cells}
use Rattle.flat_design.proofs.cells.add_cells.Given as goal

abbrev pub invariant-loop-cell : goal.invariant-loop-cell
invariant-loop-cell l = record {
  so_far : with_cells l.wires l.circuit (drop l.cell-index l.cells) ≡ with_cells l.wires l.fn.circuit l.cells;
  adders : length l.circuit.cells ≤ length l.fn.circuit.cells + l.cell-index;
  registers : length l.circuit.regs ≤ length l.fn.circuit.regs + l.cell-index;
}
