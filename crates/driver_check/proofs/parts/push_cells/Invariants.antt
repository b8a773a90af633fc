use Rattle.std.proofs.Common.{◌≡◌, length}
use Rattle.driver_check.specs.Nodes.{ArePlaced}
use Rattle.driver_check.proofs.parts.push_cells.Given as goal

abbrev pub invariant-loop-cell : goal.invariant-loop-cell
invariant-loop-cell l = record {
  long : length l.nodes.items ≡ l.cell;
  placed : ArePlaced l.circuit l.nodes.items;
}
