use Rattle.std.proofs.Common.{◌≡◌, ◌+◌, ◌≤◌, drop, length}
use Rattle.flat_design.specs.Wires.{with_wires}
use Rattle.flat_design.proofs.wires.add_wires.Given as goal

abbrev pub invariant-loop-wire : goal.invariant-loop-wire
invariant-loop-wire l = record {
  so_far : with_wires l.circuit (drop l.wire-index l.wires) ≡ with_wires l.fn.circuit l.wires;
  nets : length l.circuit.nets ≤ length l.fn.circuit.nets + l.wire-index;
  inputs : length l.circuit.inputs ≤ length l.fn.circuit.inputs + l.wire-index;
  cells : l.circuit.cells ≡ l.fn.circuit.cells;
  regs : l.circuit.regs ≡ l.fn.circuit.regs;
}
