use Rattle.std.proofs.Common.{◌≡◌, ◌+◌, length}
use Rattle.driver_check.specs.Numbers.{before, read_count}
use Rattle.driver_check.specs.Nodes.{ArePlaced}
use Rattle.driver_check.proofs.parts.push_ports.Given as goal

abbrev pub invariant-loop-port : goal.invariant-loop-port
invariant-loop-port l = record {
  long : length l.nodes.items ≡ length l.circuit.cells + (before read_count l.circuit.mems l.place + l.port);
  placed : ArePlaced l.circuit l.nodes.items;
}
