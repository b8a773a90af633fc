use Rattle.std.proofs.Common.{◌≡◌, take}
use Rattle.design_cells.specs.Joined.{connections_of, seen_ports}
use Rattle.design_cells.proofs.ports.connections_of.Given as goal

abbrev pub invariant-loop-port : goal.invariant-loop-port
invariant-loop-port l = l.connections ≡ connections_of (seen_ports (take l.port-index l.ports))
