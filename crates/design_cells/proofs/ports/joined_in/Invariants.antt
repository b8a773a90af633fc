use Rattle.std.proofs.Common.{◌≡◌, take}
use Rattle.design_cells.specs.Joined.{joined_in, seen_ports}
use Rattle.design_cells.proofs.ports.joined_in.Given as goal

abbrev pub invariant-loop-port : goal.invariant-loop-port
invariant-loop-port l = seen_ports l.ports ≡ joined_in l.scope (take l.port-index l.written)
