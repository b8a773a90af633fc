use Rattle.std.proofs.Common.{◌≡◌, drop}
use Rattle.design_cells.specs.Joined.{joined_at, seen_ports}
use Rattle.design_cells.proofs.ports.joined_at.Given as goal

abbrev pub invariant-loop-port : goal.invariant-loop-port
invariant-loop-port l = joined_at (seen_ports l.ports) l.name ≡ joined_at (seen_ports (drop l.port-index l.ports)) l.name
