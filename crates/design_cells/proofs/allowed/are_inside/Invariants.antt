use Rattle.std.proofs.Common.{◌≡◌, drop}
use Rattle.design_cells.specs.Joined.{seen_ports}
use Rattle.design_cells.specs.Rules.{are_inside}
use Rattle.design_cells.proofs.allowed.are_inside.Given as goal

abbrev pub invariant-loop-port : goal.invariant-loop-port
invariant-loop-port l = are_inside (seen_ports l.joined) ≡ are_inside (seen_ports (drop l.port-index l.joined))
