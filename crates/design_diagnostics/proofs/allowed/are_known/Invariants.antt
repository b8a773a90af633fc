use Rattle.std.proofs.Common.{◌≡◌, drop}
use Rattle.design_cells.specs.Joined.{seen_ports}
use Rattle.design_diagnostics.specs.Rules.{are_known}
use Rattle.design_diagnostics.proofs.allowed.are_known.Given as goal

abbrev pub invariant-loop-port : goal.invariant-loop-port
invariant-loop-port l = are_known (seen_ports l.joined) ≡ are_known (seen_ports (drop l.port-index l.joined))
