use Rattle.std.proofs.Common.{◌≡◌, drop}
use Rattle.design_cells.specs.Joined.{seen_ports}
use Rattle.design_diagnostics.specs.Rules.{are_narrow}
use Rattle.design_diagnostics.proofs.allowed.are_narrow.Given as goal

abbrev pub invariant-loop-port : goal.invariant-loop-port
invariant-loop-port l = are_narrow (seen_ports l.joined) ≡ are_narrow (seen_ports (drop l.port-index l.joined))
