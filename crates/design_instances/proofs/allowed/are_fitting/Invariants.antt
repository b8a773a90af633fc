use Rattle.std.proofs.Common.{◌≡◌, drop}
use Rattle.design_cells.specs.Joined.{seen_ports}
use Rattle.design_instances.specs.Instances.{are_fitting}
use Rattle.design_instances.proofs.allowed.are_fitting.Given as goal

abbrev pub invariant-loop-port : goal.invariant-loop-port
invariant-loop-port l = are_fitting l.ports (seen_ports l.joined) ≡ are_fitting l.ports (seen_ports (drop l.port-index l.joined))
