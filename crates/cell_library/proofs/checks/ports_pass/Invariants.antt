use Rattle.std.proofs.Common.{◌≡◌, drop}
use Rattle.cell_library.specs.Checks.{first_fault, port_checks}
use Rattle.cell_library.proofs.checks.ports_pass.Given as goal

abbrev pub invariant-loop-connection : goal.invariant-loop-connection
invariant-loop-connection l = first_fault (port_checks l.ports l.connections) ≡ first_fault (port_checks l.ports (drop l.connection-index l.connections))
