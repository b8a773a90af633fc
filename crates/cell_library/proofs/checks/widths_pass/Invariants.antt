use Rattle.std.proofs.Common.{◌≡◌, drop}
use Rattle.cell_library.specs.Checks.{first_fault, width_checks}
use Rattle.cell_library.proofs.checks.widths_pass.Given as goal

abbrev pub invariant-loop-connection : goal.invariant-loop-connection
invariant-loop-connection l = first_fault (width_checks l.settings l.ports l.connections) ≡ first_fault (width_checks l.settings l.ports (drop l.connection-index l.connections))
