use Rattle.std.proofs.Common.{◌≡◌, drop}
use Rattle.cell_library.specs.Checks.{first_fault, limit_checks}
use Rattle.cell_library.proofs.checks.limits_pass.Given as goal

abbrev pub invariant-loop-port : goal.invariant-loop-port
invariant-loop-port l = first_fault (limit_checks l.settings l.most l.kind l.ports) ≡ first_fault (limit_checks l.settings l.most l.kind (drop l.port-index l.ports))
