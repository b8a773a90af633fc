use Rattle.std.proofs.Common.{◌≡◌, drop}
use Rattle.cell_library.specs.Checks.{first_fault, parameter_checks}
use Rattle.cell_library.proofs.checks.parameters_pass.Given as goal

abbrev pub invariant-loop-parameter : goal.invariant-loop-parameter
invariant-loop-parameter l = first_fault (parameter_checks l.settings l.parameters) ≡ first_fault (parameter_checks l.settings (drop l.parameter-index l.parameters))
