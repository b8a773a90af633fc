use Rattle.std.proofs.Common.{◌≡◌, bytes_eq, drop}
use Rattle.std.specs.List.{list_any}
use Rattle.cell_library.specs.Names.{parameter_name}
use Rattle.design_cells.proofs.signals.has.Given as goal

abbrev pub invariant-loop-other : goal.invariant-loop-other
invariant-loop-other l = list_any (λ q. bytes_eq (parameter_name l.parameter) (parameter_name q)) l.line.parameters.now ≡ list_any (λ q. bytes_eq (parameter_name l.parameter) (parameter_name q)) (drop l.other-index l.line.parameters.now)
