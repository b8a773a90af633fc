use Rattle.std.proofs.Common.{◌≡◌, ◌++◌, [], drop}
use Rattle.design_names.specs.Clashes.{cells_clash}
use Rattle.design_names.proofs.cells.cells_clash.Given as goal

abbrev pub invariant-loop-statement : goal.invariant-loop-statement
invariant-loop-statement l = l.clashes ++ cells_clash l.earlier (drop l.statement-index l.statements) ≡ cells_clash [] l.statements
