use Rattle.std.proofs.Common.{◌≡◌, drop}
use Rattle.design_diagnostics.specs.Names.{type_in}
use Rattle.design_diagnostics.proofs.names.type_in.Given as goal

abbrev pub invariant-loop-silent : goal.invariant-loop-silent
invariant-loop-silent l = type_in l.types l.name ≡ type_in (drop l.silent-index l.types) l.name
