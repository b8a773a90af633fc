use Rattle.std.proofs.Common.{◌≡◌, ◌++◌, drop, map}
use Rattle.design_names.specs.Clashes.{item_of, items_of}
use Rattle.design_names.proofs.items.items_of.Given as goal

abbrev pub invariant-loop-statement : goal.invariant-loop-statement
invariant-loop-statement l = l.items ++ map item_of (drop l.statement-index l.statements) ≡ items_of l.statements
