use Rattle.std.proofs.Common.{◌≡◌, drop}
use Rattle.circuit.specs.Valid.{names_differ}
use Rattle.circuit.proofs.validity.items.names_differ.Given as goal

abbrev pub invariant-loop-i : goal.invariant-loop-i
invariant-loop-i l = names_differ (drop l.i l.scopes) ≡ names_differ l.scopes
