use Rattle.std.proofs.Common.{◌≡◌, drop}
use Rattle.circuit.specs.Valid.{numbers_differ}
use Rattle.circuit.proofs.validity.items.numbers_differ.Given as goal

abbrev pub invariant-loop-i : goal.invariant-loop-i
invariant-loop-i l = numbers_differ (drop l.i l.numbers) ≡ numbers_differ l.numbers
