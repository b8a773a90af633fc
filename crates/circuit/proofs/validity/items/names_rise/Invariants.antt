use Rattle.std.proofs.Common.{◌≡◌, drop}
use Rattle.circuit.specs.Valid.{names_rise}
use Rattle.circuit.proofs.validity.items.names_rise.Given as goal

abbrev pub invariant-loop-i : goal.invariant-loop-i
invariant-loop-i l = names_rise (drop l.i l.items) ≡ names_rise l.items
