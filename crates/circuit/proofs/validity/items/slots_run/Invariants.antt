use Rattle.std.proofs.Common.{◌≡◌, ◌≤◌, drop}
use Rattle.circuit.specs.Valid.{slots_run}
use Rattle.circuit.proofs.validity.items.slots_run.Given as goal

abbrev pub invariant-loop-item : goal.invariant-loop-item
invariant-loop-item l =
    (l.before ≤ 8589934592) × (slots_run l.mems l.before (drop l.item-index l.items) ≡ slots_run l.mems 0 l.items)
