use Rattle.std.proofs.Common.{◌≡◌, ◌+◌, ◌≤◌, min, sum_by, drop}
use Rattle.circuit.specs.Shown.{slots_of}
use Rattle.circuit.proofs.validity.counts.slots_of_items.Given as goal

abbrev pub invariant-loop-item : goal.invariant-loop-item
invariant-loop-item l =
    (l.slots ≤ 4294967296)
    × (min (l.slots + sum_by (λ i. slots_of l.mems i.kind) (drop l.item-index l.items)) 4294967296
    ≡ min (sum_by (λ i. slots_of l.mems i.kind) l.items) 4294967296)
