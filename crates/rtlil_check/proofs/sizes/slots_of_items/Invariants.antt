use Rattle.std.proofs.Common.{◌≡◌, min, sum_by, take}
use Rattle.circuit.specs.Shown.{slots_of}
use Rattle.rtlil_check.proofs.sizes.slots_of_items.Given as goal

abbrev pub invariant-loop-item : goal.invariant-loop-item
invariant-loop-item l = l.slots ≡ min (sum_by (λ i. slots_of l.mems i.kind) (take l.item-index l.items)) 18446744073709551615
