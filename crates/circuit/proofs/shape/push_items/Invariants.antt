use Rattle.std.proofs.Common.{◌≡◌, ◌++◌, take}
use Rattle.std.specs.List.{flat_map}
use Rattle.circuit.specs.Slots.{item_widths}
use Rattle.circuit.proofs.shape.push_items.Given as goal

abbrev pub invariant-loop-item : goal.invariant-loop-item
invariant-loop-item l = l.widths.items ≡ l.fn.widths.items ++ flat_map (λ i. item_widths l.circuit.nets l.circuit.mems i.kind) (take l.item-index l.items)
