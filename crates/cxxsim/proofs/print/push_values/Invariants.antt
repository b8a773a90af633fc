use Rattle.std.proofs.Common.{◌≡◌, ◌++◌, take}
use Rattle.std.specs.List.{flat_map}
use Rattle.circuit.specs.Shown.{item_number}
use Rattle.cxxsim.specs.TraceText.{item_width, value_text}
use Rattle.cxxsim.proofs.print.push_values.Given as goal

abbrev pub invariant-loop-item : goal.invariant-loop-item
invariant-loop-item l = l.text.items ≡ l.initial.text.items ++ flat_map (λ i. value_text (item_width l.circuit i) (item_number l.rounds i.kind 0)) (take l.item-index l.item-items)
