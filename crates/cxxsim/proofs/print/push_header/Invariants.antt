use Rattle.std.proofs.Common.{◌≡◌, ◌++◌, take}
use Rattle.std.specs.List.{flat_map}
use Rattle.cxxsim.specs.TraceText.{item_line}
use Rattle.cxxsim.proofs.print.push_header.Given as goal

abbrev pub invariant-loop-item : goal.invariant-loop-item
invariant-loop-item l = l.text.items ≡ l.initial.text.items ++ flat_map (item_line l.circuit) (take l.item-index l.item-items)
