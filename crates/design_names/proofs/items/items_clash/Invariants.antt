use Rattle.std.proofs.Common.{◌≡◌, ◌++◌, [], drop}
use Rattle.design_names.specs.Clashes.{items_clash}
use Rattle.design_names.proofs.items.items_clash.Given as goal

abbrev pub invariant-loop-item : goal.invariant-loop-item
invariant-loop-item l = l.clashes ++ items_clash l.wires l.earlier (drop l.item-index l.items) ≡ items_clash l.wires [] l.items
