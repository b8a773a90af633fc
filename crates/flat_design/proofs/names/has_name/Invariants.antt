use Rattle.std.proofs.Common.{◌≡◌, map, drop}
use Rattle.std.specs.List.{list_any}
use Rattle.flat_design.specs.Names.{same_name}
use Rattle.flat_design.proofs.names.has_name.Given as goal

abbrev pub invariant-loop-item : goal.invariant-loop-item
invariant-loop-item g l =
    list_any (same_name l.name) (map g.T.Named.name_of (drop l.item-index l.items))
    ≡ list_any (same_name l.name) (map g.T.Named.name_of l.items)
