use Rattle.std.proofs.Common.{◌≡◌, map, drop}
use Rattle.flat_design.specs.Names.{are_distinct}
use Rattle.flat_design.proofs.names.names_differ.Given as goal

abbrev pub invariant-loop-i : goal.invariant-loop-i
invariant-loop-i g l =
    are_distinct (map g.T.Named.name_of (drop l.i l.items)) ≡ are_distinct (map g.T.Named.name_of l.items)
