use Rattle.std.proofs.Common.{◌≡◌, ◌++◌, drop, map}
use Rattle.std.specs.Prelude.{option_copied}
use Rattle.design_starts.specs.Marks.{marks_from}
use Rattle.design_starts.proofs.marks.marks_of.Given as goal

abbrev pub invariant-loop-net : goal.invariant-loop-net
invariant-loop-net l = marks_from 0 l.nets (map option_copied l.inits) ≡ l.found.items ++ marks_from l.net (drop l.net l.nets) (drop l.net (map option_copied l.inits))
