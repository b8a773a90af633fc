use Rattle.std.proofs.Common.{◌≡◌, map, take}
use Rattle.std.specs.Prelude.{option_copied}
use Rattle.design_finish.proofs.finishing.borrowed.Given as goal

abbrev pub invariant-loop-init : goal.invariant-loop-init
invariant-loop-init l = map option_copied l.found.items ≡ take l.init-index l.inits
