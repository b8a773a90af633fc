use Rattle.std.proofs.Common.{◌≡◌, true}
use Rattle.design_memory.specs.Rules.{are_set}
use Rattle.design_memory.proofs.allowed.are_set.Given as goal

abbrev pub invariant-loop-at : goal.invariant-loop-at
invariant-loop-at l = are_set l.value l.at ≡ true
