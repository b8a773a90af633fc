use Rattle.std.proofs.Common.{◌≡◌, drop}
use Rattle.design_instances.specs.Instances.{are_narrow}
use Rattle.design_instances.proofs.allowed.are_narrow.Given as goal

abbrev pub invariant-loop-at : goal.invariant-loop-at
invariant-loop-at l = are_narrow l.ports ≡ are_narrow (drop l.at l.ports)
