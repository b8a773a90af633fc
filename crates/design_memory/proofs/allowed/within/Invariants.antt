use Rattle.std.proofs.Common.{◌≡◌, drop}
use Rattle.design_memory.specs.Rules.{within}
use Rattle.design_memory.proofs.allowed.within.Given as goal

abbrev pub invariant-loop-port : goal.invariant-loop-port
invariant-loop-port l = within l.shape l.ports ≡ within l.shape (drop l.port-index l.ports)
