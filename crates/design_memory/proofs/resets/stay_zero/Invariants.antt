use Rattle.std.proofs.Common.{◌≡◌, drop}
use Rattle.std.specs.List.{list_all}
use Rattle.design_memory.specs.Rules.{stays_zero}
use Rattle.design_memory.proofs.resets.stay_zero.Given as goal

abbrev pub invariant-loop-connection : goal.invariant-loop-connection
invariant-loop-connection l = list_all stays_zero l.connections ≡ list_all stays_zero (drop l.connection-index l.connections)
