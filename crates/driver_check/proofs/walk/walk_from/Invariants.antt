use Rattle.std.proofs.Common.{◌-◌, length}
use Rattle.driver_check.specs.Invariants.{IsWalking}
use Rattle.driver_check.proofs.walk.walk_from.Given as goal

abbrev pub invariant-turns : goal.invariant-turns
invariant-turns l = IsWalking l.circuit l.sorting l.walk.bits.items l.walk.seen.items l.walk.number

abbrev pub decreases-turns : goal.decreases-turns
decreases-turns l = l.sorting.numbering.bits - length l.walk.bits.items
