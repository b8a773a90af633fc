use Rattle.std.proofs.Common.{take}
use Rattle.driver_check.specs.Invariants.{IsLeastStuck}
use Rattle.driver_check.proofs.walk.least_stuck.Given as goal

abbrev pub invariant-loop-span : goal.invariant-loop-span
invariant-loop-span l = IsLeastStuck l.marks (take l.span-index l.row) l.bound l.least
