use Rattle.driver_check.specs.Invariants.{IsLeastShared}
use Rattle.driver_check.proofs.drivers.least_shared.Given as goal

abbrev pub invariant-loop-place : goal.invariant-loop-place
invariant-loop-place l = IsLeastShared l.circuit l.place l.least l.numbering.bits
