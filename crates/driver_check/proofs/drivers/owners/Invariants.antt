use Rattle.std.proofs.Common.{◌≡◌, length}
use Rattle.driver_check.specs.Owners.{AreOwners}
use Rattle.driver_check.proofs.drivers.owners.Given as goal

abbrev pub invariant-loop-place : goal.invariant-loop-place
invariant-loop-place l = record {
  len : length l.owners.items ≡ l.numbering.bits;
  owners : AreOwners l.circuit l.place l.owners.items;
}
