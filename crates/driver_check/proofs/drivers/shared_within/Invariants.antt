use Rattle.std.proofs.Common.{◌≡◌, ℕ}
use Rattle.std.specs.Prelude.{slice_index}
use Rattle.driver_check.specs.Numbers.{IsIn}
use Rattle.driver_check.proofs.drivers.shared_within.Given as goal

abbrev pub invariant-loop-at : goal.invariant-loop-at
invariant-loop-at l = (v : ℕ) → IsIn l.first l.at v → slice_index l.owners v ≡ l.place
