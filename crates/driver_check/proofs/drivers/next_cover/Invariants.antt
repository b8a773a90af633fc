use Rattle.std.proofs.Common.{◌≡◌, ℕ, ◌<◌, false, Some}
use Rattle.std.specs.Prelude.{slice_get}
use Rattle.circuit.specs.Valuation.{covers}
use Rattle.circuit.specs.declared.netlist.Drive.{Drive}
use Rattle.driver_check.proofs.drivers.next_cover.Given as goal

abbrev pub invariant-loop-place : goal.invariant-loop-place
invariant-loop-place l = (k : ℕ) (d : Drive) → l.first < k → k < l.place → slice_get l.drives k ≡ Some d → covers l.net l.bit d ≡ false
