-- What a register bit drives, directly or through wires alone, by any drive of a bit.
use Rattle.std.specs.Prelude.{◌≡◌, ℕ, zero, suc, ◌+◌, ◌-◌, true, Some, slice_get}
use Rattle.circuit.specs.Valuation.{covers}
use Rattle.circuit.specs.declared.netlist.By.{By}
use Rattle.circuit.specs.declared.netlist.By.TheVariants as by
use Rattle.circuit.specs.declared.netlist.Circuit.{Circuit}
use Rattle.circuit.specs.declared.netlist.Drive.{Drive}
use Rattle.driver_check.specs.Depends.{Bit}

-- a drive of the circuit gives a bit the i-th bit of something
pub record IsGiven (c : Circuit) (x : Bit) (driver : ℕ → By) (i : ℕ) : Type 0 where
  pub place : ℕ
  pub drive : Drive
  pub from : ℕ
  pub stands : slice_get c.drives place ≡ Some drive
  pub covered : covers x.0 x.1 drive ≡ true
  pub by : drive.by ≡ driver from
  pub bit : from + (x.1 - drive.at) ≡ i

-- a register bit drives a net bit through so many wires
unfoldable pub DrivesThrough : Circuit → Bit → ℕ → Bit → Type 0
DrivesThrough c r zero x = IsGiven c x (by.Reg r.0) r.1
DrivesThrough c r (suc wires) x = (y : Bit) × IsGiven c x (by.Wire y.0) y.1 × DrivesThrough c r wires y

-- a register bit drives a net bit directly or through wires alone
abbrev pub Drives : Circuit → Bit → Bit → Type 0
Drives c r x = (wires : ℕ) × DrivesThrough c r wires x
