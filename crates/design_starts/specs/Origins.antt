-- The register bit that a bit of a net comes from, directly or through wires alone.
use Rattle.std.specs.Prelude.{ℕ, zero, suc, ◌+◌, ◌-◌, Option, Some, None, if◌then◌else◌}
use Rattle.circuit.specs.Valid.{net_holds}
use Rattle.circuit.specs.Valuation.{bits_of, drive_of}
use Rattle.circuit.specs.declared.netlist.By.{By}
use Rattle.circuit.specs.declared.netlist.By.TheVariants as by
use Rattle.circuit.specs.declared.netlist.Circuit.{Circuit}
use Rattle.circuit.specs.declared.netlist.Drive.{Drive}
use Rattle.driver_check.specs.Depends.{Bit}

-- what a driver gives as its i-th bit, where it is known what bits of nets come from; registers and their bits are
-- named as nets and theirs are
abbrev pub origin_by : (ℕ → ℕ → Option Bit) → By → ℕ → Option Bit
origin_by more (by.Reg register at) i = Some (register, at + i)
origin_by more (by.Wire net at) i = more net (at + i)
origin_by more _ i = None

abbrev pub origin_at : (ℕ → ℕ → Option Bit) → ℕ → Option Drive → Option Bit
origin_at more bit None = None
origin_at more bit (Some d) = origin_by more d.by (bit - d.at)

-- the register bit that a bit comes from by fewer than so many wires. Of several drives of a bit the first counts, and what
-- is no bit of a net comes from nothing
unfoldable pub origin_within : Circuit → ℕ → ℕ → ℕ → Option Bit
origin_within c zero net bit = None
origin_within c (suc wires) net bit =
    if net_holds c.nets net (suc bit) then origin_at (origin_within c wires) bit (drive_of c net bit) else None

-- the register bit that a bit comes from: a way that passes no bit twice has no more bits than there are
abbrev pub origin : Circuit → ℕ → ℕ → Option Bit
origin c = origin_within c (bits_of c)
