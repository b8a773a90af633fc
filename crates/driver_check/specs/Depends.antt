-- Which bits a bit depends on, and which bits come before others.
use Rattle.std.specs.Prelude.{◌≡◌, ℕ, ◌-◌, ◌<◌, ◌⊎◌, Some, slice_get, false, ◌+◌, Option, None}
use Rattle.circuit.specs.Acyclic.{IsAcyclic}
use Rattle.circuit.specs.Output.{ReadsBit}
use Rattle.circuit.specs.Signal.{Reads}
use Rattle.circuit.specs.Valuation.{drive_of}
use Rattle.circuit.specs.declared.cell.Cell.{Cell}
use Rattle.circuit.specs.declared.memory.Mem.{Mem}
use Rattle.circuit.specs.declared.memory.ReadPort.{ReadPort}
use Rattle.circuit.specs.declared.netlist.By.TheVariants as by
use Rattle.circuit.specs.declared.netlist.By.{By}
use Rattle.circuit.specs.declared.netlist.Circuit.{Circuit}
use Rattle.circuit.specs.declared.netlist.Drive.{Drive}

-- a cell reads a bit
abbrev pub CellReads : Option Cell → ℕ → ℕ → Type 0
CellReads None net bit = ⊥
CellReads (Some x) net bit = ReadsBit x net bit

-- a read port without a clock reads a bit
abbrev pub PortReads : Option ReadPort → ℕ → ℕ → Type 0
PortReads None net bit = ⊥
PortReads (Some p) net bit = (p.clocked ≡ false) × Reads p.addr net bit

abbrev pub MemReads : Option Mem → ℕ → ℕ → ℕ → Type 0
MemReads None n net bit = ⊥
MemReads (Some m) n net bit = PortReads (slice_get m.reads n) net bit

-- a driver takes its i-th bit from a bit of a net, or computes it from that bit among others
abbrev pub TakesBit : Circuit → By → ℕ → ℕ → ℕ → Type 0
TakesBit c (by.Const v) i net bit = ⊥
TakesBit c (by.Input n at) i net bit = ⊥
TakesBit c (by.Wire n at) i net bit = (n ≡ net) × (at + i ≡ bit)
TakesBit c (by.Cell n at) i net bit = CellReads (slice_get c.cells n) net bit
TakesBit c (by.Reg n at) i net bit = ⊥
TakesBit c (by.Read m n at) i net bit = MemReads (slice_get c.mems m) n net bit

abbrev pub DriveTakes : Circuit → Option Drive → ℕ → ℕ → ℕ → Type 0
DriveTakes c None at net bit = ⊥
DriveTakes c (Some d) at net bit = TakesBit c d.by (at - d.at) net bit

-- a bit of a net
abbrev pub Bit : Type 0
Bit = ℕ × ℕ

-- the first bit depends on the second one, through one drive and what it takes from
abbrev pub DependsOn : Circuit → Bit → Bit → Type 0
DependsOn c x y = DriveTakes c (drive_of c x.0 x.1) x.1 y.0 y.1

-- by net, and then by bit
abbrev pub IsBefore : Bit → Bit → Type 0
IsBefore x y = (x.0 < y.0) ⊎ ((x.0 ≡ y.0) × (x.1 < y.1))

-- a bit that depends on a cycle, or is in one
abbrev pub IsStuck : Circuit → Bit → Type 0
IsStuck c x = IsAcyclic c x.0 x.1 → ⊥
