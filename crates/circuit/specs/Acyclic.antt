-- The bits that depend on no cycle, and circuits in order.
use Rattle.std.specs.Prelude.{◌≡◌, ℕ, zero, suc, ◌+◌, ◌-◌, ◌≤◌, List, [], ◌∷◌, Bool, true, false, ◌&&◌, ◌||◌, Option, Some, None, slice_get}
use Rattle.circuit.specs.Valuation.{covers, drive_of}
use Rattle.circuit.specs.declared.netlist.Circuit.{Circuit}
use Rattle.circuit.specs.declared.netlist.Drive.{Drive}
use Rattle.circuit.specs.declared.netlist.Net.{Net}
use Rattle.circuit.specs.declared.cell.Cell.{Cell}
use Rattle.circuit.specs.declared.memory.Mem.{Mem}
use Rattle.circuit.specs.declared.memory.ReadPort.{ReadPort}
use Rattle.circuit.specs.declared.netlist.By.{By}
use Rattle.circuit.specs.declared.netlist.By.TheVariants as by
use Rattle.circuit.specs.declared.netlist.Piece.{Piece}
use Rattle.circuit.specs.declared.netlist.Piece.TheVariants as piece

abbrev pub Test : Type 0
Test = ℕ → ℕ → Bool

unfoldable pub all_below : (ℕ → Bool) → ℕ → Bool
all_below p zero = true
all_below p (suc n) = p n && all_below p n

unfoldable pub sig_acyclic : Test → List Piece → Bool
sig_acyclic acyclic [] = true
sig_acyclic acyclic (piece.Const v ∷ ps) = sig_acyclic acyclic ps
sig_acyclic acyclic (piece.Part n at width ∷ ps) = all_below (λ j. acyclic n (at + j)) width && sig_acyclic acyclic ps

abbrev pub cell_acyclic : Test → Option Cell → Bool
cell_acyclic acyclic None = true
cell_acyclic acyclic (Some c) = sig_acyclic acyclic c.a && (sig_acyclic acyclic c.b && sig_acyclic acyclic c.s)

abbrev pub port_acyclic : Test → Option ReadPort → Bool
port_acyclic acyclic None = true
port_acyclic acyclic (Some p) = p.clocked || sig_acyclic acyclic p.addr

abbrev pub read_acyclic : Test → Option Mem → ℕ → Bool
read_acyclic acyclic None n = true
read_acyclic acyclic (Some m) n = port_acyclic acyclic (slice_get m.reads n)

-- a constant, an input, a register and a read port with a clock depend on nothing, an output bit of a cell on every bit
-- of its inputs, a bit of a read port without a clock on every bit of its address
abbrev pub by_acyclic : Circuit → Test → By → ℕ → Bool
by_acyclic c acyclic (by.Const v) i = true
by_acyclic c acyclic (by.Input n at) i = true
by_acyclic c acyclic (by.Wire n at) i = acyclic n (at + i)
by_acyclic c acyclic (by.Cell n at) i = cell_acyclic acyclic (slice_get c.cells n)
by_acyclic c acyclic (by.Reg n at) i = true
by_acyclic c acyclic (by.Read m n at) i = read_acyclic acyclic (slice_get c.mems m) n

abbrev pub drive_acyclic : Circuit → Test → ℕ → Option Drive → Bool
drive_acyclic c acyclic bit None = true
drive_acyclic c acyclic bit (Some d) = by_acyclic c acyclic d.by (bit - d.at)

-- all that the bit depends on is acyclic in one step less
unfoldable pub acyclic_within : Circuit → ℕ → Test
acyclic_within c zero net bit = false
acyclic_within c (suc s) net bit = drive_acyclic c (acyclic_within c s) bit (drive_of c net bit)

-- a bit that depends on no cycle
abbrev pub IsAcyclic : Circuit → ℕ → ℕ → Type 0
IsAcyclic c net bit = (s : ℕ) × (acyclic_within c s net bit ≡ true)

-- no two drives share a bit
abbrev pub IsDrivenOnce : Circuit → Type 0
IsDrivenOnce c = (i j net bit : ℕ) (d e : Drive) → slice_get c.drives i ≡ Some d → slice_get c.drives j ≡ Some e
    → covers net bit d ≡ true → covers net bit e ≡ true → i ≡ j

-- each drive lies inside its net
abbrev pub AreDrivesInside : Circuit → Type 0
AreDrivesInside c = (i : ℕ) (d : Drive) → slice_get c.drives i ≡ Some d → (x : Net) × (slice_get c.nets d.net ≡ Some x) × (d.at + d.width ≤ x.width)

-- one driver for each bit, and no bit depends on itself
pub record IsInOrder (c : Circuit) : Type 0 where
  pub once : IsDrivenOnce c
  pub inside : AreDrivesInside c
  pub acyclic : (net bit : ℕ) → IsAcyclic c net bit
