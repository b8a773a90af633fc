-- The passes over the drives that give each net its number.
use Rattle.std.specs.Prelude.{◌≡◌, ℕ, ◌<◌, ◌^◌, List, length, Option, Some, None, slice_get, slice_index}
use Rattle.circuit.specs.Signal.{Digits, digits_of_nets}
use Rattle.circuit.specs.Output.{output}
use Rattle.circuit.specs.declared.netlist.Circuit.{Circuit}
use Rattle.circuit.specs.declared.netlist.Net.{Net}
use Rattle.circuit.specs.declared.register.Reg.{Reg}
use Rattle.circuit.specs.declared.cell.Cell.{Cell}
use Rattle.circuit.specs.declared.netlist.Drive.{Drive}
use Rattle.circuit.specs.declared.netlist.By.{By}
use Rattle.circuit.specs.declared.netlist.By.TheVariants as by

-- one number for each net, below 2 to its width
pub record AreNetNumbers (c : Circuit) (numbers : List ℕ) : Type 0 where
  pub long : length numbers ≡ length c.nets
  pub below : (n : ℕ) (x : Net) → slice_get c.nets n ≡ Some x → slice_index numbers n < 2 ^ x.width

-- one number for each register, below 2 to its width
pub record AreRegNumbers (c : Circuit) (numbers : List ℕ) : Type 0 where
  pub long : length numbers ≡ length c.regs
  pub below : (n : ℕ) (x : Reg) → slice_get c.regs n ≡ Some x → slice_index numbers n < 2 ^ x.width

abbrev pub cell_number : Digits → Option Cell → ℕ
cell_number digits None = 0
cell_number digits (Some x) = output digits x

-- the number that a driver of a whole net gives
abbrev pub number_given : Circuit → List ℕ → List ℕ → Digits → By → ℕ
number_given c regs inputs digits (by.Const v) = v.number
number_given c regs inputs digits (by.Input n at) = slice_index inputs n
number_given c regs inputs digits (by.Wire n at) = 0
number_given c regs inputs digits (by.Cell n at) = cell_number digits (slice_get c.cells n)
number_given c regs inputs digits (by.Reg n at) = slice_index regs n
number_given c regs inputs digits (by.Read m n at) = 0

-- each net has the number that its driver gives, and 0 where none does
pub record AreGiven (c : Circuit) (regs inputs numbers : List ℕ) : Type 0 where
  pub driven : (i : ℕ) (d : Drive) → slice_get c.drives i ≡ Some d → slice_index numbers d.net ≡ number_given c regs inputs (digits_of_nets numbers) d.by
  pub undriven : (n : ℕ) → ((i : ℕ) (d : Drive) → slice_get c.drives i ≡ Some d → d.net ≡ n → ⊥) → slice_index numbers n ≡ 0

-- not a cell
abbrev pub IsSource : By → Type 0
IsSource (by.Const v) = Unit {0}
IsSource (by.Input n at) = Unit {0}
IsSource (by.Wire n at) = Unit {0}
IsSource (by.Cell n at) = ⊥
IsSource (by.Reg n at) = Unit {0}
IsSource (by.Read m n at) = Unit {0}

-- no cell drives the net, and none of the drives from the i-th on
abbrev pub IsSourced : Circuit → ℕ → ℕ → Type 0
IsSourced c i n = (j : ℕ) (d : Drive) → slice_get c.drives j ≡ Some d → d.net ≡ n → (j < i) × IsSource d.by

-- of the drives from the i-th on no cell drives the net
abbrev pub IsEvaluated : Circuit → ℕ → ℕ → Type 0
IsEvaluated c i n = (j k p : ℕ) (d : Drive) → slice_get c.drives j ≡ Some d → d.net ≡ n → d.by ≡ by.Cell k p → j < i
