-- The value of each bit of each net, from a state and the inputs. That a bit without a driver is 0 is this project's own choice.
use Rattle.std.specs.Prelude.{◌≡◌, ℕ, zero, suc, ◌+◌, ◌-◌, List, [], ◌∷◌, Bool, ◌&&◌, nat_eq, nat_le, nat_lt, Option, Some, None, find, slice_get, slice_index, sum_by, if◌then◌else◌}
use Rattle.std.specs.Int.{bit_at}
use Rattle.circuit.specs.Signal.{Digits, gathered, sig_number}
use Rattle.circuit.specs.State.{State, Stored, addressed_row}
use Rattle.circuit.specs.Output.{output}
use Rattle.circuit.specs.declared.netlist.Circuit.{Circuit}
use Rattle.circuit.specs.declared.netlist.Net.{Net}
use Rattle.circuit.specs.declared.netlist.Drive.{Drive}
use Rattle.circuit.specs.declared.cell.Cell.{Cell}
use Rattle.circuit.specs.declared.memory.Mem.{Mem}
use Rattle.circuit.specs.declared.memory.ReadPort.{ReadPort}
use Rattle.circuit.specs.declared.netlist.By.{By}
use Rattle.circuit.specs.declared.netlist.By.TheVariants as by

-- the first bit that is taken of what drives
abbrev pub offset_of : By → ℕ
offset_of (by.Const v) = 0
offset_of (by.Input n at) = at
offset_of (by.Wire n at) = at
offset_of (by.Cell n at) = at
offset_of (by.Reg n at) = at
offset_of (by.Read m n at) = at

abbrev pub covers : ℕ → ℕ → Drive → Bool
covers net bit d = nat_eq d.net net && (nat_le d.at bit && nat_lt bit (d.at + d.width))

-- the drive of a bit: the first that covers it
abbrev pub drive_of : Circuit → ℕ → ℕ → Option Drive
drive_of c net bit = find (covers net bit) c.drives

abbrev pub cell_digit : Digits → Option Cell → ℕ → ℕ
cell_digit digits None i = 0
cell_digit digits (Some c) i = bit_at (output digits c) i

-- the number of a read port: of one without a clock its row, of one with a clock what it keeps
abbrev pub port_number : Digits → Mem → Stored → ℕ → ReadPort → ℕ
port_number digits m kept n p = if p.clocked then slice_index kept.reads n else addressed_row m kept.rows (sig_number digits p.addr)

abbrev pub port_digit : Digits → Mem → Stored → ℕ → Option ReadPort → ℕ → ℕ
port_digit digits m kept n None i = 0
port_digit digits m kept n (Some p) i = bit_at (port_number digits m kept n p) i

abbrev pub read_digit : Digits → Option Mem → Option Stored → ℕ → ℕ → ℕ
read_digit digits (Some m) (Some kept) n i = port_digit digits m kept n (slice_get m.reads n) i
read_digit digits _ _ n i = 0

-- the digit that a driver gives at its i-th bit
abbrev pub given : Circuit → State → List ℕ → Digits → By → ℕ → ℕ
given c state inputs digits (by.Const v) i = bit_at v.number i
given c state inputs digits (by.Input n at) i = bit_at (slice_index inputs n) (at + i)
given c state inputs digits (by.Wire n at) i = digits n (at + i)
given c state inputs digits (by.Cell n at) i = cell_digit digits (slice_get c.cells n) (at + i)
given c state inputs digits (by.Reg n at) i = bit_at (slice_index state.regs n) (at + i)
given c state inputs digits (by.Read m n at) i = read_digit digits (slice_get c.mems m) (slice_get state.mems m) n (at + i)

-- a bit without a driver is 0
abbrev pub driven : Circuit → State → List ℕ → Digits → ℕ → Option Drive → ℕ
driven c state inputs digits bit None = 0
driven c state inputs digits bit (Some d) = given c state inputs digits d.by (bit - d.at)

-- each bit has what its driver gives
abbrev pub IsValuation : Circuit → State → List ℕ → Digits → Type 0
IsValuation c state inputs digits = (net bit : ℕ) → digits net bit ≡ driven c state inputs digits bit (drive_of c net bit)

-- the digit of a bit, found by at most so many steps from driver to driver
unfoldable pub digit_within : Circuit → State → List ℕ → ℕ → Digits
digit_within c state inputs zero net bit = 0
digit_within c state inputs (suc steps) net bit = driven c state inputs (digit_within c state inputs steps) bit (drive_of c net bit)

abbrev pub bits_of : Circuit → ℕ
bits_of c = sum_by (λ n. n.width) c.nets

-- the digit of a bit: no way from driver to driver has more steps than there are bits
abbrev pub digit_at : Circuit → State → List ℕ → Digits
digit_at c state inputs = digit_within c state inputs (suc (bits_of c))

unfoldable pub numbers_from : Digits → ℕ → List Net → List ℕ
numbers_from digits n [] = []
numbers_from digits n (x ∷ xs) = gathered (digits n) x.width ∷ numbers_from digits (suc n) xs

-- the number of each net
abbrev pub valuation : Circuit → State → List ℕ → List ℕ
valuation c state inputs = numbers_from (digit_at c state inputs) 0 c.nets
