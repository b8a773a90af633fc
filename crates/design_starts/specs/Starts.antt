-- The start values of registers.
use Rattle.std.specs.Prelude.{◌≡◌, ℕ, suc, ◌<◌, ◌^◌, List, [], ◌∷◌, length, Bool, false, ◌&&◌, ◌==◌, find, Option, Some, None, slice_get}
use Rattle.std.specs.Int.{bit_at}
use Rattle.sim_base.specs.BitValue.{BitValue, bit_value, digit_of}
use Rattle.circuit.specs.Signal.{gathered}
use Rattle.circuit.specs.declared.netlist.Circuit.{Circuit}
use Rattle.circuit.specs.declared.register.Reg.{Reg}
use Rattle.driver_check.specs.Depends.{Bit}
use Rattle.rtlil_tree.specs.declared.sig.Const.{Const}
use Rattle.design_starts.specs.Marks.{marks}
use Rattle.design_starts.specs.Origins.{origin}
use Rattle.design_starts.specs.declared.marks.Mark.{Mark}

abbrev pub is_bit : ℕ → ℕ → Option Bit → Bool
is_bit register bit None = false
is_bit register bit (Some x) = x.0 == register && x.1 == bit

-- the net bit of a mark comes from this register bit
abbrev pub comes_from : Circuit → ℕ → ℕ → Mark → Bool
comes_from c register bit m = is_bit register bit (origin c m.net m.bit)

abbrev pub digit_or_zero : Option Mark → ℕ
digit_or_zero None = 0
digit_or_zero (Some m) = digit_of m.digit

-- the digit of the first of some marks whose bit comes from a register bit, or else 0
abbrev pub first_digit : Circuit → List Mark → ℕ → ℕ → ℕ
first_digit c ms register bit = digit_or_zero (find (comes_from c register bit) ms)

-- the start value of a register bit
abbrev pub start_digit : Circuit → List (Option Const) → ℕ → ℕ → ℕ
start_digit c inits = first_digit c (marks c.nets inits)

abbrev pub start_value : (ℕ → ℕ) → ℕ → BitValue
start_value digit width = bit_value width (gathered digit width)

-- registers from one on that start with these digits
unfoldable pub started_from : (ℕ → ℕ → ℕ) → ℕ → List Reg → List Reg
started_from digits n [] = []
started_from digits n (r ∷ rs) = (record r { init = start_value (digits n) r.width }) ∷ started_from digits (suc n) rs

-- a circuit whose registers have their start values
abbrev pub started : Circuit → List (Option Const) → Circuit
started c inits = record c { regs = started_from (start_digit c inits) 0 c.regs }

-- ---- what the code does

-- values as wide as registers, with the digits of the first of some marks
pub record HaveDigits (c : Circuit) (ms : List Mark) (values : List BitValue) : Type 0 where
  pub long : length values ≡ length c.regs
  pub width : (n : ℕ) (r : Reg) (v : BitValue) → slice_get c.regs n ≡ Some r → slice_get values n ≡ Some v → v.width ≡ r.width
  pub below : (n : ℕ) (v : BitValue) → slice_get values n ≡ Some v → v.number < 2 ^ v.width
  pub digit : (n : ℕ) (v : BitValue) (i : ℕ) → slice_get values n ≡ Some v → i < v.width → bit_at v.number i ≡ first_digit c ms n i

-- registers with these values
unfoldable pub with_values : List Reg → List BitValue → List Reg
with_values [] values = []
with_values (r ∷ rs) [] = []
with_values (r ∷ rs) (v ∷ vs) = (record r { init = v }) ∷ with_values rs vs
