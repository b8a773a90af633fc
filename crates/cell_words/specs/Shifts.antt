-- Shifts as moves of a number's digits.
use Rattle.std.specs.Prelude.{◌≡◌, ℕ, ◌+◌, ◌-◌, ◌*◌, ◌/◌, ◌^◌, ◌<◌, min, ℤ, pos, int_lt, Bool, true, false, ◌&&◌, ◌==◌, if◌then◌else◌}
use Rattle.std.specs.Int.{bit_at}
use Rattle.sim_base.specs.BitValue.{BitValue}
use Rattle.circuit.specs.Output.{CellInputs, operand, first, widened, modulo}
use Rattle.circuit.specs.declared.cell.Op.{Op}
use Rattle.circuit.specs.declared.cell.Op.TheVariants as op
use Rattle.cell_words.specs.Wholes.{magnitude}
use Rattle.cell_words.specs.declared.shift.Amount.{Amount}
use Rattle.cell_words.specs.declared.shift.Shift.{Shift}

-- no shift moves digits by more than this many places, which is twice the largest width
abbrev pub farthest : ℕ
farthest = 131072

-- the number with so many digits 1 in front of its own
abbrev pub extended : ℕ → BitValue → ℕ
extended ones a = (2 ^ ones - 1) * 2 ^ a.width + a.number

-- the number that a shift gives, before it is cut to the width of the output
abbrev pub moved : Shift → BitValue → ℕ
moved s a = extended s.ones a / 2 ^ s.right * 2 ^ s.left

-- by how many places a shift cell moves digits to the right
abbrev pub places : Op → CellInputs → ℤ
places op.Shift i = operand i.b_signed i.b.width i.b.number
places op.Shiftx i = operand i.b_signed i.b.width i.b.number
places _ i = pos i.b.number

-- whether a shift moves digits to the left, where its number of places is below 0 or not
abbrev pub is_to_the_left : Op → Bool → Bool
is_to_the_left op.Shl negative = true
is_to_the_left op.Sshl negative = true
is_to_the_left op.Shift negative = negative
is_to_the_left op.Shiftx negative = negative
is_to_the_left _ negative = false

-- an amount is that many places, or the farthest
pub record IsAmount (x : Amount) (z : ℤ) : Type 0 where
  pub negative : x.negative ≡ int_lt z (pos 0)
  pub by : x.by ≡ min (magnitude z) farthest

-- whether digits stand for a number below 0
abbrev pub is_below_zero : Bool → ℕ → ℕ → Bool
is_below_zero signed width number = signed && (bit_at number (width - 1) == 1)

-- whether the first operand is below 0
abbrev pub is_negative : CellInputs → Bool
is_negative i = is_below_zero i.a_signed i.a.width i.a.number

-- the number with so many digits that are all 1, or all 0
abbrev pub all_ones : Bool → ℕ → ℕ
all_ones ones width = if ones then 2 ^ width - 1 else 0

-- the number whose digits a shift cell moves: the first operand with as many digits as can be seen in the output
abbrev pub source : Op → CellInputs → ℕ
source op.Sshr i = modulo (i.width + i.a.width) (first i)
source op.Shiftx i = i.a.number
source _ i = widened i

-- what is known of the inputs of a shift cell: the widths, and whether the first operand is below 0
pub record HasWidths (i : CellInputs) (width a_width : ℕ) (negative : Bool) : Type 0 where
  pub width_is : i.width ≡ width
  pub a_width_is : i.a.width ≡ a_width
  pub below : i.a.number < 2 ^ i.a.width
  pub negative_is : is_negative i ≡ negative

-- neither operand of a shift cell is below 0: they are these numbers
pub record IsPlain (i : CellInputs) (number by : ℕ) : Type 0 where
  pub number_is : i.a.number ≡ number
  pub below : i.a.number < 2 ^ i.a.width
  pub word : number < 2 ^ 64
  pub positive : is_negative i ≡ false
  pub by_is : i.b.number ≡ by
  pub by_positive : is_below_zero i.b_signed i.b.width i.b.number ≡ false
