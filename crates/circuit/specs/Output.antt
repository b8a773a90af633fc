-- What a combinational cell computes: the cell library of the Yosys manual. That a zero divisor gives 0, that `$pmux` with
-- several selected parts gives the lowest, and that `$shiftx` fills with 0 is this project's own choice.
use Rattle.std.specs.Prelude.{◌⊎◌, ℕ, zero, suc, ◌+◌, ◌-◌, ◌*◌, ◌/◌, ◌%◌, ◌^◌, ◌==◌, max, ℤ, pos, negsuc, ◌+ℤ◌, ◌-ℤ◌, ◌*ℤ◌, neg_ℤ, int_lt, int_le, bit_and, bit_or, bit_xor, Bool, not, ◌&&◌, ◌||◌, if◌then◌else◌}
use Rattle.std.specs.Int.{bit_at}
use Rattle.sim_base.specs.BitValue.{BitValue}
use Rattle.circuit.specs.Signal.{Digits, Reads, gathered, sig_value}
use Rattle.circuit.specs.declared.cell.Cell.{Cell}
use Rattle.circuit.specs.declared.cell.Op.{Op}
use Rattle.circuit.specs.declared.cell.Op.TheVariants as op

-- what a cell computes its output from: the width of the output, the offset, the flags and the values of the ports
pub record CellInputs : Type 0 where
  pub width : ℕ
  pub offset : ℕ
  pub a_signed : Bool
  pub b_signed : Bool
  pub a : BitValue
  pub b : BitValue
  pub s : BitValue

-- ---- operands as whole numbers

-- the whole number that `width` digits stand for, in two's complement where signed
abbrev pub operand : Bool → ℕ → ℕ → ℤ
operand signed width v = if signed && (bit_at v (width - 1) == 1) then pos v -ℤ pos (2 ^ width) else pos v

-- a whole number modulo 2 to the width
abbrev pub modulo : ℕ → ℤ → ℕ
modulo width (pos n) = n % 2 ^ width
modulo width (negsuc n) = (2 ^ width - 1) - n % 2 ^ width

-- both operands of a binary cell are signed where both flags are set
abbrev pub left : CellInputs → ℤ
left i = operand (i.a_signed && i.b_signed) i.a.width i.a.number

abbrev pub right : CellInputs → ℤ
right i = operand (i.a_signed && i.b_signed) i.b.width i.b.number

-- the operand of a unary cell, and the first one of a shift
abbrev pub first : CellInputs → ℤ
first i = operand i.a_signed i.a.width i.a.number

-- ---- words of the formulas

abbrev pub truth : Bool → ℤ
truth b = pos (if b then 1 else 0)

abbrev pub is_zero : BitValue → Bool
is_zero v = v.number == 0

-- how many of the first `width` bits are 1
unfoldable pub ones : ℕ → ℕ → ℕ
ones zero n = 0
ones (suc width) n = bit_at n width + ones width n

-- the quotient rounded down, for a divisor that is not 0
abbrev pub floor_by : ℤ → ℕ → ℤ
floor_by (pos n) m = pos (n / m)
floor_by (negsuc n) m = negsuc (n / m)

abbrev pub floor_quotient : ℤ → ℤ → ℤ
floor_quotient a (pos m) = floor_by a m
floor_quotient a (negsuc m) = floor_by (neg_ℤ a) (suc m)

-- the quotient truncated toward zero, for a divisor that is not 0
abbrev pub truncated_quotient : ℤ → ℤ → ℤ
truncated_quotient (pos n) (pos m) = pos (n / m)
truncated_quotient (pos n) (negsuc m) = neg_ℤ (pos (n / suc m))
truncated_quotient (negsuc n) (pos m) = neg_ℤ (pos (suc n / m))
truncated_quotient (negsuc n) (negsuc m) = pos (suc n / suc m)

-- bit by bit on the operands, extended or cut to the width of the output
abbrev pub bitwise : (ℕ → ℕ → ℕ) → CellInputs → ℤ
bitwise combine i = pos (combine (modulo i.width (left i)) (modulo i.width (right i)))

-- a zero divisor gives 0
abbrev pub divided : (ℤ → ℤ → ℤ) → CellInputs → ℤ
divided quotient i = if is_zero i.b then pos 0 else quotient (left i) (right i)

abbrev pub remainder : (ℤ → ℤ → ℤ) → CellInputs → ℤ
remainder quotient i = if is_zero i.b then pos 0 else left i -ℤ right i *ℤ quotient (left i) (right i)

abbrev pub is_equal : CellInputs → Bool
is_equal i = int_le (left i) (right i) && int_le (right i) (left i)

-- the number that is shifted right: the first operand in the larger of its own width and the output's
abbrev pub widened : CellInputs → ℕ
widened i = modulo (max i.a.width i.width) (first i)

-- by a number of bits to the right, or to the left where the number is below 0
abbrev pub shifted : ℕ → ℤ → ℤ
shifted n (pos by) = pos (n / 2 ^ by)
shifted n (negsuc by) = pos (n * 2 ^ suc by)

-- part i of a number that is made of parts of this width
abbrev pub part : ℕ → ℕ → ℕ → ℕ
part width i n = n / 2 ^ (width * i) % 2 ^ width

-- the lowest bit that is 1 of a number that is not 0, looked for among so many bits from bit i on
unfoldable pub lowest_from : ℕ → ℕ → ℕ → ℕ
lowest_from zero i n = i
lowest_from (suc bits) i n = if bit_at n i == 1 then i else lowest_from bits (suc i) n

abbrev pub lowest : BitValue → ℕ
lowest s = lowest_from s.width 0 s.number

-- one bit of A or of B
abbrev pub chosen_bit : CellInputs → ℕ → ℕ
chosen_bit i bit = if bit_at i.s.number bit == 1 then bit_at i.b.number bit else bit_at i.a.number bit

abbrev pub equal_bit : CellInputs → ℕ → ℕ
equal_bit i bit = if bit_at i.a.number bit == bit_at i.b.number bit then 1 else 0

-- ---- the formula of each type, which is taken modulo 2 to the width of the output

abbrev pub formula : Op → CellInputs → ℤ
formula op.Not i = pos 0 -ℤ pos 1 -ℤ first i
formula op.Pos i = first i
formula op.Neg i = pos 0 -ℤ first i
formula op.And i = bitwise bit_and i
formula op.Or i = bitwise bit_or i
formula op.Xor i = bitwise bit_xor i
formula op.Xnor i = pos 0 -ℤ pos 1 -ℤ bitwise bit_xor i
formula op.ReduceAnd i = truth (i.a.number == 2 ^ i.a.width - 1)
formula op.ReduceOr i = truth (not (is_zero i.a))
formula op.ReduceBool i = truth (not (is_zero i.a))
formula op.ReduceXor i = truth (ones i.a.width i.a.number % 2 == 1)
formula op.ReduceXnor i = truth (ones i.a.width i.a.number % 2 == 0)
formula op.LogicNot i = truth (is_zero i.a)
formula op.LogicAnd i = truth (not (is_zero i.a) && not (is_zero i.b))
formula op.LogicOr i = truth (not (is_zero i.a) || not (is_zero i.b))
formula op.Add i = left i +ℤ right i
formula op.Sub i = left i -ℤ right i
formula op.Mul i = left i *ℤ right i
formula op.Div i = divided truncated_quotient i
formula op.Mod i = remainder truncated_quotient i
formula op.DivFloor i = divided floor_quotient i
formula op.ModFloor i = remainder floor_quotient i
formula op.Lt i = truth (int_lt (left i) (right i))
formula op.Le i = truth (int_le (left i) (right i))
formula op.Eq i = truth (is_equal i)
formula op.Ne i = truth (not (is_equal i))
formula op.Ge i = truth (int_le (right i) (left i))
formula op.Gt i = truth (int_lt (right i) (left i))
formula op.Eqx i = truth (is_equal i)
formula op.Nex i = truth (not (is_equal i))
formula op.Shl i = first i *ℤ pos (2 ^ i.b.number)
formula op.Sshl i = first i *ℤ pos (2 ^ i.b.number)
formula op.Shr i = pos (widened i / 2 ^ i.b.number)
formula op.Sshr i = floor_by (first i) (2 ^ i.b.number)
formula op.Shift i = shifted (widened i) (operand i.b_signed i.b.width i.b.number)
formula op.Shiftx i = shifted i.a.number (operand i.b_signed i.b.width i.b.number)
formula op.Mux i = pos (if i.s.number == 1 then i.b.number else i.a.number)
formula op.Pmux i = pos (if is_zero i.s then i.a.number else part i.width (lowest i.s) i.b.number)
formula op.Bmux i = pos (part i.width i.s.number i.a.number)
formula op.Demux i = pos (i.a.number * 2 ^ (i.a.width * i.s.number))
formula op.Bwmux i = pos (gathered (chosen_bit i) i.width)
formula op.Bweqx i = pos (gathered (equal_bit i) i.width)
formula op.Slice i = pos (i.a.number / 2 ^ i.offset)
formula op.Concat i = pos (i.a.number + i.b.number * 2 ^ i.a.width)

-- what a cell reads under a valuation
abbrev pub cell_inputs : Digits → Cell → CellInputs
cell_inputs digits c = record {
  width = c.width;
  offset = c.offset;
  a_signed = c.a_signed;
  b_signed = c.b_signed;
  a = sig_value digits c.a;
  b = sig_value digits c.b;
  s = sig_value digits c.s;
}

-- the number that a cell gives
abbrev pub output : Digits → Cell → ℕ
output digits c = modulo c.width (formula c.op (cell_inputs digits c))

-- a cell reads a bit
abbrev pub ReadsBit : Cell → ℕ → ℕ → Type 0
ReadsBit c net bit = Reads c.a net bit ⊎ (Reads c.b net bit ⊎ Reads c.s net bit)
