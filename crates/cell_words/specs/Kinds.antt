-- The types of cells that are computed with whole numbers or shift.
use Rattle.std.specs.Prelude.{Bool, true, false, ◌||◌}
use Rattle.circuit.specs.declared.cell.Op.{Op}
use Rattle.circuit.specs.declared.cell.Op.TheVariants as op

abbrev pub is_division : Op → Bool
is_division op.Div = true
is_division op.Mod = true
is_division op.DivFloor = true
is_division op.ModFloor = true
is_division _ = false

abbrev pub is_comparison : Op → Bool
is_comparison op.Lt = true
is_comparison op.Le = true
is_comparison op.Ge = true
is_comparison op.Gt = true
is_comparison _ = false

-- sums, differences and products
abbrev pub is_modular : Op → Bool
is_modular op.Add = true
is_modular op.Sub = true
is_modular op.Mul = true
is_modular _ = false

-- with two operands
abbrev pub is_binary : Op → Bool
is_binary op.Add = true
is_binary op.Sub = true
is_binary op.Mul = true
is_binary o = is_division o || is_comparison o

abbrev pub is_arithmetic : Op → Bool
is_arithmetic op.Neg = true
is_arithmetic o = is_binary o

abbrev pub is_shift : Op → Bool
is_shift op.Shl = true
is_shift op.Sshl = true
is_shift op.Shr = true
is_shift op.Sshr = true
is_shift op.Shift = true
is_shift op.Shiftx = true
is_shift _ = false

-- shifts whose number of places has no sign
abbrev pub is_one_sided : Op → Bool
is_one_sided op.Shl = true
is_one_sided op.Sshl = true
is_one_sided op.Shr = true
is_one_sided op.Sshr = true
is_one_sided _ = false

abbrev pub is_arithmetic_or_shift : Op → Bool
is_arithmetic_or_shift o = is_arithmetic o || is_shift o
