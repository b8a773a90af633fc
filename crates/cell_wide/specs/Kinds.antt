-- The types of cells that work on any width.
use Rattle.std.specs.Prelude.{◌≡◌, ℕ, ◌<◌, ◌≤◌, List, length, Bool, true, false, ◌||◌}
use Rattle.sim_base.specs.BitValue.{BitValue}
use Rattle.circuit.specs.Valid.{widest, widths_fit, widths_of}
use Rattle.circuit.specs.declared.cell.Cell.{Cell}
use Rattle.circuit.specs.declared.cell.Op.{Op}
use Rattle.circuit.specs.declared.cell.Op.TheVariants as op
use Rattle.sim_base.specs.Values.{width_at}
use Rattle.signal_words.specs.Values.{IsSignalOf}

-- all digits of one operand, one by one
abbrev pub is_unary : Op → Bool
is_unary op.Not = true
is_unary op.Pos = true
is_unary _ = false

-- two operands digit by digit
abbrev pub is_bitwise : Op → Bool
is_bitwise op.And = true
is_bitwise op.Or = true
is_bitwise op.Xor = true
is_bitwise op.Xnor = true
is_bitwise _ = false

-- all digits of one operand make one
abbrev pub is_reduction : Op → Bool
is_reduction op.ReduceAnd = true
is_reduction op.ReduceOr = true
is_reduction op.ReduceBool = true
is_reduction op.ReduceXor = true
is_reduction op.ReduceXnor = true
is_reduction _ = false

abbrev pub is_logic : Op → Bool
is_logic op.LogicNot = true
is_logic op.LogicAnd = true
is_logic op.LogicOr = true
is_logic _ = false

abbrev pub is_equality : Op → Bool
is_equality op.Eq = true
is_equality op.Ne = true
is_equality op.Eqx = true
is_equality op.Nex = true
is_equality _ = false

-- of those that compare for equality, those that tell operands that differ
abbrev pub tells_difference : Op → Bool
tells_difference op.Ne = true
tells_difference op.Nex = true
tells_difference _ = false

-- those that give a truth value
abbrev pub is_truth : Op → Bool
is_truth o = is_reduction o || (is_logic o || is_equality o)

-- some of the digits of the ports
abbrev pub is_selection : Op → Bool
is_selection op.Mux = true
is_selection op.Pmux = true
is_selection op.Bmux = true
is_selection op.Demux = true
is_selection op.Bwmux = true
is_selection op.Bweqx = true
is_selection op.Slice = true
is_selection op.Concat = true
is_selection _ = false

-- those that select, apart from `$mux`
abbrev pub is_selection_but_mux : Op → Bool
is_selection_but_mux op.Mux = false
is_selection_but_mux o = is_selection o

-- those that do not select
abbrev pub is_computed : Op → Bool
is_computed o = is_unary o || (is_bitwise o || is_truth o)

abbrev pub is_wide : Op → Bool
is_wide o = is_unary o || (is_bitwise o || (is_truth o || is_selection o))

-- a cell over these values of the nets, and the place of its output
pub record IsWideReady (values : List BitValue) (c : Cell) (into : List BitValue) (out : ℕ) : Type 0 where
  pub a : IsSignalOf values c.a
  pub b : IsSignalOf values c.b
  pub s : IsSignalOf values c.s
  pub width : c.width ≤ widest
  pub fits : widths_fit c.op (widths_of c) ≡ true
  pub there : out < length into
  pub into_width : width_at into out ≡ c.width
