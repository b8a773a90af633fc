-- What arithmetic cells read.
use Rattle.std.specs.Prelude.{◌≡◌, ◌<◌, ◌^◌, ℤ}
use Rattle.sim_base.specs.BitValue.{BitValue}
use Rattle.circuit.specs.Output.{CellInputs, left, right}
use Rattle.circuit.specs.declared.cell.Cell.{Cell}

-- a binary cell reads these two whole numbers
pub record HasOperands (i : CellInputs) (a b : ℤ) : Type 0 where
  pub left : left i ≡ a
  pub right : right i ≡ b
  pub below : i.b.number < 2 ^ i.b.width

-- the inputs of a cell whose ports have these values
pub record ReadsPorts (c : Cell) (a b : BitValue) (i : CellInputs) : Type 0 where
  pub a_signed : i.a_signed ≡ c.a_signed
  pub b_signed : i.b_signed ≡ c.b_signed
  pub first : i.a ≡ a
  pub second : i.b ≡ b
