-- Cells over the values of nets, and values that take their outputs.
use Rattle.std.specs.Prelude.{◌≡◌, ℕ, ◌<◌, ◌≤◌, List, length}
use Rattle.sim_base.specs.BitValue.{BitValue}
use Rattle.circuit.specs.Signal.{sig_width}
use Rattle.circuit.specs.Valid.{widest}
use Rattle.circuit.specs.declared.cell.Cell.{Cell}
use Rattle.sim_base.specs.Values.{width_at}
use Rattle.signal_words.specs.Values.{AreInside, IsSignalOf}

-- a cell that computes with whole numbers, and the place of its output
pub record IsArithmeticReady (values : List BitValue) (c : Cell) (into : List BitValue) (out : ℕ) : Type 0 where
  pub width : c.width ≤ 128
  pub a : AreInside values c.a
  pub a_narrow : sig_width c.a ≤ 128
  pub b : AreInside values c.b
  pub b_narrow : sig_width c.b ≤ 128
  pub there : out < length into
  pub into_width : width_at into out ≡ c.width

-- a cell that shifts
pub record IsShiftReady (values : List BitValue) (c : Cell) (into : List BitValue) (out : ℕ) : Type 0 where
  pub width : c.width ≤ widest
  pub a : IsSignalOf values c.a
  pub b : IsSignalOf values c.b
  pub there : out < length into
  pub into_width : width_at into out ≡ c.width
