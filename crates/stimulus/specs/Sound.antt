-- What holds of a block while it is read.
use Rattle.std.specs.Prelude.{ℕ, ◌≤◌, List}
use Rattle.stimulus_blocks.specs.Blocks.{AreRows}
use Rattle.stimulus_blocks.specs.declared.block.Block.{Block}
use Rattle.stimulus.specs.declared.reading.Reading.{Reading}
use Rattle.stimulus.specs.declared.reading.Reading.TheVariants as reading

-- a block that is not at its end: it comes 1 to 4294967295 times, and its rows are in order
pub record IsOpen (widths : List ℕ) (b : Block) : Type 0 where
  pub comes : 1 ≤ b.repeats
  pub most : b.repeats ≤ 4294967295
  pub rows : AreRows widths b.period b.rows

abbrev pub IsSound : Reading → Type 0
IsSound (reading.Within course block) = IsOpen course.widths block
IsSound _ = Unit {0}
