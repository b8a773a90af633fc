-- Where a sample stands among the rows of its block.
use Rattle.std.specs.Prelude.{◌≡◌, ℕ, ◌+◌, ◌*◌, ◌<◌, [], IfSome, length, take, slice_index_or}
use Rattle.stimulus_blocks.specs.Blocks.{length_in, samples_in}
use Rattle.stimulus_blocks.specs.Courses.{Course, HasSample}
use Rattle.stimulus_blocks.specs.declared.block.Block.{Block}
use Rattle.stimulus_blocks.specs.declared.course.Place.{Place}
use Rattle.stimulus_blocks.specs.declared.course.Standing.{Standing}

abbrev pub no_block : Block
no_block = record { repeats = 0; period = 0; rows = [] }

abbrev pub block_at : Course → ℕ → Block
block_at s place = slice_index_or s.blocks place no_block

-- the sample is that row of that repeat of the block there, which starts at that time
pub record Stands (s : Course) (at : Standing) : Type 0 where
  pub has : HasSample s.blocks at.block at.sample
  pub row : at.row < length (block_at s at.block).rows
  pub sample : at.sample ≡ samples_in (take at.block s.blocks) + (at.repeat * length (block_at s at.block).rows + at.row)
  pub start : at.start ≡ length_in (take at.block s.blocks) + at.repeat * (block_at s at.block).period

-- a reader stood nowhere, or where a sample stands
abbrev pub IsPlace : Course → Place → Type 0
IsPlace s place = IfSome place.last (Stands s)
