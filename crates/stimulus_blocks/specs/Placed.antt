-- Blocks with what stands before them.
use Rattle.std.specs.Prelude.{◌≡◌, ℕ, List, map, take, Some, slice_get}
use Rattle.stimulus_blocks.specs.Blocks.{samples_in, length_in}
use Rattle.stimulus_blocks.specs.declared.block.Block.{Block}
use Rattle.stimulus_blocks.specs.declared.course.Placed.{Placed}

abbrev pub blocks_of : List Placed → List Block
blocks_of placed = map (λ p. p.block) placed

-- the first sample and the start of each block, and the number of all samples and the end, are those of the blocks before
pub record IsPlaced (placed : List Placed) (samples finish : ℕ) : Type 0 where
  pub first : (n : ℕ) (p : Placed) → slice_get placed n ≡ Some p → p.first ≡ samples_in (take n (blocks_of placed))
  pub start : (n : ℕ) (p : Placed) → slice_get placed n ≡ Some p → p.start ≡ length_in (take n (blocks_of placed))
  pub count : samples ≡ samples_in (blocks_of placed)
  pub end : finish ≡ length_in (blocks_of placed)
