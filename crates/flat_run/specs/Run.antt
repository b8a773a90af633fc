-- The run of a flat circuit under the samples of a block.
use Rattle.std.specs.Prelude.{◌≡◌, ℕ, ◌<◌, ◌^◌, length, Some, slice_get, slice_index}
use Rattle.circuit.specs.Rounds.{Run}
use Rattle.circuit.specs.declared.netlist.Circuit.{Circuit}
use Rattle.circuit.specs.declared.netlist.Net.{Net}
use Rattle.flat_stimulus.specs.Block.{Block, row_of, sample_count}

-- the run of a circuit under the samples of a block
abbrev pub run_under : Circuit → Block → Run
run_under c b = record { circuit = c; count = sample_count b; row = row_of b }

-- the block's samples have a number for each input, below 2 to its width
pub record AreSamples (c : Circuit) (b : Block) : Type 0 where
  pub columns : length b.columns ≡ length c.inputs
  pub below : (k n : ℕ) (x : Net) → k < sample_count b → slice_get c.nets (slice_index c.inputs n) ≡ Some x → slice_index (row_of b k).inputs n < 2 ^ x.width

-- a circuit and a block of samples for it
pub record Sampled : Type 0 where
  pub circuit : Circuit
  pub block : Block

abbrev pub run_of : Sampled → Run
run_of s = run_under s.circuit s.block
