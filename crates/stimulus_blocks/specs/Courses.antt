-- The course of a stimulus: its samples, one after another.
use Rattle.std.specs.Prelude.{◌≡◌, ℕ, zero, suc, ◌+◌, ◌<◌, ◌≤◌, List, length, map, take, Some, slice_get, slice_index, nat_le, if◌then◌else◌}
use Rattle.sim_base.specs.TimeText.{largest_time}
use Rattle.circuit.specs.Rounds.{Row, Run}
use Rattle.circuit.specs.declared.netlist.Circuit.{Circuit}
use Rattle.stimulus_blocks.specs.Blocks.{sample_at, samples_in, length_in, IsBlock}
use Rattle.stimulus_blocks.specs.declared.block.Block.{Block}

-- the width of each column, the number of the column of each input of a circuit, and the blocks
pub record Course : Type 0 where
  pub widths : List ℕ
  pub columns : List ℕ
  pub blocks : List Block

abbrev pub sample_count : Course → ℕ
sample_count s = samples_in s.blocks

-- the widths of the inputs
abbrev pub input_widths : Course → List ℕ
input_widths s = map (λ column. slice_index s.widths column) s.columns

-- sample k: its time, and the number of each input
unfoldable pub row_of : Course → ℕ → Row
row_of s k =
    let sample = sample_at s.blocks k in
    record { time = sample.offset; inputs = map (λ column. slice_index sample.values column) s.columns }

-- a circuit under the stimulus
abbrev pub run_of : Circuit → Course → Run
run_of c s = record { circuit = c; count = sample_count s; row = row_of s }

-- of the first so many rows, those at or before a time
unfoldable pub samples_until : (ℕ → Row) → ℕ → ℕ → ℕ
samples_until row zero time = 0
samples_until row (suc k) time = samples_until row k time + (if nat_le (row k).time time then 1 else 0)

-- what holds of each stimulus: its blocks have rows, its samples and its end are within the limits, and each input has a
-- column
pub record IsCourse (s : Course) : Type 0 where
  pub blocks : (n : ℕ) (b : Block) → slice_get s.blocks n ≡ Some b → IsBlock s.widths b
  pub few : samples_in s.blocks ≤ 16777216
  pub ends : length_in s.blocks ≤ largest_time
  pub columns : (n : ℕ) → n < length s.columns → slice_index s.columns n < length s.widths

-- sample k is one of the block at a place
pub record HasSample (blocks : List Block) (place k : ℕ) : Type 0 where
  pub there : place < length blocks
  pub first : samples_in (take place blocks) ≤ k
  pub last : k < samples_in (take (place + 1) blocks)
