-- Blocks of rows that are repeated.
use Rattle.std.specs.Prelude.{◌≡◌, ℕ, ◌+◌, ◌-◌, ◌*◌, ◌/◌, ◌%◌, ◌^◌, ◌<◌, ◌≤◌, List, [], ◌∷◌, length, Some, slice_get, slice_index, slice_index_or, nat_lt, if◌then◌else◌}
use Rattle.stimulus_blocks.specs.Rows.{BlockRow, no_row}
use Rattle.stimulus_blocks.specs.declared.block.Block.{Block}

-- how many samples a block gives, and how long it is, in femtoseconds
abbrev pub samples_of : Block → ℕ
samples_of b = b.repeats * length b.rows

abbrev pub length_of : Block → ℕ
length_of b = b.repeats * b.period

-- the same of blocks that stand one behind another
abbrev pub samples_in : List Block → ℕ
samples_in [] = 0
samples_in (b ∷ bs) = samples_of b + samples_in bs

abbrev pub length_in : List Block → ℕ
length_in [] = 0
length_in (b ∷ bs) = length_of b + length_in bs

-- row i of repeat r is the sample r * rows + i of a block, at r periods and the row's offset behind its start
abbrev pub sample_of : Block → ℕ → BlockRow
sample_of b k =
    let row = slice_index_or b.rows (k % length b.rows) no_row in
    record { offset = k / length b.rows * b.period + row.offset; values = row.values }

-- a sample so much later
abbrev pub later : ℕ → BlockRow → BlockRow
later time row = record { offset = time + row.offset; values = row.values }

-- sample k of blocks, of which each starts where the one before it ends
unfoldable pub sample_at : List Block → ℕ → BlockRow
sample_at [] k = no_row
sample_at (b ∷ bs) k = if nat_lt k (samples_of b) then sample_of b k else later (length_of b) (sample_at bs (k - samples_of b))

-- the values of a row are below 2 to the widths of their columns
pub record IsRow (widths : List ℕ) (row : BlockRow) : Type 0 where
  pub long : length row.values ≡ length widths
  pub below : (n : ℕ) → slice_index row.values n < 2 ^ slice_index widths n

-- offsets that rise and are below the period, and values below 2 to the widths of their columns
pub record AreRows (widths : List ℕ) (period : ℕ) (rows : List BlockRow) : Type 0 where
  pub rise : (i j : ℕ) (x y : BlockRow) → i < j → slice_get rows i ≡ Some x → slice_get rows j ≡ Some y → x.offset < y.offset
  pub before : (i : ℕ) (row : BlockRow) → slice_get rows i ≡ Some row → row.offset < period
  pub each : (i : ℕ) (row : BlockRow) → slice_get rows i ≡ Some row → IsRow widths row

-- a block comes once at least, and has a row at least
pub record IsBlock (widths : List ℕ) (b : Block) : Type 0 where
  pub comes : 1 ≤ b.repeats
  pub some : 1 ≤ length b.rows
  pub rows : AreRows widths b.period b.rows
