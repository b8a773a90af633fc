-- A block of rows that is repeated, and the samples that it gives.
use Rattle.std.specs.Prelude.{◌≡◌, ℕ, ◌+◌, ◌*◌, ◌/◌, ◌%◌, ◌<◌, ◌≤◌, List, [], length, map, Some, slice_get, slice_index, slice_index_or}
use Rattle.sim_base.specs.TimeText.{largest_time}
use Rattle.circuit.specs.Rounds.{Row}
use Rattle.flat_stimulus.specs.declared.row.BlockRow.{BlockRow}

-- `columns` has for each input of the circuit the number of its column
pub record Block : Type 0 where
  pub repeats : ℕ
  pub period : ℕ
  pub rows : List BlockRow
  pub columns : List ℕ

abbrev pub no_row : BlockRow
no_row = record { offset = 0; values = [] }

abbrev pub sample_count : Block → ℕ
sample_count b = b.repeats * length b.rows

-- row i of repeat r is the sample r * rows + i
abbrev pub row_of : Block → ℕ → Row
row_of b k =
    let row = slice_index_or b.rows (k % length b.rows) no_row in
    record { time = k / length b.rows * b.period + row.offset; inputs = map (λ column. slice_index row.values column) b.columns }

-- what holds of a block that was read: it comes once at least and has rows, its samples and its end are within the limits, each row
-- comes before the period ends and has a value in each column that an input has
pub record IsBlock (b : Block) : Type 0 where
  pub comes : 1 ≤ b.repeats
  pub some : 1 ≤ length b.rows
  pub few : sample_count b ≤ 16777216
  pub ends : b.repeats * b.period ≤ largest_time
  pub before : (i : ℕ) (row : BlockRow) → slice_get b.rows i ≡ Some row → row.offset < b.period
  pub values : (i : ℕ) (row : BlockRow) → slice_get b.rows i ≡ Some row → (n : ℕ) → n < length b.columns → slice_index b.columns n < length row.values
