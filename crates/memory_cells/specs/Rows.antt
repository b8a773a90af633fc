-- The rows of a memory.
use Rattle.std.specs.Prelude.{◌≡◌, ℕ, List, length}
use Rattle.circuit.specs.Rounds.{start_stored}
use Rattle.circuit.specs.declared.memory.Mem.{Mem}

-- the width of a row in bits, and the number of each row
pub record RowValues : Type 0 where
  pub width : ℕ
  pub rows : List ℕ

-- before the first sample
abbrev pub start_rows : Mem → RowValues
start_rows m = record { width = m.width; rows = (start_stored m).rows }

-- they are of a row's width, and as many as the memory has
pub record AreRowsOf (m : Mem) (r : RowValues) : Type 0 where
  pub width : r.width ≡ m.width
  pub size : length r.rows ≡ m.size
