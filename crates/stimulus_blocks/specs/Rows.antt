-- Rows of a block.
use Rattle.std.specs.Prelude.{◌≡◌, ℕ, List, [], ◌∷◌, length, take, drop, Some, slice_get}

-- a time behind the start of the block, and the number in each column
pub record BlockRow : Type 0 where
  pub offset : ℕ
  pub values : List ℕ

abbrev pub no_row : BlockRow
no_row = record { offset = 0; values = [] }

-- rows of so many columns: their offsets, and their values one row after another
unfoldable pub rows_from : ℕ → List ℕ → List ℕ → List BlockRow
rows_from columns [] values = []
rows_from columns (o ∷ os) values = record { offset = o; values = take columns values } ∷ rows_from columns os (drop columns values)

-- each row has so many values
abbrev pub AreOfLength : ℕ → List BlockRow → Type 0
AreOfLength columns rows = (i : ℕ) (row : BlockRow) → slice_get rows i ≡ Some row → length row.values ≡ columns
