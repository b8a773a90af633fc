-- The first form of a stimulus: one block.
use Rattle.std.specs.Prelude.{◌≡◌, ℕ, ◌+◌, ◌*◌, ◌≤◌, ◌-◌, ◌==◌, List, [], ◌∷◌, ◌++◌, length, take, position, slice_index_or, ◌&&◌, nat_le, nat_lt, Option, Some, None, option_and_then, if◌then◌else◌, bytes_eq, codes, slice_get}
use Rattle.std.specs.List.{flat_map}
use Rattle.std.specs.Option.{option_map}
use Rattle.sim_base.specs.BitValue.{hexadecimal_value}
use Rattle.sim_base.specs.Digits.{digits_number}
use Rattle.sim_base.specs.TimeText.{largest_time, read_time}
use Rattle.circuit.specs.declared.netlist.Circuit.{Circuit}
use Rattle.circuit.specs.declared.item.Item.{Item}
use Rattle.circuit.specs.declared.item.ItemKind.{ItemKind}
use Rattle.circuit.specs.declared.item.ItemKind.TheVariants as item
use Rattle.flat_design.specs.Flat.{width_of}
use Rattle.flat_stimulus.specs.declared.row.BlockRow.{BlockRow}
use Rattle.flat_stimulus.specs.declared.column.Column.{Column}
use Rattle.flat_stimulus.specs.Block.{Block, sample_count}
use Rattle.flat_stimulus.specs.Words.{lines_of, words_of}

abbrev pub column_onto : Circuit → List ℕ → ItemKind → List Column → List Column
column_onto c name (item.Node net lsb_at input output) more =
    if input then record { name = name; net = net; width = width_of (slice_get c.nets net) } ∷ more else more
column_onto c name (item.Memory m) more = more

-- the items that are inputs, in their order
unfoldable pub columns_among : Circuit → List Item → List Column
columns_among c [] = []
columns_among c (i ∷ is) = column_onto c i.name i.kind (columns_among c is)

abbrev pub columns_of : Circuit → List Column
columns_of c = columns_among c c.items

-- the numbers of the columns of nets, where each has one
unfoldable pub numbers_of_columns : List Column → List ℕ → Option (List ℕ)
numbers_of_columns columns [] = Some []
numbers_of_columns columns (net ∷ nets) =
    option_and_then (λ n. option_map (λ ns. n ∷ ns) (numbers_of_columns columns nets)) (position (λ column. column.net == net) columns)

-- the numbers of a row's values, one for each column and below 2 to its width
unfoldable pub values_of : List Column → List (List ℕ) → Option (List ℕ)
values_of [] [] = Some []
values_of [] (v ∷ vs) = None
values_of (c ∷ cs) [] = None
values_of (c ∷ cs) (v ∷ vs) = option_and_then (λ x. option_map (λ xs. x.number ∷ xs) (values_of cs vs)) (hexadecimal_value c.width v)

-- a row: its offset and its values
abbrev pub row_from : List Column → List (List ℕ) → Option BlockRow
row_from columns [] = None
row_from columns (offset ∷ values) =
    option_and_then (λ time. option_map (λ numbers. record { offset = time; values = numbers }) (values_of columns values)) (read_time offset)

-- the row of a line, whose offset is at least so much and below the period
abbrev pub checked_row : ℕ → ℕ → Option BlockRow → Option BlockRow
checked_row least period None = None
checked_row least period (Some row) = if nat_le least row.offset && nat_lt row.offset period then Some row else None

abbrev pub row_in : List Column → ℕ → ℕ → List ℕ → Option BlockRow
row_in columns period least line = checked_row least period (option_and_then (row_from columns) (words_of line))

-- the rows of lines, whose offsets rise
unfoldable pub rows_in : List Column → ℕ → ℕ → List (List ℕ) → Option (List BlockRow)
rows_in columns period least [] = Some []
rows_in columns period least (line ∷ lines) =
    option_and_then (λ row. option_map (λ rows. row ∷ rows) (rows_in columns period (row.offset + 1) lines)) (row_in columns period least line)

-- how often a block comes: 1 to 4294967295 times
abbrev pub repeats_of : List ℕ → Option ℕ
repeats_of word = option_and_then (λ n. if nat_le 1 n && nat_le n 4294967295 then Some n else None) (digits_number 10 word)

-- a block that has rows, and whose samples and end are within the limits
abbrev pub limited : Block → Option Block
limited b = if nat_le 1 (length b.rows) && nat_le (sample_count b) 16777216 && nat_le (b.repeats * b.period) largest_time then Some b else None

-- `block REPEATS PERIOD`
abbrev pub head_from : List (List ℕ) → Option (ℕ × ℕ)
head_from (word ∷ repeats ∷ period ∷ []) =
    if bytes_eq word (codes "block") then option_and_then (λ n. option_map (λ time. (n, time)) (read_time period)) (repeats_of repeats) else None
head_from _ = None

abbrev pub head_of : List ℕ → Option (ℕ × ℕ)
head_of line = option_and_then head_from (words_of line)

-- the lines up to a last one that is `end`
abbrev pub before_end : List (List ℕ) → Option (List (List ℕ))
before_end lines =
    if nat_lt 0 (length lines) && bytes_eq (slice_index_or lines (length lines - 1) []) (codes "end")
    then Some (take (length lines - 1) lines)
    else None

-- the line that names the columns
abbrev pub inputs_line : List Column → List ℕ
inputs_line columns = codes "inputs" ++ flat_map (λ column. 32 ∷ column.name) columns

abbrev pub block_with : List Column → List ℕ → List (List ℕ) → ℕ × ℕ → Option Block
block_with columns numbers lines head =
    option_and_then (λ rows. limited (record { repeats = head.0; period = head.1; rows = rows; columns = numbers })) (rows_in columns head.1 0 lines)

-- a block under its head, over the lines of its rows
abbrev pub block_in : List Column → List ℕ → List ℕ → List (List ℕ) → Option Block
block_in columns inputs head lines =
    option_and_then (λ numbers. option_and_then (block_with columns numbers lines) (head_of head)) (numbers_of_columns columns inputs)

-- `stimulus 0`, the names of the inputs, the block's head, its rows and `end`, each a line
abbrev pub block_of_lines : List Column → List ℕ → List (List ℕ) → Option Block
block_of_lines columns inputs (version ∷ names ∷ head ∷ rest) =
    if bytes_eq version (codes "stimulus 0") && bytes_eq names (inputs_line columns)
    then option_and_then (block_in columns inputs head) (before_end rest)
    else None
block_of_lines columns inputs _ = None

-- the block of a stimulus' text, for a circuit
unfoldable pub block_of : List ℕ → Circuit → Option Block
block_of text c = option_and_then (block_of_lines (columns_of c) c.inputs) (lines_of text)

-- no column is wider than a word of 64 bits
abbrev pub AreWordColumns : List Column → Type 0
AreWordColumns columns = (i : ℕ) (x : Column) → slice_get columns i ≡ Some x → x.width ≤ 64
