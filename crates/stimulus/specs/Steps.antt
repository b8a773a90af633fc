-- What the words of a line say where it stands.
use Rattle.std.specs.Prelude.{ℕ, ◌+◌, ◌-◌, ◌==◌, ◌&&◌, List, [], ◌∷◌, ◌++◌, length, Option, Some, None, option_and_then, Result, Ok, Err, bytes_eq, codes, nat_le, nat_lt, slice_index_or, if◌then◌else◌}
use Rattle.std.specs.Option.{option_map}
use Rattle.sim_base.specs.TimeText.{largest_time, read_time}
use Rattle.circuit.specs.declared.netlist.Circuit.{Circuit}
use Rattle.stimulus_text.specs.Lines.{is_comment, words_of}
use Rattle.stimulus_text.specs.Numbers.{number_within, repeats_of}
use Rattle.stimulus_text.specs.declared.fault.StimFaultKind.{StimFaultKind}
use Rattle.stimulus_text.specs.declared.fault.StimFaultKind.TheVariants as fault
use Rattle.stimulus_blocks.specs.Rows.{BlockRow, no_row}
use Rattle.stimulus_blocks.specs.Blocks.{length_in, length_of, samples_in, samples_of}
use Rattle.stimulus_blocks.specs.Courses.{Course}
use Rattle.stimulus_blocks.specs.declared.block.Block.{Block}
use Rattle.stimulus.specs.Inputs.{inputs_named}
use Rattle.stimulus.specs.declared.reading.Reading.{Reading}
use Rattle.stimulus.specs.declared.reading.Reading.TheVariants as reading

-- where the reader stands behind a line, or what is wrong with it
abbrev pub Step : Type 0
Step = Result Reading StimFaultKind

-- ---- the first two lines

-- `stimulus 0`
abbrev pub version_line : List (List ℕ) → Step
version_line (word ∷ version ∷ []) = if bytes_eq word (codes "stimulus") && bytes_eq version (codes "0") then Ok reading.Headed else Err fault.Head
version_line _ = Err fault.Head

abbrev pub named_step : Option Course → Step
named_step None = Err fault.InputNames
named_step (Some course) = Ok (reading.Between course)

-- `inputs NAME NAME`
abbrev pub names_line : Circuit → List ℕ → List (List ℕ) → Step
names_line c word names = if bytes_eq word (codes "inputs") then named_step (inputs_named c names) else Err fault.InputNames

-- ---- the head of a block: `block REPEATS PERIOD`

abbrev pub opened : ℕ → ℕ → Block
opened repeats period = record { repeats = repeats; period = period; rows = [] }

abbrev pub Head : Type 0
Head = Result (ℕ × ℕ) StimFaultKind

-- behind a period there is no word
abbrev pub period_step : ℕ → List (List ℕ) → Option ℕ → Head
period_step repeats more None = Err fault.BadTime
period_step repeats [] (Some period) = Ok (repeats, period)
period_step repeats (_ ∷ _) (Some period) = Err fault.Head

abbrev pub repeats_step : List (List ℕ) → Option ℕ → Head
repeats_step words None = Err fault.BadValue
repeats_step [] (Some repeats) = Err fault.Head
repeats_step (period ∷ more) (Some repeats) = period_step repeats more (read_time period)

-- the repeats and the period
abbrev pub head_of : List (List ℕ) → Head
head_of [] = Err fault.Head
head_of (repeats ∷ words) = repeats_step words (repeats_of repeats)

abbrev pub head_step : Course → Head → Step
head_step course (Ok head) = Ok (reading.Within course (opened head.0 head.1))
head_step course (Err kind) = Err kind

abbrev pub head_line : Course → List ℕ → List (List ℕ) → Step
head_line course word words = if bytes_eq word (codes "block") then head_step course (head_of words) else Err fault.Head

-- ---- the end of a block: `end`

abbrev pub closed : Course → Block → Course
closed course block = record course { blocks = course.blocks ++ block ∷ [] }

-- what is wrong with a block at its end, if anything is
abbrev pub fault_at_end : Course → Block → List (List ℕ) → Option StimFaultKind
fault_at_end course block words =
    if length block.rows == 0 then Some fault.Empty else (
    if nat_lt 16777216 (samples_in course.blocks + samples_of block) then Some fault.TooMany else (
    if nat_lt largest_time (length_in course.blocks + length_of block) then Some fault.BadTime else (
    if length words == 0 then None else Some fault.Head)))

abbrev pub closed_step : Course → Block → Option StimFaultKind → Step
closed_step course block None = Ok (reading.Between (closed course block))
closed_step course block (Some kind) = Err kind

abbrev pub end_line : Course → Block → List (List ℕ) → Step
end_line course block words = closed_step course block (fault_at_end course block words)

-- ---- a row: `OFFSET VALUE VALUE`

-- the numbers of a row, one for each column and below 2 to its width
unfoldable pub values_of : List ℕ → List (List ℕ) → Option (List ℕ)
values_of [] [] = Some []
values_of [] (v ∷ vs) = None
values_of (w ∷ ws) [] = None
values_of (w ∷ ws) (v ∷ vs) = option_and_then (λ n. option_map (λ ns. n ∷ ns) (values_of ws vs)) (number_within w v)

-- the least offset behind some rows
abbrev pub least_behind : List BlockRow → ℕ
least_behind rows = if length rows == 0 then 0 else (slice_index_or rows (length rows - 1) no_row).offset + 1

abbrev pub with_row : Block → ℕ → List ℕ → Block
with_row block offset values = record block { rows = block.rows ++ (record { offset = offset; values = values }) ∷ [] }

abbrev pub values_step : Course → Block → ℕ → Option (List ℕ) → Step
values_step course block offset None = Err fault.BadValue
values_step course block offset (Some values) = Ok (reading.Within course (with_row block offset values))

abbrev pub offset_step : Course → Block → List (List ℕ) → Option ℕ → Step
offset_step course block values None = Err fault.BadTime
offset_step course block values (Some offset) =
    if nat_le (least_behind block.rows) offset && nat_lt offset block.period
    then values_step course block offset (values_of course.widths values)
    else Err fault.NotRising

abbrev pub row_line : Course → Block → List ℕ → List (List ℕ) → Step
row_line course block offset values = offset_step course block values (read_time offset)

-- a line inside a block
abbrev pub block_line : Course → Block → List ℕ → List (List ℕ) → Step
block_line course block word words =
    if bytes_eq word (codes "block") then Err fault.Head else (
    if bytes_eq word (codes "end") then end_line course block words else
    row_line course block word words)

-- ---- each line

abbrev pub words_step : Circuit → Reading → List (List ℕ) → Step
words_step c place [] = Ok place
words_step c reading.Start (word ∷ words) = version_line (word ∷ words)
words_step c reading.Headed (word ∷ words) = names_line c word words
words_step c (reading.Between course) (word ∷ words) = head_line course word words
words_step c (reading.Within course block) (word ∷ words) = block_line course block word words

-- a comment says nothing, and neither does a line without words
unfoldable pub line_step : Circuit → Reading → List ℕ → Step
line_step c place line = if is_comment line then Ok place else words_step c place (words_of line)

-- ---- the end of the text

abbrev pub end_step : Reading → Result Course StimFaultKind
end_step reading.Start = Err fault.Head
end_step reading.Headed = Err fault.InputNames
end_step (reading.Between course) = if length course.blocks == 0 then Err fault.Empty else Ok course
end_step (reading.Within course block) = Err fault.Head
