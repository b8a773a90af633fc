-- The lines of a text and the words of a line.
use Rattle.std.specs.Prelude.{ℕ, ◌-◌, ◌==◌, List, length, take, ◌&&◌, nat_lt, slice_index, Option, Some, None, if◌then◌else◌}
use Rattle.std.specs.List.{list_any, slice_split}

-- the lines of a text in which each ends with a line feed
abbrev pub lines_of : List ℕ → Option (List (List ℕ))
lines_of text =
    if nat_lt 0 (length text) && (slice_index text (length text - 1) == 10)
    then Some (slice_split (λ c. c == 10) (take (length text - 1) text))
    else None

-- the words of a line in which each stands one blank behind the one before
abbrev pub words_of : List ℕ → Option (List (List ℕ))
words_of line = if list_any (λ word. length word == 0) (slice_split (λ c. c == 32) line) then None else Some (slice_split (λ c. c == 32) line)
