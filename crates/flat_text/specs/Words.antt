-- A text as lines, and a line as words.
use Rattle.std.specs.Prelude.{ℕ, List, [], ◌∷◌, ◌==◌, drop, not, Option, Some, None}
use Rattle.std.specs.List.{slice_split, position_or_len}

-- what stands between separators: as many of these, and one part more
abbrev pub parts : ℕ → List ℕ → List (List ℕ)
parts separator bytes = slice_split (λ b. b == separator) bytes

-- the parts of what is left behind a separator, if there was one
abbrev pub parts_left : ℕ → Option (List ℕ) → List (List ℕ)
parts_left separator (Some rest) = parts separator rest
parts_left separator None = []

-- what stands between line feeds
abbrev pub lines_of : List ℕ → List (List ℕ)
lines_of text = parts 10 text

-- a line from the first byte on that is no blank (32)
abbrev pub without_leading_blanks : List ℕ → List ℕ
without_leading_blanks line = drop (position_or_len (λ b. not (b == 32)) line) line

-- what stands between blanks; two blanks in a row have an empty word between them, and an empty word stands behind a
-- last blank
abbrev pub words_of : List ℕ → List (List ℕ)
words_of line = parts 32 line

-- exactly one word
abbrev pub one_of : List (List ℕ) → Option (List ℕ)
one_of (word ∷ []) = Some word
one_of _ = None

-- exactly two words
abbrev pub two_of : List (List ℕ) → Option (List ℕ × List ℕ)
two_of (first ∷ second ∷ []) = Some (first, second)
two_of _ = None
