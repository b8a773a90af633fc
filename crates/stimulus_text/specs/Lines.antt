-- A text as lines, and a line as words.
use Rattle.std.specs.Prelude.{ℕ, List, [], ◌∷◌, length, Bool, false, ◌==◌, ◌&&◌, ◌||◌, not, filter, if◌then◌else◌}
use Rattle.std.specs.List.{slice_split}

abbrev pub begins_with : ℕ → List ℕ → Bool
begins_with c [] = false
begins_with c (d ∷ ds) = d == c

-- a byte in front of the first line, which is the last one where there is none
abbrev pub onto_first : ℕ → List (List ℕ) → List (List ℕ)
onto_first c [] = (c ∷ []) ∷ []
onto_first c (line ∷ lines) = (c ∷ line) ∷ lines

-- a line feed (10) ends a line, and a carriage return (13) before it is dropped; the text's end ends its last line, and
-- behind a line feed at the end no further line begins
unfoldable pub lines_of : List ℕ → List (List ℕ)
lines_of [] = []
lines_of (c ∷ cs) =
    if c == 10 then [] ∷ lines_of cs else (
    if c == 13 && begins_with 10 cs then lines_of cs else onto_first c (lines_of cs))

-- a space or a tab
abbrev pub is_blank : ℕ → Bool
is_blank c = c == 32 || c == 9

-- what stands between blanks
abbrev pub words_of : List ℕ → List (List ℕ)
words_of line = filter (λ word. not (length word == 0)) (slice_split is_blank line)

-- a line that begins with `#` (35) says nothing
abbrev pub is_comment : List ℕ → Bool
is_comment line = begins_with 35 line

-- a line without a carriage return at its end
unfoldable pub without_return : List ℕ → List ℕ
without_return [] = []
without_return (c ∷ cs) = if c == 13 && length cs == 0 then [] else c ∷ without_return cs
