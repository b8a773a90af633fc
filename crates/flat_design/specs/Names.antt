-- Names of wires, cells, ports, parameters and attributes. An identifier is written with a `\` (of the design)
-- or a `$` (of the tool) before it.
use Rattle.std.specs.Prelude.{ℕ, List, [], ◌∷◌, Bool, true, false, ◌==◌, ◌&&◌, not, nat_eq, if◌then◌else◌}
use Rattle.std.specs.List.{list_any}
use Rattle.std.specs.Cmp.Lexicographic.{pointwise}

abbrev pub same_name : List ℕ → List ℕ → Bool
same_name = pointwise nat_eq

-- no name stands there twice
unfoldable pub are_distinct : List (List ℕ) → Bool
are_distinct [] = true
are_distinct (x ∷ xs) = not (list_any (same_name x) xs) && are_distinct xs

-- a name of the design
abbrev pub has_backslash : List ℕ → Bool
has_backslash [] = false
has_backslash (c ∷ cs) = c == 92

-- the name without a `\` before it
abbrev pub bare_name : List ℕ → List ℕ
bare_name [] = []
bare_name (c ∷ cs) = if c == 92 then cs else c ∷ cs
