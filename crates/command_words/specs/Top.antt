-- Which module is meant by the name of a top.
use Rattle.std.specs.Prelude.{ℕ, List, [], ◌∷◌, ◌==◌, Bool, false, if◌then◌else◌}

-- `$` (36) and one or more bytes behind it
abbrev pub is_private : List ℕ → Bool
is_private (c ∷ d ∷ ds) = c == 36
is_private _ = false

-- the identifier that a name is: as it stands where it begins with `$` and goes on, else with a `\` (92) before it
abbrev pub top_identifier : List ℕ → List ℕ
top_identifier name = if is_private name then name else 92 ∷ name
