-- Names that stand again.
use Rattle.std.specs.Prelude.{ℕ, List, [], ◌∷◌, ◌++◌, Bool, false, ◌||◌, bytes_eq, if◌then◌else◌}
use Rattle.std.specs.Map.{lookup}
use Rattle.std.specs.Option.{is_some}

-- names, each once
abbrev pub Names : Type 0
Names = List (List ℕ × Unit {0})

abbrev pub has : Names → List ℕ → Bool
has names name = is_some (lookup (bytes_eq name) names)

abbrev pub with_name : Names → List ℕ → Names
with_name names name = if has names name then names else names ++ (name, tt {0}) ∷ []

-- one of some names is among earlier ones, or stands twice
unfoldable pub any_again : Names → List (List ℕ) → Bool
any_again earlier [] = false
any_again earlier (n ∷ ns) = has earlier n || any_again (with_name earlier n) ns
