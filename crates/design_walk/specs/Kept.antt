-- What the code keeps of an instance while it is walked.
use Rattle.std.specs.Prelude.{◌≡◌, ℕ, List, Bool, false, Option, Some, None, bytes_eq, option_map, slice_get}
use Rattle.std.specs.List.{list_any}
use Rattle.std.specs.Map.{lookup}
use Rattle.rtlil_tree.specs.declared.module.Module.{Module}
use Rattle.design_wires.specs.Places.{InstancePlace, ShownPlace}
use Rattle.design_walk.specs.Modules.{numbered}
use Rattle.design_walk.specs.declared.place.Place.{Place}
use Rattle.design_walk.specs.declared.place.ShownFrom.{ShownFrom}

abbrev pub seen_from : ShownFrom → ShownPlace
seen_from s = record { prefix = s.prefix; scope = s.scope }

abbrev pub seen_place : Place → InstancePlace
seen_place p = record { owner = p.owner.now; prefix = p.prefix; shown = option_map seen_from p.shown }

-- the number of the first module of a name
abbrev pub number_named : List Module → List ℕ → Option ℕ
number_named ms name = lookup (bytes_eq name) (numbered 0 ms)

-- flags of modules by their numbers: at the first module of each name whether that is among the ancestors
abbrev pub AreOpen : List Bool → List Module → List (List ℕ) → Type 0
AreOpen open_modules ms ancestors = (name : List ℕ) (n : ℕ) → number_named ms name ≡ Some n → slice_get open_modules n ≡ Some (list_any (bytes_eq name) ancestors)

abbrev pub set_flag : Option Bool → Bool
set_flag None = false
set_flag (Some b) = b

-- a flag is there and is set
abbrev pub is_set : List Bool → ℕ → Bool
is_set flags n = set_flag (slice_get flags n)
