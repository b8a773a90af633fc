-- Attributes by their names.
use Rattle.std.specs.Prelude.{ℕ, List, Option, bytes_eq, option_map, find, reverse}
use Rattle.rtlil_tree.specs.declared.sig.Const.{Const}
use Rattle.rtlil_tree.specs.declared.module.Attribute.{Attribute}

-- the value of the last attribute with this name
abbrev pub attribute_value : List ℕ → List Attribute → Option Const
attribute_value name attributes = option_map (λ a. a.value) (find (λ a. bytes_eq a.name name) (reverse attributes))
