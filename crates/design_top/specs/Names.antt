-- Which modules names stand for.
use Rattle.std.specs.Prelude.{ℕ, ◌+◌, List, [], ◌∷◌, ◌++◌, not, bytes_eq}
use Rattle.std.specs.List.{list_any}
use Rattle.circuit.specs.declared.fault.DesignFault.{DesignFault}
use Rattle.circuit.specs.declared.fault.DesignKind.TheVariants as kind
use Rattle.rtlil_tree.specs.declared.module.Module.{Module}
use Rattle.design_parts.specs.Parts.{Check, check}

-- the fault of a second module of a name
abbrev pub second : List ℕ → DesignFault
second name = record { kind = kind.DuplicateName; place = name; bits = []; drives = [] }

-- no module has the name of an earlier one
unfoldable pub name_checks : List (List ℕ) → List Module → List Check
name_checks earlier [] = []
name_checks earlier (m ∷ ms) = check (not (list_any (bytes_eq m.name) earlier)) (second m.name) ∷ name_checks (earlier ++ m.name ∷ []) ms

-- each module's name with its number, where the first has this one
abbrev pub numbered : ℕ → List Module → List (List ℕ × ℕ)
numbered n [] = []
numbered n (m ∷ ms) = (m.name, n) ∷ numbered (n + 1) ms
