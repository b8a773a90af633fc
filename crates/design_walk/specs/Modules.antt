-- The modules of a file by their names.
use Rattle.std.specs.Prelude.{◌≡◌, ℕ, List, map, Option, bytes_eq}
use Rattle.std.specs.Map.{lookup}
use Rattle.rtlil_tree.specs.declared.module.Module.{Module}
pub use Rattle.design_top.specs.Names.{numbered}

-- the first module of a name
abbrev pub module_named : List Module → List ℕ → Option Module
module_named ms name = lookup (bytes_eq name) (map (λ m. (m.name, m)) ms)

-- what names stand for among pairs: of equal names the first counts
abbrev pub SameNames : List (List ℕ × ℕ) → List (List ℕ × ℕ) → Type 0
SameNames table written = (name : List ℕ) → lookup (bytes_eq name) table ≡ lookup (bytes_eq name) written

-- a table that leads from a name to the place of the first module of that name
abbrev pub LeadsTo : List (List ℕ × ℕ) → List Module → Type 0
LeadsTo places ms = SameNames places (numbered 0 ms)
