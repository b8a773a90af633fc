-- An instance of a module inside another one: its checks, where it stands, and what entering it gives.
use Rattle.std.specs.Prelude.{ℕ, List, [], ◌∷◌, ◌++◌, drop, not, Option, Some, None, bytes_eq, if◌then◌else◌}
use Rattle.std.specs.List.{list_any}
use Rattle.std.specs.Option.{is_some}
use Rattle.circuit.specs.declared.fault.DesignKind.TheVariants as kind
use Rattle.circuit.specs.declared.item.Scope.{Scope as Shown}
use Rattle.rtlil_tree.specs.declared.module.Cell.{Cell}
use Rattle.rtlil_tree.specs.declared.module.Module.{Module}
use Rattle.rtlil_tree.specs.declared.module.Statement.{Statement}
use Rattle.rtlil_signals.specs.Signals.{Scope}
use Rattle.design_parts.specs.Parts.{Check, Made, Walk, at, check, give, none_made}
use Rattle.design_wires.specs.Places.{InstancePlace, ShownPlace}
use Rattle.design_wires.specs.Texts.{source_text}
use Rattle.design_wires.specs.Wires.{is_public, shown_name}
use Rattle.design_instances.specs.Instances as instances
use Rattle.design_instances.specs.Ports.{ports_of}
use Rattle.design_walk.specs.Modules.{module_named}

-- ---- checks

abbrev pub statements_in : Option Module → List Statement
statements_in None = []
statements_in (Some m) = m.statements

-- its type is a module of the file, and none that it stands in
unfoldable pub type_checks : List Module → List (List ℕ) → List ℕ → Cell → List Check
type_checks ms ancestors owner c =
    check (is_some (module_named ms c.kind)) (at kind.UnknownCell owner c.name)
    ∷ check (not (list_any (bytes_eq c.kind) ancestors)) (at kind.RecursiveModules owner c.name)
    ∷ []

-- then its parameters and ports
abbrev pub instance_checks : List Module → List (List ℕ) → List ℕ → Scope → Cell → Made → List Check
instance_checks ms ancestors owner around c m =
    type_checks ms ancestors owner c ++ instances.instance_checks owner around (ports_of (statements_in (module_named ms c.kind))) c m

-- ---- its place

-- an instance is shown where the one around it is and its own identifier begins with `\`; its scope is the next one
abbrev pub shown_within : Option ShownPlace → List ℕ → ℕ → Option ShownPlace
shown_within None name scopes = None
shown_within (Some s) name scopes = if is_public name then Some (record { prefix = shown_name s name ++ 32 ∷ []; scope = scopes }) else None

-- a module that is the cell of this name in an instance, where so many scopes stand before it
abbrev pub place_within : InstancePlace → List ℕ → List ℕ → ℕ → InstancePlace
place_within around owner name scopes = record { owner = owner; prefix = (around.prefix ++ name) ++ 32 ∷ []; shown = shown_within around.shown name scopes }

-- ---- entering it

-- an identifier without the `\` with which it begins
abbrev pub bare_name : List ℕ → List ℕ
bare_name name = if is_public name then drop 1 name else name

abbrev pub scope_of_instance : List ℕ → Module → Option (List ℕ) → Shown
scope_of_instance name m cell_src = record { name = name; «module» = bare_name m.name; module_src = source_text m.attributes; cell_src = cell_src }

abbrev pub scopes_within : Option ShownPlace → Module → Cell → List Shown
scopes_within None m c = []
scopes_within (Some s) m c = if is_public c.name then scope_of_instance (shown_name s c.name) m (source_text c.attributes) ∷ [] else []

-- one more instance, and its scope where it is shown
unfoldable pub entered : InstancePlace → Module → Cell → Walk
entered around m c = give (λ _. record none_made { scopes = scopes_within around.shown m c; instances = 1 })

-- the top has the empty name
abbrev pub top_place : Module → ℕ → InstancePlace
top_place m scopes = record { owner = m.name; prefix = []; shown = Some (record { prefix = []; scope = scopes }) }

-- it is no instance of a cell, so it counts as none; its scope is the first
unfoldable pub top_entered : Module → Walk
top_entered m = give (λ _. record none_made { scopes = scope_of_instance [] m None ∷ [] })
