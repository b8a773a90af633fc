-- The cells of a module of which a name stands for something else.
use Rattle.std.specs.Prelude.{ℕ, List, [], ◌∷◌, map, Bool, false, ◌||◌, Option, Some, None, bytes_eq, codes, if◌then◌else◌}
use Rattle.std.specs.Option.{is_some}
use Rattle.rtlil_tree.specs.declared.module.Cell.{Cell}
use Rattle.rtlil_tree.specs.declared.module.Connection.{Connection}
use Rattle.rtlil_tree.specs.declared.module.Setting.{Setting}
use Rattle.rtlil_tree.specs.declared.module.Statement.{Statement}
use Rattle.rtlil_tree.specs.declared.module.Statement.TheVariants as statement
use Rattle.rtlil_signals.specs.Signals.{Scope, net_named}
use Rattle.design_memory.specs.Settings.{item_identifier}
use Rattle.design_names.specs.Names.{Names, any_again, has, with_name}
use Rattle.design_names.specs.declared.clashes.Clashes.{Clashes}

-- ---- cells

abbrev pub setting_name : Setting → List ℕ
setting_name s = s.name

abbrev pub port_name : Connection → List ℕ
port_name c = c.port

-- a parameter or a port is given twice
abbrev pub repeats : Cell → Bool
repeats c = any_again [] (map setting_name c.settings) || any_again [] (map port_name c.connections)

-- a cell behind earlier ones: it has the name of one of them, or something is given twice
abbrev pub cell_clashes : Names → Statement → Bool
cell_clashes earlier (statement.Cell c) = has earlier c.name || repeats c
cell_clashes earlier _ = false

abbrev pub with_cell : Names → Statement → Names
with_cell earlier (statement.Cell c) = with_name earlier c.name
with_cell earlier _ = earlier

unfoldable pub cells_clash : Names → List Statement → List Bool
cells_clash earlier [] = []
cells_clash earlier (s ∷ ss) = cell_clashes earlier s ∷ cells_clash (with_cell earlier s) ss

-- ---- items of memories

abbrev pub cell_item : Cell → Option (List ℕ)
cell_item c = if bytes_eq c.kind (codes "$mem_v2") then item_identifier c.settings else None

-- the identifier of the item that a statement gives, if it is a memory with one
abbrev pub item_of : Statement → Option (List ℕ)
item_of (statement.Cell c) = cell_item c
item_of _ = None

-- a memory item behind earlier ones: it has the name of a wire or of one of them
abbrev pub item_clashes : Scope → Names → Option (List ℕ) → Bool
item_clashes wires earlier None = false
item_clashes wires earlier (Some name) = is_some (net_named wires name) || has earlier name

abbrev pub with_item : Names → Option (List ℕ) → Names
with_item earlier None = earlier
with_item earlier (Some name) = with_name earlier name

unfoldable pub items_clash : Scope → Names → List (Option (List ℕ)) → List Bool
items_clash wires earlier [] = []
items_clash wires earlier (i ∷ is) = item_clashes wires earlier i ∷ items_clash wires (with_item earlier i) is

-- ---- a module

abbrev pub items_of : List Statement → List (Option (List ℕ))
items_of ss = map item_of ss

-- statement by statement whether its cell clashes, and whether its item does, in a module with these wires
abbrev pub clashes_in : Scope → List Statement → Clashes
clashes_in wires ss = record { cells = cells_clash [] ss; items = items_clash wires [] (items_of ss) }
