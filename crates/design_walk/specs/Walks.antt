-- The walk of a design: its instances, one inside another, and the statements of each.
use Rattle.std.specs.Prelude.{ℕ, zero, suc, List, [], ◌∷◌, ◌++◌, length, Bool, ◌||◌, Option, Some, None}
use Rattle.rtlil_tree.specs.declared.module.Cell.{Cell}
use Rattle.rtlil_tree.specs.declared.module.Module.{Module}
use Rattle.rtlil_tree.specs.declared.module.Statement.{Statement}
use Rattle.rtlil_tree.specs.declared.module.Statement.TheVariants as statement
use Rattle.rtlil_signals.specs.Signals.{Scope}
use Rattle.design_parts.specs.Parts.{Made, Walk, give, guard, none_made, nothing, ◌>>◌}
use Rattle.design_wires.specs.Connects.{connect}
use Rattle.design_wires.specs.Places.{InstancePlace}
use Rattle.design_wires.specs.Wires.{scope_of, wires}
use Rattle.design_instances.specs.Joins.{join_drives}
use Rattle.design_instances.specs.Ports.{ports_of}
use Rattle.design_names.specs.Clashes.{clashes_in}
use Rattle.design_names.specs.declared.clashes.Clashes.{Clashes}
use Rattle.design_walk.specs.Cells.{clash_checks, typed_cell}
use Rattle.design_walk.specs.Instances.{entered, instance_checks, place_within, top_entered, top_place}
use Rattle.design_walk.specs.Modules.{module_named}

-- an instance as its statements see it: the modules that it stands in with its own, its place, and its wires
pub record Standing : Type 0 where
  pub ancestors : List (List ℕ)
  pub place : InstancePlace
  pub scope : Scope

-- what goes down into a module, which is a cell of an instance
abbrev pub Down : Type 0
Down = Standing → Cell → Module → Walk

abbrev pub down_into : Option Module → (Module → Walk) → Walk
down_into None down = nothing
down_into (Some m) down = down m

-- ---- a statement

unfoldable pub instance : Down → List Module → Standing → Cell → Walk
instance down ms here c = guard (instance_checks ms here.ancestors here.place.owner here.scope c) (down_into (module_named ms c.kind) (down here c))

-- a type that is also the name of a module means the type
abbrev pub typed_or : Option Walk → Walk → Walk
typed_or None w = w
typed_or (Some v) w = v

unfoldable pub cell : Down → List Module → Standing → Bool → Cell → Walk
cell down ms here clash c = guard (λ _. clash_checks here.place.owner clash c) (typed_or (typed_cell here.place here.scope c) (instance down ms here c))

-- parameters, memories and processes give nothing here, and wires were taken before
unfoldable pub step : Down → List Module → Standing → Bool → Statement → Walk
step down ms here clash (statement.Cell c) = cell down ms here clash c
step down ms here clash (statement.Connect a) = connect here.place.owner here.scope a
step down ms here clash _ = nothing

-- ---- the statements of an instance

-- statement by statement whether a name of its cell stands for something else already
unfoldable pub clash_flags : List Bool → List Bool → List Bool
clash_flags (a ∷ cells) (b ∷ items) = (a || b) ∷ clash_flags cells items
clash_flags _ _ = []

abbrev pub flags_of : Clashes → List Bool
flags_of cs = clash_flags cs.cells cs.items

unfoldable pub steps : Down → List Module → Standing → List Bool → List Statement → Walk
steps down ms here (b ∷ bs) (s ∷ ss) = step down ms here b s >> steps down ms here bs ss
steps down ms here _ _ = nothing

abbrev pub all_steps : Down → List Module → Standing → Module → Walk
all_steps down ms here m = steps down ms here (flags_of (clashes_in here.scope m.statements)) m.statements

-- ---- an instance

-- what joins the wires of a module, which is this cell, to those around it
unfoldable pub joins : Scope → Scope → Cell → Module → Walk
joins within around c m = give (λ _. record none_made { drives = join_drives within around (ports_of m.statements) c.connections })

-- what comes before its statements, from the place and the wires around it: its scope, its wires, and what joins these
unfoldable pub arrival : InstancePlace → Scope → Cell → Module → Walk
arrival place around c m so_far =
    let scope = scope_of (length so_far.nets) m.statements in
    (entered place m c
    >> (wires (place_within place m.name c.name (length so_far.scopes)) [] m.statements
    >> joins scope around c m)) so_far

-- a module that is a cell of an instance, behind what was given before
abbrev pub inside : Standing → Cell → Module → Made → Standing
inside around c m so_far = record {
  ancestors = around.ancestors ++ m.name ∷ [];
  place = place_within around.place m.name c.name (length so_far.scopes);
  scope = scope_of (length so_far.nets) m.statements;
}

unfoldable pub walk_in : Down → List Module → Down
walk_in down ms around c m so_far = (arrival around.place around.scope c m >> all_steps down ms (inside around c m so_far) m) so_far

-- The number bounds how many instances stand within each other. Each of them has another module, so the number of
-- modules is enough.
unfoldable pub walk : ℕ → List Module → Down
walk zero ms around c m = nothing
walk (suc depth) ms around c m = walk_in (walk depth ms) ms around c m

-- ---- the top

-- its scope and its wires
unfoldable pub top_wires : Module → Walk
top_wires m so_far = (top_entered m >> wires (top_place m (length so_far.scopes)) [] m.statements) so_far

abbrev pub top_inside : Module → Made → Standing
top_inside m so_far = record {
  ancestors = m.name ∷ [];
  place = top_place m (length so_far.scopes);
  scope = scope_of (length so_far.nets) m.statements;
}

-- what its wires are given from outside stands before its other statements
unfoldable pub top_walk_within : ℕ → (Scope → Walk) → List Module → Module → Walk
top_walk_within depth inputs ms m so_far =
    let here = top_inside m so_far in
    (top_wires m >> (inputs here.scope >> all_steps (walk depth ms) ms here m)) so_far

-- the whole of a design, of which the top is this module of the file
abbrev pub top_walk : (Scope → Walk) → List Module → Module → Walk
top_walk inputs ms m = top_walk_within (length ms) inputs ms m
