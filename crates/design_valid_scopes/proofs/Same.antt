-- Parts of an instance that add no scopes.
use Rattle.std.proofs.Common.{◌≡◌, ℕ, List, [], ◌∷◌, ◌++◌, length, append-nil, true, false, Option, Some, None, Ok, refl, ap, ◌∙◌, cond}
use Rattle.std.specs.Option.{is_some}
use Rattle.sim_base.specs.BitValue.{zeros}
use Rattle.circuit.specs.declared.item.Scope.{Scope as Shown}
use Rattle.circuit.specs.declared.netlist.By.TheVariants as source
use Rattle.cell_library.specs.Lines.{TypeLine}
use Rattle.cell_library.specs.declared.line.Gives.{Gives}
use Rattle.cell_library.specs.declared.line.Gives.TheVariants as gives
use Rattle.cell_library.specs.declared.written.Setting.{Setting as Given}
use Rattle.rtlil_signals.specs.Signals.{Scope, net_named}
use Rattle.rtlil_signals.specs.declared.scope.NamedNet.{NamedNet}
use Rattle.rtlil_tree.specs.declared.module.Assignment.{Assignment}
use Rattle.rtlil_tree.specs.declared.module.Attribute.{Attribute}
use Rattle.rtlil_tree.specs.declared.module.Cell.{Cell}
use Rattle.rtlil_tree.specs.declared.module.Module.{Module}
use Rattle.rtlil_tree.specs.declared.module.Setting.{Setting}
use Rattle.rtlil_tree.specs.declared.module.Statement.{Statement}
use Rattle.rtlil_tree.specs.declared.module.Statement.TheVariants as statement
use Rattle.rtlil_tree.specs.declared.module.Wire.{Wire}
use Rattle.design_parts.specs.Parts.{Check, Made, Walk, give, guard, none_made, nothing, run}
use Rattle.design_wires.specs.Connects.{connect, connect_checks, connect_made}
use Rattle.design_wires.specs.Places.{InstancePlace}
use Rattle.design_wires.specs.Wires.{is_public, named, wire, wire_checks, wire_in, wire_made, wires}
use Rattle.design_cells.specs.Cells as cells
use Rattle.design_cells.specs.Cells.{library_cell, made_by}
use Rattle.design_cells.specs.Joined.{Joined, joined_in, settings_of}
use Rattle.design_cells.specs.Rules.{has_room, kind_checks, located}
use Rattle.design_memory.specs.Memories as memories
use Rattle.design_memory.specs.Memories.{memory, memory_made}
use Rattle.design_memory.specs.Rules.{memory_checks}
use Rattle.design_memory.specs.Settings.{item_identifier, shape_of, values_of}
use Rattle.design_diagnostics.specs.Diagnostics as diagnostics
use Rattle.design_diagnostics.specs.Diagnostics.{silent_cell, silent_made}
use Rattle.design_diagnostics.specs.Readings.{cell_text, reading_of}
use Rattle.design_diagnostics.specs.Rules.{silent_checks}
use Rattle.design_diagnostics.specs.declared.names.SilentType.{SilentType}
use Rattle.design_diagnostics.specs.declared.reading.Reading.{Reading}
use Rattle.design_instances.specs.Joins.{join_drives}
use Rattle.design_instances.specs.Ports.{ports_of}
use Rattle.design_top.specs.Inputs.{input_in, input_made, inputs, net_input, whole_driven}
use Rattle.design_walk.specs.Cells.{typed_cell}
use Rattle.design_walk.specs.Walks.{joins}
use Rattle.design_valid.proofs.Keeping.{keeps_nothing, run_given, run_guarded, run_parts}
use Rattle.design_valid_walk.proofs.Typed.{by_types}

-- a part adds no scopes
abbrev pub SameScopes : Made → Made → Type 0
SameScopes m n = n.scopes ≡ m.scopes

abbrev pub AddsNone : Walk → Type 0
AddsNone w = (m n : Made) → run w m ≡ Ok n → SameScopes m n

pub nothing_same : AddsNone nothing
nothing_same m n e = keeps_nothing (SameScopes m) m n e refl

given_same : (make : Made → Made) → ((m : Made) → (make m).scopes ≡ []) → AddsNone (give make)
given_same make none m n e = ap (λ (x : Made). x.scopes) (run_given make m n e) ∙ ap (λ (ss : List Shown). m.scopes ++ ss) (none m) ∙ append-nil m.scopes

guarded_same : (checks : Made → List Check) (make : Made → Made) → ((m : Made) → (make m).scopes ≡ []) → AddsNone (guard checks (give make))
guarded_same checks make none m n e = given_same make none m n (run_guarded checks (give make) m n e).1

-- ---- statements

pub connect_same : (owner : List ℕ) (scope : Scope) (a : Assignment) → AddsNone (connect owner scope a)
unfolding connect
connect_same owner scope a = guarded_same (λ _. connect_checks owner scope a) (λ _. connect_made scope a) (λ m. refl)

gives_none : (l : TypeLine) (ss : List Setting) (settings : List Given) (js : List Joined) (m : Made) (g : Gives) → (made_by g l ss settings js m).scopes ≡ []
gives_none l ss settings js m (gives.Cell o) = refl
gives_none l ss settings js m (gives.Register k) = refl

library_same : (owner : List ℕ) (scope : Scope) (l : TypeLine) (c : Cell) → AddsNone (library_cell owner scope l c)
unfolding cells.taken
library_same owner scope l c =
    let settings : List Given = settings_of c.settings in
    let js : List Joined = joined_in scope c.connections in
    guarded_same (λ x. located owner c.name (kind_checks l settings js (has_room x))) (made_by l.gives l c.settings settings js) (λ m. gives_none l c.settings settings js m l.gives)

silent_none : (r : Option Reading) (text : List ℕ) (attributes : List Attribute) (ss : List Setting) (js : List Joined) → (silent_made r text attributes ss js).scopes ≡ []
silent_none None text attributes ss js = refl
silent_none (Some r) text attributes ss js = refl

silent_same : (here : InstancePlace) (scope : Scope) (t : SilentType) (c : Cell) → AddsNone (silent_cell here scope t c)
unfolding diagnostics.taken
silent_same here scope t c =
    let r : Option Reading = reading_of t c.settings in
    let js : List Joined = joined_in scope c.connections in
    guarded_same (silent_checks here c.name r c.settings js) (λ _. silent_made r (cell_text here c.name) c.attributes c.settings js) (λ m. silent_none r (cell_text here c.name) c.attributes c.settings js)

memory_same : (here : InstancePlace) (scope : Scope) (c : Cell) → AddsNone (memory here scope c)
unfolding memories.taken
memory_same here scope c =
    let js : List Joined = joined_in scope c.connections in
    guarded_same (memory_checks here c.name c.settings c.connections js) (memory_made here.shown (item_identifier c.settings) c.attributes (shape_of c.settings) (values_of c.settings) js) (λ m. refl)

pub typed_same : (here : InstancePlace) (scope : Scope) (c : Cell) (w : Walk) → typed_cell here scope c ≡ Some w → AddsNone w
typed_same here scope c w is = by_types AddsNone here scope c w (λ l found. library_same here.owner scope l c) (memory_same here scope c) (λ t. silent_same here scope t c) is

-- ---- wires

wire_same : (here : InstancePlace) (earlier : Scope) (s : Statement) → AddsNone (wire_in here earlier s)
unfolding wire_in wire
wire_same here earlier (statement.Wire w) = guarded_same (wire_checks here earlier w) (wire_made here w) (λ m. refl)
wire_same here earlier (statement.Parameter _) = nothing_same
wire_same here earlier (statement.Memory _) = nothing_same
wire_same here earlier (statement.Cell _) = nothing_same
wire_same here earlier (statement.Connect _) = nothing_same
wire_same here earlier (statement.Process _) = nothing_same

pub wires_same : (here : InstancePlace) (earlier : Scope) (ss : List Statement) → AddsNone (wires here earlier ss)
unfolding wires run
wires_same here earlier [] m n e = nothing_same m n e
wires_same here earlier (s ∷ ss) m n e =
    let next : Scope = earlier ++ named (length m.nets) s in
    let parts = run_parts (wire_in here earlier s) (wires here next ss) m n e in
    wires_same here next ss parts.0 n parts.2 ∙ wire_same here earlier s m parts.0 parts.1

pub joins_same : (within around : Scope) (c : Cell) (md : Module) → AddsNone (joins within around c md)
unfolding joins
joins_same within around c md = given_same (λ _. record none_made { drives = join_drives within around (ports_of md.statements) c.connections }) (λ m. refl)

-- ---- inputs of the top

input_none : (net : NamedNet) (w : Wire) (m : Made) → (input_made net w m).scopes ≡ []
input_none net w m = elim (is_public w.name) as (λ b. (cond b (record none_made { drives = whole_driven net (source.Input (length m.inputs) 0); inputs = net.net ∷ [] }) (record none_made { drives = whole_driven net (source.Const (zeros net.width)) })).scopes ≡ []) [ true ↦ refl | false ↦ refl ]

input_same : (o : Option NamedNet) (w : Wire) → AddsNone (net_input o w)
input_same None w = nothing_same
input_same (Some net) w = elim (is_some w.options.input) as (λ b. AddsNone (cond b (give (input_made net w)) nothing)) [ true ↦ given_same (input_made net w) (input_none net w) | false ↦ nothing_same ]

one_same : (scope : Scope) (s : Statement) → AddsNone (input_in scope s)
one_same scope (statement.Wire w) = input_same (net_named scope w.name) w
one_same scope (statement.Parameter _) = nothing_same
one_same scope (statement.Memory _) = nothing_same
one_same scope (statement.Cell _) = nothing_same
one_same scope (statement.Connect _) = nothing_same
one_same scope (statement.Process _) = nothing_same

pub inputs_same : (scope : Scope) (ss : List Statement) → AddsNone (inputs scope ss)
unfolding inputs
inputs_same scope [] m n e = nothing_same m n e
inputs_same scope (s ∷ ss) m n e =
    let parts = run_parts (input_in scope s) (inputs scope ss) m n e in
    inputs_same scope ss parts.0 n parts.2 ∙ one_same scope s m parts.0 parts.1
