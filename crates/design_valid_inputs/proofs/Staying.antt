-- What comes behind the inputs of the top changes nothing of them.
use Rattle.std.proofs.Common.{◌≡◌, ℕ, ◌<◌, ◌==◌, cond, List, [], ◌∷◌, ◌++◌, length, Bool, true, false, Option, Some, None, refl, sym, ap, subst, arith, inl, inr}
use Rattle.std.proofs.lemmas.Bool.Decides.{eqb_tells}
use Rattle.std.proofs.lemmas.List.Sums.{sum_by-cons}
use Rattle.circuit.specs.Valid.{is_node_of}
use Rattle.circuit.specs.declared.item.Item.{Item}
use Rattle.cell_library.specs.Lines.{TypeLine}
use Rattle.cell_library.specs.declared.line.Gives.{Gives}
use Rattle.cell_library.specs.declared.line.Gives.TheVariants as gives
use Rattle.cell_library.specs.declared.written.Setting.{Setting as Given}
use Rattle.rtlil_signals.specs.Signals.{Scope}
use Rattle.rtlil_tree.specs.declared.module.Assignment.{Assignment}
use Rattle.rtlil_tree.specs.declared.module.Attribute.{Attribute}
use Rattle.rtlil_tree.specs.declared.module.Cell.{Cell}
use Rattle.rtlil_tree.specs.declared.module.Module.{Module}
use Rattle.rtlil_tree.specs.declared.module.Setting.{Setting}
use Rattle.rtlil_tree.specs.declared.module.Statement.{Statement}
use Rattle.rtlil_tree.specs.declared.module.Statement.TheVariants as statement
use Rattle.rtlil_tree.specs.declared.module.Wire.{Wire}
use Rattle.design_parts.specs.Parts.{Made, Walk, ◌>>◌, both_made, give, none_made, run}
use Rattle.design_wires.specs.Connects.{connect, connect_checks, connect_made}
use Rattle.design_wires.specs.Places.{InstancePlace, ShownPlace}
use Rattle.design_wires.specs.Wires.{is_public, named, node_item, scope_of, wire, wire_checks, wire_in, wire_items, wire_made, wires}
use Rattle.design_cells.specs.Cells as cells
use Rattle.design_cells.specs.Cells.{library_cell, made_by}
use Rattle.design_cells.specs.Joined.{Joined, joined_in, settings_of}
use Rattle.design_cells.specs.Rules.{has_room, kind_checks, located}
use Rattle.design_memory.specs.Memories as memories
use Rattle.design_memory.specs.Memories.{memory, memory_item, memory_items, memory_made}
use Rattle.design_memory.specs.Rules.{memory_checks}
use Rattle.design_memory.specs.Settings.{item_identifier, shape_of, values_of}
use Rattle.design_diagnostics.specs.Diagnostics as diagnostics
use Rattle.design_diagnostics.specs.Diagnostics.{silent_cell, silent_made}
use Rattle.design_diagnostics.specs.Readings.{cell_text, reading_of}
use Rattle.design_diagnostics.specs.Rules.{silent_checks}
use Rattle.design_diagnostics.specs.declared.names.SilentType.{SilentType}
use Rattle.design_diagnostics.specs.declared.reading.Reading.{Reading}
use Rattle.design_instances.specs.Joins.{join_drives}
use Rattle.design_instances.specs.Ports.{ports_of}
use Rattle.design_walk.specs.Instances.{entered, place_within, scopes_within}
use Rattle.design_walk.specs.Walks.{arrival, joins}
use Rattle.design_valid.specs.Keeps.{Keeps}
use Rattle.design_valid.proofs.Keeping.{keeps_nothing, run_given, run_guarded, run_parts}
use Rattle.design_valid_inputs.proofs.Counts.{InputsFit, inputs_stay, shows}

pub connect_stays : (owner : List ℕ) (scope : Scope) (a : Assignment) → Keeps InputsFit (connect owner scope a)
unfolding connect
connect_stays owner scope a m n e h =
    let made = connect_made scope a in
    subst InputsFit (sym (run_given (λ _. made) m n (run_guarded (λ _. connect_checks owner scope a) (give (λ _. made)) m n e).1)) (inputs_stay m made (λ net lt. refl) refl h)

-- ---- wires

abbrev pub one_if : Bool → ℕ
one_if b = cond b 1 0

-- the item of a wire shows its own net alone
pub other_net : (shown : Option ShownPlace) (k net : ℕ) (w : Wire) → net < k → shows net (wire_items shown k w) ≡ 0
other_net None k net w lt = refl
other_net (Some s) k net w lt = elim (is_public w.name) as (λ b. shows net (cond b (node_item s k w ∷ []) []) ≡ 0) [
  | true ↦
      (let other : (k == net) ≡ false = elim (eqb_tells k net) [ inl t ↦ absurd (let same : k ≡ net = t.1 in omega (arith, lt, same)) | inr f ↦ f.0 ] in
      let sum = sum_by-cons (λ (i : Item). cond (is_node_of net i.kind) 1 0) (node_item s k w) [] in
      let none : one_if (k == net) ≡ 0 = ap one_if other in
      omega (arith, sum, none))
  | false ↦ refl
]

wire_stays : (here : InstancePlace) (earlier : Scope) (w : Wire) → Keeps InputsFit (wire here earlier w)
unfolding wire
wire_stays here earlier w m n e h =
    subst InputsFit (sym (run_given (wire_made here w) m n (run_guarded (wire_checks here earlier w) (give (wire_made here w)) m n e).1))
    (inputs_stay m (wire_made here w m) (λ net lt. other_net here.shown (length m.nets) net w lt) refl h)

wire_in_stays : (here : InstancePlace) (earlier : Scope) (s : Statement) → Keeps InputsFit (wire_in here earlier s)
unfolding wire_in
wire_in_stays here earlier (statement.Wire w) = wire_stays here earlier w
wire_in_stays here earlier (statement.Parameter _) = keeps_nothing InputsFit
wire_in_stays here earlier (statement.Memory _) = keeps_nothing InputsFit
wire_in_stays here earlier (statement.Cell _) = keeps_nothing InputsFit
wire_in_stays here earlier (statement.Connect _) = keeps_nothing InputsFit
wire_in_stays here earlier (statement.Process _) = keeps_nothing InputsFit

wires_stay : (here : InstancePlace) (earlier : Scope) (ss : List Statement) → Keeps InputsFit (wires here earlier ss)
unfolding wires run
wires_stay here earlier [] = keeps_nothing InputsFit
wires_stay here earlier (s ∷ ss) = λ m n e h.
    let rest = wires here (earlier ++ named (length m.nets) s) ss in
    let parts = run_parts (wire_in here earlier s) rest m n e in
    wires_stay here (earlier ++ named (length m.nets) s) ss parts.0 n parts.2 (wire_in_stays here earlier s m parts.0 parts.1 h)

-- ---- cells

gives_stay : (l : TypeLine) (ss : List Setting) (settings : List Given) (js : List Joined) (m : Made) (g : Gives) → InputsFit m → InputsFit (both_made m (made_by g l ss settings js m))
gives_stay l ss settings js m (gives.Cell o) h = inputs_stay m (made_by (gives.Cell o) l ss settings js m) (λ net lt. refl) refl h
gives_stay l ss settings js m (gives.Register k) h = inputs_stay m (made_by (gives.Register k) l ss settings js m) (λ net lt. refl) refl h

pub library_stays : (owner : List ℕ) (scope : Scope) (l : TypeLine) (c : Cell) → Keeps InputsFit (library_cell owner scope l c)
unfolding cells.taken
library_stays owner scope l c m n e h =
    let settings : List Given = settings_of c.settings in
    let js : List Joined = joined_in scope c.connections in
    let make : Made → Made = made_by l.gives l c.settings settings js in
    let parts = run_guarded (λ x. located owner c.name (kind_checks l settings js (has_room x))) (give make) m n e in
    subst InputsFit (sym (run_given make m n parts.1)) (gives_stay l c.settings settings js m l.gives h)

memory_net : (shown : Option ShownPlace) (k net : ℕ) (identifier : Option (List ℕ)) (attributes : List Attribute) → shows net (memory_items shown k identifier attributes) ≡ 0
memory_net None k net identifier attributes = refl
memory_net (Some s) k net None attributes = refl
memory_net (Some s) k net (Some name) attributes = elim (is_public name) as (λ b. shows net (cond b (memory_item s k name attributes ∷ []) []) ≡ 0) [
  | true ↦ (let sum = sum_by-cons (λ (i : Item). cond (is_node_of net i.kind) 1 0) (memory_item s k name attributes) [] in omega (arith, sum))
  | false ↦ refl
]

pub memory_stays : (here : InstancePlace) (scope : Scope) (c : Cell) → Keeps InputsFit (memory here scope c)
unfolding memories.taken
memory_stays here scope c m n e h =
    let js : List Joined = joined_in scope c.connections in
    let make : Made → Made = memory_made here.shown (item_identifier c.settings) c.attributes (shape_of c.settings) (values_of c.settings) js in
    let parts = run_guarded (memory_checks here c.name c.settings c.connections js) (give make) m n e in
    subst InputsFit (sym (run_given make m n parts.1)) (inputs_stay m (make m) (λ net lt. memory_net here.shown (length m.mems) net (item_identifier c.settings) c.attributes) refl h)

silent_stay : (r : Option Reading) (text : List ℕ) (attributes : List Attribute) (ss : List Setting) (js : List Joined) (m : Made) → InputsFit m → InputsFit (both_made m (silent_made r text attributes ss js))
silent_stay None text attributes ss js m h = inputs_stay m none_made (λ net lt. refl) refl h
silent_stay (Some r) text attributes ss js m h = inputs_stay m (silent_made (Some r) text attributes ss js) (λ net lt. refl) refl h

pub silent_stays : (here : InstancePlace) (scope : Scope) (t : SilentType) (c : Cell) → Keeps InputsFit (silent_cell here scope t c)
unfolding diagnostics.taken
silent_stays here scope t c m n e h =
    let r : Option Reading = reading_of t c.settings in
    let js : List Joined = joined_in scope c.connections in
    let made : Made = silent_made r (cell_text here c.name) c.attributes c.settings js in
    let parts = run_guarded (silent_checks here c.name r c.settings js) (give (λ _. made)) m n e in
    subst InputsFit (sym (run_given (λ _. made) m n parts.1)) (silent_stay r (cell_text here c.name) c.attributes c.settings js m h)

-- ---- instances

entered_stays : (around : InstancePlace) (md : Module) (c : Cell) → Keeps InputsFit (entered around md c)
unfolding entered
entered_stays around md c m n e h =
    let made : Made = record none_made { scopes = scopes_within around.shown md c; instances = 1 } in
    subst InputsFit (sym (run_given (λ _. made) m n e)) (inputs_stay m made (λ net lt. refl) refl h)

joins_stay : (within around : Scope) (c : Cell) (md : Module) → Keeps InputsFit (joins within around c md)
unfolding joins
joins_stay within around c md m n e h =
    let made : Made = record none_made { drives = join_drives within around (ports_of md.statements) c.connections } in
    subst InputsFit (sym (run_given (λ _. made) m n e)) (inputs_stay m made (λ net lt. refl) refl h)

pub arrival_stays : (place : InstancePlace) (around : Scope) (c : Cell) (md : Module) → Keeps InputsFit (arrival place around c md)
unfolding arrival run
arrival_stays place around c md m n ran h =
    let within : Scope = scope_of (length m.nets) md.statements in
    let here = place_within place md.name c.name (length m.scopes) in
    let lines : Walk = wires here [] md.statements in
    let first = run_parts (entered place md c) (lines >> joins within around c md) m n ran in
    let second = run_parts lines (joins within around c md) first.0 n first.2 in
    joins_stay within around c md second.0 n second.2 (wires_stay here [] md.statements first.0 second.0 second.1 (entered_stays place md c m first.0 first.1 h))
