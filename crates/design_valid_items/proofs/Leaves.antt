-- What wires, cells and inputs show fits.
use Rattle.std.proofs.Common.{◌≡◌, ℕ, ◌+◌, ◌-◌, ◌^◌, ◌≤◌, ◌<◌, ◌&&◌, ◌||◌, not, cond, List, [], ◌∷◌, ◌++◌, drop, length, length-append, length-drop, Bool, true, false, Option, Some, None, option_and_then, refl, sym, ap, ◌∙◌, subst, arith}
use Rattle.std.specs.Prelude.{nat_le, nat_lt, slice_get}
use Rattle.std.specs.List.{list_all}
use Rattle.std.specs.Option.{is_some}
use Rattle.std.specs.Str.{is_utf8}
use Rattle.std.proofs.lemmas.Bool.{and_from, and_parts, leb-true, lt-ltb}
use Rattle.std.proofs.lemmas.List.Sums.{sum_by-cons}
use Rattle.sim_base.specs.BitValue.{zeros}
use Rattle.circuit.specs.Built.{slots_of_items}
use Rattle.circuit.specs.Shown.{rows_of, slots_of}
use Rattle.circuit.specs.Valid.{is_countable, item_fits, text_fits}
use Rattle.circuit.specs.declared.diagnostic.Diag.{Diag}
use Rattle.circuit.specs.declared.item.Item.{Item}
use Rattle.circuit.specs.declared.memory.Mem.{Mem}
use Rattle.circuit.specs.declared.netlist.By.TheVariants as by
use Rattle.cell_library.specs.Lines.{TypeLine}
use Rattle.cell_library.specs.declared.line.Gives.{Gives}
use Rattle.cell_library.specs.declared.line.Gives.TheVariants as gives
use Rattle.cell_library.specs.declared.written.Setting.{Setting as Given}
use Rattle.rtlil_signals.specs.Signals.{Scope, net_named}
use Rattle.rtlil_signals.specs.declared.scope.NamedNet.{NamedNet}
use Rattle.rtlil_tree.specs.declared.module.Assignment.{Assignment}
use Rattle.rtlil_tree.specs.declared.module.Attribute.{Attribute}
use Rattle.rtlil_tree.specs.declared.module.Cell.{Cell}
use Rattle.rtlil_tree.specs.declared.module.Setting.{Setting}
use Rattle.rtlil_tree.specs.declared.module.Statement.{Statement}
use Rattle.rtlil_tree.specs.declared.module.Statement.TheVariants as statement
use Rattle.rtlil_tree.specs.declared.module.Wire.{Wire}
use Rattle.design_parts.specs.Parts.{Made, both_made, give, none_made, nothing, run}
use Rattle.design_wires.specs.Connects.{connect, connect_checks, connect_made}
use Rattle.design_wires.specs.Places.{InstancePlace, ShownPlace}
use Rattle.design_wires.specs.Texts.{const_bytes, if_text}
use Rattle.design_wires.specs.Wires.{has_room, is_public, longest_name, most_net_bits, most_nets, name_fits, named, node_item, shown_name, wire, wire_checks, wire_in, wire_items, wire_made, wire_net, wires}
use Rattle.design_cells.specs.Cells as cells
use Rattle.design_cells.specs.Cells.{library_cell, made_by}
use Rattle.design_cells.specs.Joined.{Joined, joined_in, settings_of}
use Rattle.design_cells.specs.Rules as library
use Rattle.design_cells.specs.Rules.{kind_checks, located}
use Rattle.design_memory.specs.Memories as memories
use Rattle.design_memory.specs.Memories.{memory, memory_item, memory_items, memory_made, memory_of}
use Rattle.design_memory.specs.Rules as rows
use Rattle.design_memory.specs.Rules.{identifier_fits, memory_checks, most_memory_bits, most_rows}
use Rattle.design_memory.specs.Settings.{identifier_in, if_identifier, is_shown_identifier, item_identifier, setting_at, shape_of, values_of}
use Rattle.design_memory.specs.declared.names.Parameter.TheVariants as parameter
use Rattle.design_memory.specs.declared.settings.Shape.{Shape}
use Rattle.design_memory.specs.declared.settings.Values.{Values}
use Rattle.design_diagnostics.specs.Diagnostics as diagnostics
use Rattle.design_diagnostics.specs.Diagnostics.{diagnostic_of, silent_cell, silent_made}
use Rattle.design_diagnostics.specs.Readings.{cell_text, reading_of}
use Rattle.design_diagnostics.specs.Rules as silent
use Rattle.design_diagnostics.specs.Rules.{silent_checks}
use Rattle.design_diagnostics.specs.declared.names.SilentType.{SilentType}
use Rattle.design_diagnostics.specs.declared.reading.Reading.{Reading}
use Rattle.design_top.specs.Inputs.{input_in, input_made, inputs, net_input, whole_driven}
use Rattle.design_valid.specs.Keeps.{Keeps}
use Rattle.design_valid.proofs.Keeping.{holds_at, keeps_both, keeps_nothing, run_given, run_guarded, run_parts}
use Rattle.design_valid.proofs.Lists.{all_one, last_stands}
use Rattle.design_valid_counts.specs.Counted.{net_bits, row_count}
use Rattle.design_valid_walk.proofs.Walking.{Each}
use Rattle.design_valid_items.specs.Shown.{AreShown, diag_told}
use Rattle.rtlil_names.specs.Names.{is_text_statement}
use Rattle.design_valid_items.proofs.Growing.{FitsPlace, Inside, inside_both, none_shown, place_stays}
use Rattle.design_valid_items.proofs.Texts.{cell_text_fits, public_text, source_fits, text_both}

-- what is known of a statement
abbrev pub Good : Statement → Type 0
Good s = is_text_statement s ≡ true

-- ---- names that are shown

shown_text : (s : ShownPlace) (name : List ℕ) → is_utf8 s.prefix ≡ true → is_utf8 name ≡ true → is_public name ≡ true → is_utf8 (shown_name s name) ≡ true
shown_text s name f g p = text_both s.prefix (drop 1 name) f (public_text name p g)

name_within : (s : ShownPlace) (name : List ℕ) → name_fits (Some s) name ≡ true → is_public name ≡ true → is_countable (length (shown_name s name)) ≡ true
name_within s name h p =
    let short : nat_le (length s.prefix + (length name - 1)) longest_name ≡ true = sym (ap (λ b. not b || nat_le (length s.prefix + (length name - 1)) longest_name) p) ∙ h in
    let le : length s.prefix + (length name - 1) ≤ longest_name = leb-true (length s.prefix + (length name - 1)) longest_name short in
    lt-ltb (length (shown_name s name)) (2 ^ 32) (omega (arith, le, length-append s.prefix (drop 1 name), length-drop 1 name))

-- ---- connections and other drives

pub connect_shown : (here : InstancePlace) (scope : Scope) (a : Assignment) → Keeps (Inside here) (connect here.owner scope a)
unfolding connect
connect_shown here scope a m n e h =
    let made = connect_made scope a in
    let is : n ≡ both_made m made = run_given (λ _. made) m n (run_guarded (λ _. connect_checks here.owner scope a) (give (λ _. made)) m n e).1 in
    subst (Inside here) (sym is) (inside_both here m made h (none_shown (both_made m made) made refl refl refl))

net_input_shown : (here : InstancePlace) (o : Option NamedNet) (w : Wire) → Keeps (Inside here) (net_input o w)
net_input_shown here None w = keeps_nothing (Inside here)
net_input_shown here (Some n) w = given (is_some w.options.input)
  where
    added : (m : Made) → Inside here m → (b : Bool) → Inside here (both_made m (cond b (record none_made { drives = whole_driven n (by.Input (length m.inputs) 0); inputs = n.net ∷ [] }) (record none_made { drives = whole_driven n (by.Const (zeros n.width)) })))
    added m h true = let made : Made = record none_made { drives = whole_driven n (by.Input (length m.inputs) 0); inputs = n.net ∷ [] } in inside_both here m made h (none_shown (both_made m made) made refl refl refl)
    added m h false = let made : Made = record none_made { drives = whole_driven n (by.Const (zeros n.width)) } in inside_both here m made h (none_shown (both_made m made) made refl refl refl)

    given : (b : Bool) → Keeps (Inside here) (cond b (give (input_made n w)) nothing)
    given false = keeps_nothing (Inside here)
    given true = λ m k e h. subst (Inside here) (sym (run_given (input_made n w) m k e)) (added m h (is_public w.name))

input_in_shown : (here : InstancePlace) (scope : Scope) (s : Statement) → Keeps (Inside here) (input_in scope s)
input_in_shown here scope (statement.Wire w) = net_input_shown here (net_named scope w.name) w
input_in_shown here scope (statement.Parameter _) = keeps_nothing (Inside here)
input_in_shown here scope (statement.Memory _) = keeps_nothing (Inside here)
input_in_shown here scope (statement.Cell _) = keeps_nothing (Inside here)
input_in_shown here scope (statement.Connect _) = keeps_nothing (Inside here)
input_in_shown here scope (statement.Process _) = keeps_nothing (Inside here)

pub inputs_shown : (here : InstancePlace) (scope : Scope) (ss : List Statement) → Keeps (Inside here) (inputs scope ss)
unfolding inputs
inputs_shown here scope [] = keeps_nothing (Inside here)
inputs_shown here scope (s ∷ ss) = keeps_both (Inside here) (input_in scope s) (inputs scope ss) (input_in_shown here scope s) (inputs_shown here scope ss)

-- ---- wires

module _ (here : InstancePlace) (w : Wire) (m : Made) (text : is_utf8 w.name ≡ true) (place : FitsPlace here m.scopes) where
  node_fits : (s : ShownPlace) → here.shown ≡ Some s → name_fits (Some s) w.name ≡ true → is_public w.name ≡ true → item_fits (m.nets ++ wire_net here w ∷ []) (m.mems ++ []) (m.scopes ++ []) (node_item s (length m.nets) w) ≡ true
  node_fits s is fits p =
      let i : Item = node_item s (length m.nets) w in
      let into = place.shown s is in
      let later = (place_stays here m.scopes [] place).shown s is in
      let count : length m.nets < length (m.nets ++ wire_net here w ∷ []) = omega (arith, length-append m.nets (wire_net here w ∷ [])) in
      and_from (nat_lt i.scope (length (m.scopes ++ []))) _ (lt-ltb i.scope (length (m.scopes ++ [])) later.scope)
      (and_from (nat_lt (length m.nets) (length (m.nets ++ wire_net here w ∷ []))) _ (lt-ltb (length m.nets) (length (m.nets ++ wire_net here w ∷ [])) count)
      (and_from (is_countable (length i.name)) _ (name_within s w.name fits p)
      (and_from (is_utf8 i.name) (text_fits i.src) (shown_text s w.name into.prefix text p) (source_fits w.attributes))))

  items_fit : (shown : Option ShownPlace) → here.shown ≡ shown → name_fits shown w.name ≡ true → list_all (item_fits (m.nets ++ wire_net here w ∷ []) (m.mems ++ []) (m.scopes ++ [])) (wire_items shown (length m.nets) w) ≡ true
  items_fit None is fits = refl
  items_fit (Some s) is fits = shows (is_public w.name) refl
    where
      shows : (b : Bool) → is_public w.name ≡ b → list_all (item_fits (m.nets ++ wire_net here w ∷ []) (m.mems ++ []) (m.scopes ++ [])) (cond b (node_item s (length m.nets) w ∷ []) []) ≡ true
      shows true p = all_one (item_fits (m.nets ++ wire_net here w ∷ []) (m.mems ++ []) (m.scopes ++ [])) (node_item s (length m.nets) w) (node_fits s is fits p)
      shows false p = refl

  one_slot : (mems : List Mem) (shown : Option ShownPlace) → slots_of_items mems (wire_items shown (length m.nets) w) ≤ 1
  one_slot mems None = omega arith
  one_slot mems (Some s) = elim (is_public w.name) as (λ b. slots_of_items mems (cond b (node_item s (length m.nets) w ∷ []) []) ≤ 1) [
    | true ↦ (let one = sum_by-cons (λ (i : Item). slots_of mems i.kind) (node_item s (length m.nets) w) [] in omega (arith, one))
    | false ↦ omega arith
  ]

  wire_shown : name_fits here.shown w.name ≡ true → AreShown (both_made m (wire_made here w m)) (wire_made here w m)
  wire_shown fits = record {
    items = items_fit here.shown refl fits;
    slots = (let few = one_slot (m.mems ++ []) here.shown in omega (arith, few));
    scopes = refl;
    diags = refl;
  }

keeps_wire : (here : InstancePlace) (earlier : Scope) (w : Wire) → is_utf8 w.name ≡ true → Keeps (Inside here) (wire here earlier w)
unfolding wire wire_checks
keeps_wire here earlier w text m n e h =
    let parts = run_guarded (wire_checks here earlier w) (give (wire_made here w)) m n e in
    let room : has_room here.shown w m ≡ true = holds_at (wire_checks here earlier w m) 3 _ parts.0 refl in
    let first = and_parts (nat_lt (length m.nets) most_nets) _ room in
    let second = and_parts (nat_le (net_bits m + w.options.width) most_net_bits) (name_fits here.shown w.name) first.1 in
    subst (Inside here) (sym (run_given (wire_made here w) m n parts.1)) (inside_both here m (wire_made here w m) h (wire_shown here w m text h.place second.1))

keeps_wire_in : (here : InstancePlace) (earlier : Scope) (s : Statement) → Good s → Keeps (Inside here) (wire_in here earlier s)
unfolding wire_in
keeps_wire_in here earlier (statement.Wire w) good = keeps_wire here earlier w good
keeps_wire_in here earlier (statement.Parameter _) good = keeps_nothing (Inside here)
keeps_wire_in here earlier (statement.Memory _) good = keeps_nothing (Inside here)
keeps_wire_in here earlier (statement.Cell _) good = keeps_nothing (Inside here)
keeps_wire_in here earlier (statement.Connect _) good = keeps_nothing (Inside here)
keeps_wire_in here earlier (statement.Process _) good = keeps_nothing (Inside here)

pub wires_shown : (here : InstancePlace) (earlier : Scope) (ss : List Statement) → Each Good ss → Keeps (Inside here) (wires here earlier ss)
unfolding wires run
wires_shown here earlier [] good = keeps_nothing (Inside here)
wires_shown here earlier (s ∷ ss) good = λ m n e h.
    let rest = wires here (earlier ++ named (length m.nets) s) ss in
    let parts = run_parts (wire_in here earlier s) rest m n e in
    wires_shown here (earlier ++ named (length m.nets) s) ss good.1 parts.0 n parts.2 (keeps_wire_in here earlier s good.0 m parts.0 parts.1 h)

-- ---- cells of the library

gives_shown : (l : TypeLine) (ss : List Setting) (settings : List Given) (js : List Joined) (m : Made) (g : Gives) → AreShown (both_made m (made_by g l ss settings js m)) (made_by g l ss settings js m)
gives_shown l ss settings js m (gives.Cell o) = none_shown _ (made_by (gives.Cell o) l ss settings js m) refl refl refl
gives_shown l ss settings js m (gives.Register k) = none_shown _ (made_by (gives.Register k) l ss settings js m) refl refl refl

pub library_shown : (here : InstancePlace) (scope : Scope) (l : TypeLine) (c : Cell) → Keeps (Inside here) (library_cell here.owner scope l c)
unfolding cells.taken
library_shown here scope l c m n e h =
    let settings : List Given = settings_of c.settings in
    let js : List Joined = joined_in scope c.connections in
    let make : Made → Made = made_by l.gives l c.settings settings js in
    let parts = run_guarded (λ x. located here.owner c.name (kind_checks l settings js (library.has_room x))) (give make) m n e in
    subst (Inside here) (sym (run_given make m n parts.1)) (inside_both here m (make m) h (gives_shown l c.settings settings js m l.gives))

-- ---- memories

-- an identifier that a memory's item has is a text that begins with `\`
shown_identifier : (bytes name : List ℕ) → is_utf8 bytes ≡ true → if_identifier bytes ≡ Some name → is_utf8 name ≡ true
shown_identifier bytes name text e = it (is_shown_identifier bytes) e
  where
    it : (b : Bool) → cond b (Some bytes) None ≡ Some name → is_utf8 name ≡ true
    it true k = let same : bytes ≡ name = cc k in ap is_utf8 (sym same) ∙ text
    it false k = cc k

text_identifier : (bytes name : List ℕ) → option_and_then if_identifier (if_text bytes) ≡ Some name → is_utf8 name ≡ true
text_identifier bytes name e = it (is_utf8 bytes) refl e
  where
    it : (b : Bool) → is_utf8 bytes ≡ b → option_and_then if_identifier (cond b (Some bytes) None) ≡ Some name → is_utf8 name ≡ true
    it true is k = shown_identifier bytes name is k
    it false is k = cc k

bytes_identifier : (o : Option (List ℕ)) (name : List ℕ) → option_and_then if_identifier (option_and_then if_text o) ≡ Some name → is_utf8 name ≡ true
bytes_identifier None name e = cc e
bytes_identifier (Some bytes) name e = text_identifier bytes name e

setting_identifier : (o : Option Setting) (name : List ℕ) → identifier_in o ≡ Some name → is_utf8 name ≡ true
setting_identifier None name e = cc e
setting_identifier (Some s) name e = bytes_identifier (const_bytes s.value) name e

module _ (here : InstancePlace) (attributes : List Attribute) (one : Mem) (m : Made) (place : FitsPlace here m.scopes) where
  memory_fits : (s : ShownPlace) (name : List ℕ) → here.shown ≡ Some s → is_utf8 name ≡ true → name_fits (Some s) name ≡ true → is_public name ≡ true
      → item_fits (m.nets ++ []) (m.mems ++ one ∷ []) (m.scopes ++ []) (memory_item s (length m.mems) name attributes) ≡ true
  memory_fits s name is text fits p =
      let i : Item = memory_item s (length m.mems) name attributes in
      let into = place.shown s is in
      let later = (place_stays here m.scopes [] place).shown s is in
      let count : length m.mems < length (m.mems ++ one ∷ []) = omega (arith, length-append m.mems (one ∷ [])) in
      and_from (nat_lt i.scope (length (m.scopes ++ []))) _ (lt-ltb i.scope (length (m.scopes ++ [])) later.scope)
      (and_from (nat_lt (length m.mems) (length (m.mems ++ one ∷ []))) _ (lt-ltb (length m.mems) (length (m.mems ++ one ∷ [])) count)
      (and_from (is_countable (length i.name)) _ (name_within s name fits p)
      (and_from (is_utf8 i.name) (text_fits i.src) (shown_text s name into.prefix text p) (source_fits attributes))))

  memory_items_fit : (shown : Option ShownPlace) (identifier : Option (List ℕ)) → here.shown ≡ shown → ((name : List ℕ) → identifier ≡ Some name → is_utf8 name ≡ true) → identifier_fits shown identifier ≡ true
      → list_all (item_fits (m.nets ++ []) (m.mems ++ one ∷ []) (m.scopes ++ [])) (memory_items shown (length m.mems) identifier attributes) ≡ true
  memory_items_fit None identifier is text fits = refl
  memory_items_fit (Some s) None is text fits = refl
  memory_items_fit (Some s) (Some name) is text fits = shows (is_public name) refl
    where
      shows : (b : Bool) → is_public name ≡ b → list_all (item_fits (m.nets ++ []) (m.mems ++ one ∷ []) (m.scopes ++ [])) (cond b (memory_item s (length m.mems) name attributes ∷ []) []) ≡ true
      shows true p = all_one (item_fits (m.nets ++ []) (m.mems ++ one ∷ []) (m.scopes ++ [])) (memory_item s (length m.mems) name attributes) (memory_fits s name is (text name refl) fits p)
      shows false p = refl

  rows_slots : (shown : Option ShownPlace) (identifier : Option (List ℕ)) → slots_of_items (m.mems ++ one ∷ []) (memory_items shown (length m.mems) identifier attributes) ≤ one.size
  rows_slots None identifier = omega arith
  rows_slots (Some s) None = omega arith
  rows_slots (Some s) (Some name) = elim (is_public name) as (λ b. slots_of_items (m.mems ++ one ∷ []) (cond b (memory_item s (length m.mems) name attributes ∷ []) []) ≤ one.size) [
    | true ↦
        (let sum = sum_by-cons (λ (i : Item). slots_of (m.mems ++ one ∷ []) i.kind) (memory_item s (length m.mems) name attributes) [] in
        let rows : rows_of (slice_get (m.mems ++ one ∷ []) (length m.mems)) ≡ one.size = ap rows_of (last_stands m.mems one) in
        omega (arith, sum, rows))
    | false ↦ omega arith
  ]

pub memory_shown : (here : InstancePlace) (scope : Scope) (c : Cell) → Keeps (Inside here) (memory here scope c)
unfolding memories.taken memory_checks rows.has_room
memory_shown here scope c m n e h =
    let s : Shape = shape_of c.settings in
    let v : Values = values_of c.settings in
    let js : List Joined = joined_in scope c.connections in
    let identifier : Option (List ℕ) = item_identifier c.settings in
    let make : Made → Made = memory_made here.shown identifier c.attributes s v js in
    let made : Made = make m in
    let one : Mem = memory_of s v js in
    let parts = run_guarded (memory_checks here c.name c.settings c.connections js) (give make) m n e in
    let room : rows.has_room here.shown identifier s m ≡ true = holds_at (memory_checks here c.name c.settings c.connections js m) 4 _ parts.0 refl in
    let first = and_parts (library.has_room m) _ room in
    let second = and_parts (nat_le (row_count m + s.size) most_rows) _ first.1 in
    let third = and_parts (nat_le _ most_memory_bits) (identifier_fits here.shown identifier) second.1 in
    let rows_one : row_count made ≡ s.size + 0 = sum_by-cons (λ (x : Mem). x.size) one [] in
    let few = rows_slots here c.attributes one m h.place here.shown identifier in
    subst (Inside here) (sym (run_given make m n parts.1))
    (inside_both here m made h (record {
      items = memory_items_fit here c.attributes one m h.place here.shown identifier refl (λ name is. setting_identifier (setting_at c.settings parameter.MemId) name is) third.1;
      slots = omega (arith, rows_one, few);
      scopes = refl;
      diags = refl;
    }))

-- ---- cells that drive nothing

silent_told : (all : Made) (r : Option Reading) (text : List ℕ) (attributes : List Attribute) (ss : List Setting) (js : List Joined) (m : Made) → is_utf8 text ≡ true → silent.has_room r text m ≡ true → AreShown all (silent_made r text attributes ss js)
silent_told all None text attributes ss js m sound room = none_shown all none_made refl refl refl
silent_told all (Some r) text attributes ss js m sound room =
    let d : Diag = diagnostic_of r text attributes ss js in
    let short = (and_parts (library.has_room m) (nat_le (length text) longest_name) room).1 in
    let le : length text ≤ longest_name = leb-true (length text) longest_name short in
    let told : diag_told d ≡ true = and_from (is_countable (length text)) (is_utf8 text && text_fits d.src) (lt-ltb (length text) (2 ^ 32) (omega (arith, le))) (and_from (is_utf8 text) (text_fits d.src) sound (source_fits attributes)) in
    record { items = refl; slots = omega arith; scopes = refl; diags = all_one diag_told d told }

pub silent_shown : (here : InstancePlace) (scope : Scope) (t : SilentType) (c : Cell) → is_utf8 c.name ≡ true → Keeps (Inside here) (silent_cell here scope t c)
unfolding diagnostics.taken silent_checks
silent_shown here scope t c text m n e h =
    let r : Option Reading = reading_of t c.settings in
    let js : List Joined = joined_in scope c.connections in
    let told : List ℕ = cell_text here c.name in
    let made : Made = silent_made r told c.attributes c.settings js in
    let parts = run_guarded (silent_checks here c.name r c.settings js) (give (λ _. made)) m n e in
    let room : silent.has_room r told m ≡ true = holds_at (silent_checks here c.name r c.settings js m) 4 _ parts.0 refl in
    subst (Inside here) (sym (run_given (λ _. made) m n parts.1))
    (inside_both here m made h (silent_told (both_made m made) r told c.attributes c.settings js m (cell_text_fits here c.name h.place.prefix text) room))
