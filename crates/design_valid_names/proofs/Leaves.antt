-- Which items the parts of an instance add.
use Rattle.std.proofs.Common.{◌≡◌, ℕ, ◌+◌, ◌==◌, ◌||◌, not, cond, List, [], ◌∷◌, ◌++◌, drop, length, length-append, append-nil, append_assoc, option_and_then, Bool, true, false, Option, Some, None, Ok, refl, sym, ap, ◌∙◌, subst, inl, inr, arith}
use Rattle.std.specs.List.{list_all}
use Rattle.std.specs.Str.{is_utf8}
use Rattle.std.proofs.lemmas.Bool.{and_parts}
use Rattle.circuit.proofs.Grown.{all_mono}
use Rattle.cell_library.specs.Lines.{TypeLine}
use Rattle.cell_library.specs.declared.line.Gives.{Gives}
use Rattle.cell_library.specs.declared.line.Gives.TheVariants as gives
use Rattle.cell_library.specs.declared.written.Setting.{Setting as Given}
use Rattle.rtlil_signals.specs.Signals.{Scope}
use Rattle.rtlil_tree.specs.declared.module.Assignment.{Assignment}
use Rattle.rtlil_tree.specs.declared.module.Attribute.{Attribute}
use Rattle.rtlil_tree.specs.declared.module.Cell.{Cell}
use Rattle.rtlil_tree.specs.declared.module.Setting.{Setting}
use Rattle.rtlil_tree.specs.declared.module.Statement.{Statement}
use Rattle.rtlil_tree.specs.declared.module.Statement.TheVariants as statement
use Rattle.design_parts.specs.Parts.{Made, both_made, give, nothing, run}
use Rattle.design_wires.specs.Connects.{connect, connect_checks, connect_made}
use Rattle.design_wires.specs.Places.{InstancePlace, ShownPlace}
use Rattle.design_wires.specs.Texts.{const_bytes, if_text}
use Rattle.design_wires.specs.Wires.{named, scope_of, wire, wire_checks, wire_in, wire_items, wire_made, wire_net, wires}
use Rattle.design_cells.specs.Cells as cells
use Rattle.design_cells.specs.Cells.{library_cell, made_by}
use Rattle.design_cells.specs.Joined.{Joined, joined_in, settings_of}
use Rattle.design_cells.specs.Rules.{has_room, kind_checks, located}
use Rattle.design_memory.specs.Memories as memories
use Rattle.design_memory.specs.Memories.{memory, memory_items, memory_made}
use Rattle.design_memory.specs.Rules.{memory_checks}
use Rattle.design_memory.specs.Settings.{identifier_in, if_identifier, is_name_byte, is_shown_identifier, item_identifier, setting_at, shape_of, values_of}
use Rattle.design_memory.specs.declared.names.Parameter.TheVariants as parameter
use Rattle.design_diagnostics.specs.Diagnostics as diagnostics
use Rattle.design_diagnostics.specs.Diagnostics.{silent_cell, silent_made}
use Rattle.design_diagnostics.specs.Readings.{cell_text, reading_of}
use Rattle.design_diagnostics.specs.Rules.{silent_checks}
use Rattle.design_diagnostics.specs.declared.names.SilentType.{SilentType}
use Rattle.design_diagnostics.specs.declared.reading.Reading.{Reading}
use Rattle.design_valid.proofs.Keeping.{keeps_nothing, run_given, run_guarded, run_parts}
use Rattle.design_valid_walk.proofs.Walking.{Each}
use Rattle.design_valid_names.proofs.Owned.{Own, Fresh, Spaceless, Taken, own_more, some_more, wire_owned}
use Rattle.rtlil_names.specs.Names.{has_no_space}

-- a part adds no items
abbrev pub SameItems : Made → Made → Type 0
SameItems m n = n.items ≡ m.items

nothing_same : (m n : Made) → run nothing m ≡ Ok n → SameItems m n
nothing_same m n e = keeps_nothing (SameItems m) m n e refl

pub connect_same : (owner : List ℕ) (scope : Scope) (a : Assignment) (m n : Made) → run (connect owner scope a) m ≡ Ok n → SameItems m n
unfolding connect
connect_same owner scope a m n e =
    let made = connect_made scope a in
    ap (λ (x : Made). x.items) (run_given (λ _. made) m n (run_guarded (λ _. connect_checks owner scope a) (give (λ _. made)) m n e).1) ∙ append-nil m.items

gives_same : (l : TypeLine) (ss : List Setting) (settings : List Given) (js : List Joined) (m : Made) (g : Gives) → SameItems m (both_made m (made_by g l ss settings js m))
gives_same l ss settings js m (gives.Cell o) = append-nil m.items
gives_same l ss settings js m (gives.Register k) = append-nil m.items

pub library_same : (owner : List ℕ) (scope : Scope) (l : TypeLine) (c : Cell) (m n : Made) → run (library_cell owner scope l c) m ≡ Ok n → SameItems m n
unfolding cells.taken
library_same owner scope l c m n e =
    let settings : List Given = settings_of c.settings in
    let js : List Joined = joined_in scope c.connections in
    let make : Made → Made = made_by l.gives l c.settings settings js in
    let parts = run_guarded (λ x. located owner c.name (kind_checks l settings js (has_room x))) (give make) m n e in
    ap (λ (x : Made). x.items) (run_given make m n parts.1) ∙ gives_same l c.settings settings js m l.gives

silent_none : (r : Option Reading) (text : List ℕ) (attributes : List Attribute) (ss : List Setting) (js : List Joined) (m : Made) → SameItems m (both_made m (silent_made r text attributes ss js))
silent_none None text attributes ss js m = append-nil m.items
silent_none (Some r) text attributes ss js m = append-nil m.items

pub silent_same : (here : InstancePlace) (scope : Scope) (t : SilentType) (c : Cell) (m n : Made) → run (silent_cell here scope t c) m ≡ Ok n → SameItems m n
unfolding diagnostics.taken
silent_same here scope t c m n e =
    let r : Option Reading = reading_of t c.settings in
    let js : List Joined = joined_in scope c.connections in
    let made : Made = silent_made r (cell_text here c.name) c.attributes c.settings js in
    let parts = run_guarded (silent_checks here c.name r c.settings js) (give (λ _. made)) m n e in
    ap (λ (x : Made). x.items) (run_given (λ _. made) m n parts.1) ∙ silent_none r (cell_text here c.name) c.attributes c.settings js m

pub memory_adds : (here : InstancePlace) (scope : Scope) (c : Cell) (m n : Made) → run (memory here scope c) m ≡ Ok n → n.items ≡ m.items ++ memory_items here.shown (length m.mems) (item_identifier c.settings) c.attributes
unfolding memories.taken
memory_adds here scope c m n e =
    let js : List Joined = joined_in scope c.connections in
    let make : Made → Made = memory_made here.shown (item_identifier c.settings) c.attributes (shape_of c.settings) (values_of c.settings) js in
    let parts = run_guarded (memory_checks here c.name c.settings c.connections js) (give make) m n e in
    ap (λ (x : Made). x.items) (run_given make m n parts.1)

-- ---- identifiers of memories have no space

last_of : (a b c d e : Bool) → not (a || (b || (c || (d || e)))) ≡ true → not e ≡ true
last_of a b c d false h = refl
last_of true b c d true h = cc h
last_of false true c d true h = cc h
last_of false false true d true h = cc h
last_of false false false true true h = cc h
last_of false false false false true h = cc h

bytes_spaceless : (name : List ℕ) → list_all is_name_byte name ≡ true → has_no_space name ≡ true
bytes_spaceless name h = all_mono is_name_byte (λ c. not (c == 32)) name (λ c e. last_of (c == 0) (c == 9) (c == 10) (c == 13) (c == 32) e) h

pub less_spaceless : (name : List ℕ) → has_no_space name ≡ true → has_no_space (drop 1 name) ≡ true
less_spaceless [] h = h
less_spaceless (c ∷ name) h = (and_parts (not (c == 32)) (has_no_space name) h).1

shown_spaceless : (bytes name : List ℕ) → if_identifier bytes ≡ Some name → has_no_space name ≡ true
shown_spaceless bytes name e = it (is_shown_identifier bytes) refl e
  where
    it : (b : Bool) → is_shown_identifier bytes ≡ b → cond b (Some bytes) None ≡ Some name → has_no_space name ≡ true
    it true is k = let same : bytes ≡ name = cc k in ap has_no_space (sym same) ∙ bytes_spaceless bytes (and_parts _ (list_all is_name_byte bytes) (and_parts _ _ is).1).1
    it false is k = cc k

text_spaceless : (bytes name : List ℕ) → option_and_then if_identifier (if_text bytes) ≡ Some name → has_no_space name ≡ true
text_spaceless bytes name e = it (is_utf8 bytes) e
  where
    it : (b : Bool) → option_and_then if_identifier (cond b (Some bytes) None) ≡ Some name → has_no_space name ≡ true
    it true k = shown_spaceless bytes name k
    it false k = cc k

bytes_identifier : (o : Option (List ℕ)) (name : List ℕ) → option_and_then if_identifier (option_and_then if_text o) ≡ Some name → has_no_space name ≡ true
bytes_identifier None name e = cc e
bytes_identifier (Some bytes) name e = text_spaceless bytes name e

setting_identifier : (o : Option Setting) (name : List ℕ) → identifier_in o ≡ Some name → has_no_space name ≡ true
setting_identifier None name e = cc e
setting_identifier (Some s) name e = bytes_identifier (const_bytes s.value) name e

pub identifier_spaceless : (ss : List Setting) (name : List ℕ) → item_identifier ss ≡ Some name → has_no_space name ≡ true
identifier_spaceless ss name e = setting_identifier (setting_at ss parameter.MemId) name e

-- ---- wires

net_count : (here : InstancePlace) (earlier : Scope) (s : Statement) (m n : Made) → run (wire_in here earlier s) m ≡ Ok n → length n.nets ≡ length m.nets + length (named (length m.nets) s)
unfolding wire_in wire
net_count here earlier (statement.Wire w) m n e = ap (λ (x : Made). length x.nets) (run_given (wire_made here w) m n (run_guarded (wire_checks here earlier w) (give (wire_made here w)) m n e).1) ∙ length-append m.nets (wire_net here w ∷ [])
net_count here earlier (statement.Parameter _) m n e = keeps_nothing (λ x. length x.nets ≡ length m.nets + 0) m n e (omega arith)
net_count here earlier (statement.Memory _) m n e = keeps_nothing (λ x. length x.nets ≡ length m.nets + 0) m n e (omega arith)
net_count here earlier (statement.Cell _) m n e = keeps_nothing (λ x. length x.nets ≡ length m.nets + 0) m n e (omega arith)
net_count here earlier (statement.Connect _) m n e = keeps_nothing (λ x. length x.nets ≡ length m.nets + 0) m n e (omega arith)
net_count here earlier (statement.Process _) m n e = keeps_nothing (λ x. length x.nets ≡ length m.nets + 0) m n e (omega arith)

module _ (here : InstancePlace) (place : ShownPlace) (shown : here.shown ≡ Some place) (start : Made) (fresh : Fresh place.prefix start) (Branch : List ℕ → Type 0) where
  abbrev Owns : Scope → Made → Type 0
  Owns scope m = Own place.prefix start (Taken scope []) Branch m

  same_owned : (earlier : Scope) (m n : Made) → run nothing m ≡ Ok n → Owns earlier m → Owns (earlier ++ []) n
  same_owned earlier m n e h = own_more place.prefix start (Taken earlier []) Branch (Taken (earlier ++ []) []) Branch stay (λ c b. b) m n (nothing_same m n e) h
    where
      stay : (v : List ℕ) → Taken earlier [] v → Taken (earlier ++ []) [] v
      stay v (inl t) = inl (some_more earlier [] (92 ∷ v) t)
      stay v (inr t) = inr t

  one_owned : (earlier : Scope) (s : Statement) (m n : Made) → Spaceless s → run (wire_in here earlier s) m ≡ Ok n → Owns earlier m → Owns (earlier ++ named (length m.nets) s) n
  unfolding wire_in
  one_owned earlier (statement.Wire w) m n text e h = wire_owned here place shown start fresh Branch earlier w m n text e h
  one_owned earlier (statement.Parameter _) m n text e h = same_owned earlier m n e h
  one_owned earlier (statement.Memory _) m n text e h = same_owned earlier m n e h
  one_owned earlier (statement.Cell _) m n text e h = same_owned earlier m n e h
  one_owned earlier (statement.Connect _) m n text e h = same_owned earlier m n e h
  one_owned earlier (statement.Process _) m n text e h = same_owned earlier m n e h

  pub wires_owned : (earlier : Scope) (ss : List Statement) (m n : Made) → Each Spaceless ss → run (wires here earlier ss) m ≡ Ok n → Owns earlier m → Owns (earlier ++ scope_of (length m.nets) ss) n
  unfolding wires run
  wires_owned earlier [] m n text e h = same_owned earlier m n e h
  wires_owned earlier (s ∷ ss) m n text e h =
      let k : ℕ = length m.nets in
      let next : Scope = earlier ++ named k s in
      let parts = run_parts (wire_in here earlier s) (wires here next ss) m n e in
      let count = net_count here earlier s m parts.0 parts.1 in
      let whole : next ++ scope_of (length parts.0.nets) ss ≡ earlier ++ (named k s ++ scope_of (k + length (named k s)) ss) = ap (λ (j : ℕ). next ++ scope_of j ss) count ∙ append_assoc earlier (named k s) (scope_of (k + length (named k s)) ss) in
      subst (λ (x : Scope). Owns x n) whole (wires_owned next ss parts.0 n text.1 parts.2 (one_owned earlier s m parts.0 text.0 parts.1 h))

-- where nothing is shown
one_hidden : (here : InstancePlace) → here.shown ≡ None → (earlier : Scope) (s : Statement) (m n : Made) → run (wire_in here earlier s) m ≡ Ok n → SameItems m n
unfolding wire_in wire
one_hidden here hidden earlier (statement.Wire w) m n e =
    ap (λ (x : Made). x.items) (run_given (wire_made here w) m n (run_guarded (wire_checks here earlier w) (give (wire_made here w)) m n e).1)
    ∙ ap (λ (o : Option ShownPlace). m.items ++ wire_items o (length m.nets) w) hidden ∙ append-nil m.items
one_hidden here hidden earlier (statement.Parameter _) m n e = nothing_same m n e
one_hidden here hidden earlier (statement.Memory _) m n e = nothing_same m n e
one_hidden here hidden earlier (statement.Cell _) m n e = nothing_same m n e
one_hidden here hidden earlier (statement.Connect _) m n e = nothing_same m n e
one_hidden here hidden earlier (statement.Process _) m n e = nothing_same m n e

pub wires_hidden : (here : InstancePlace) → here.shown ≡ None → (earlier : Scope) (ss : List Statement) (m n : Made) → run (wires here earlier ss) m ≡ Ok n → SameItems m n
unfolding wires run
wires_hidden here hidden earlier [] m n e = nothing_same m n e
wires_hidden here hidden earlier (s ∷ ss) m n e =
    let next : Scope = earlier ++ named (length m.nets) s in
    let parts = run_parts (wire_in here earlier s) (wires here next ss) m n e in
    wires_hidden here hidden next ss parts.0 n parts.2 ∙ one_hidden here hidden earlier s m parts.0 parts.1
