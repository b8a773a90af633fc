-- The statements of an instance that is shown, and of one that is not.
use Rattle.std.proofs.Common.{◌≡◌, ℕ, ◌||◌, not, cond, List, [], ◌∷◌, ◌++◌, drop, length, append-nil, Bool, true, false, Option, Some, None, Ok, refl, sym, ap, ◌∙◌, subst, inl, inr, bytes_eq, codes}
use Rattle.std.specs.Option.{is_some}
use Rattle.circuit.specs.Built.{AreNamesApart}
use Rattle.circuit.specs.declared.item.Item.{Item}
use Rattle.cell_library.specs.Lines.{TypeLine}
use Rattle.cell_library.specs.Table.{line_of}
use Rattle.rtlil_signals.specs.Signals.{net_named}
use Rattle.rtlil_tree.specs.declared.module.Cell.{Cell}
use Rattle.rtlil_tree.specs.declared.module.Module.{Module}
use Rattle.rtlil_tree.specs.declared.module.Statement.{Statement}
use Rattle.rtlil_tree.specs.declared.module.Statement.TheVariants as statement
use Rattle.design_parts.specs.Parts.{Made, nothing, run}
use Rattle.design_wires.specs.Places.{ShownPlace}
use Rattle.design_wires.specs.Wires.{is_public, shown_name}
use Rattle.design_memory.specs.Memories.{memory_item, memory_items}
use Rattle.design_memory.specs.Settings.{item_identifier}
use Rattle.design_diagnostics.specs.Names.{type_named}
use Rattle.design_diagnostics.specs.declared.names.SilentType.{SilentType}
use Rattle.design_names.specs.Clashes.{cell_item, cells_clash, item_clashes, items_clash, items_of, repeats, with_item}
use Rattle.design_names.specs.Names.{Names, has, with_name}
use Rattle.design_walk.specs.Cells.{clash_checks, of_line, of_memory, of_silent, or_else, typed_cell}
use Rattle.design_walk.specs.Instances.{instance_checks, shown_within}
use Rattle.design_walk.specs.Modules.{module_named}
use Rattle.design_walk.specs.Walks.{Down, Standing, cell, clash_flags, down_into, instance, step, steps, typed_or}
use Rattle.design_valid.proofs.Keeping.{holds_at, keeps_nothing, run_guarded, run_parts}
use Rattle.design_valid_walk.proofs.Walking.{Each}
use Rattle.design_valid_names.proofs.Leaves.{SameItems, connect_same, identifier_spaceless, less_spaceless, library_same, memory_adds, silent_same}
use Rattle.design_valid_names.proofs.Owned.{Ends, Fresh, Own, Placed, Spaceless, Taken, has_more, has_new, is_none, item_name, new_placed, now_placed, own_leaf, own_more, public_is}
use Rattle.design_valid_names.proofs.Owning.{owns_branch, owns_to_left}
use Rattle.rtlil_names.specs.Names.{has_no_space}

-- what an instance leaves: items of its own, each with another name, or none where it is not shown
abbrev pub Outcome : Option ShownPlace → Made → Made → Type 0
Outcome None before behind = SameItems before behind
Outcome (Some s) before behind = Fresh s.prefix before → AreNamesApart before.items → Ends s.prefix before behind

abbrev pub Returns : List Module → Down → Type 0
Returns ms down = (around : Standing) (c : Cell) (m : Module) (before behind : Made) → module_named ms c.kind ≡ Some m → run (down around c m) before ≡ Ok behind → Outcome (shown_within around.place.shown c.name (length before.scopes)) before behind

pub both_false : (a b : Bool) → (a || b) ≡ false → (a ≡ false) × (b ≡ false)
both_false true b h = cc h
both_false false b h = (refl, h)

pub off : (b : Bool) → not b ≡ true → b ≡ false
off true h = cc h
off false h = refl

module _ (ms : List Module) (down : Down) (returns : Returns ms down) (here : Standing) where
  -- ---- an instance that is shown

  module _ (place : ShownPlace) (shown : here.place.shown ≡ Some place) (start : Made) (fresh : Fresh place.prefix start) where
    abbrev Owns : Names → Names → Made → Type 0
    Owns placed taken m = Own place.prefix start (Taken here.scope taken) (Placed placed) m

    taken_more : (taken : Names) (o : Option (List ℕ)) (u : List ℕ) → Taken here.scope taken u → Taken here.scope (with_item taken o) u
    taken_more taken None u h = h
    taken_more taken (Some name) u (inl h) = inl h
    taken_more taken (Some name) u (inr h) = inr (has_more taken name (92 ∷ u) h)

    same_owns : (placed taken : Names) (name : List ℕ) (o : Option (List ℕ)) (m n : Made) → SameItems m n → Owns placed taken m → Owns (with_name placed name) (with_item taken o) n
    same_owns placed taken name o m n same h =
        own_more place.prefix start (Taken here.scope taken) (Placed placed) (Taken here.scope (with_item taken o)) (Placed (with_name placed name)) (taken_more taken o) (λ c b. has_more placed name (92 ∷ c) b) m n same h

    memory_owns : (placed taken : Names) (c : Cell) (o : Option (List ℕ)) (m n : Made) → item_identifier c.settings ≡ o → item_clashes here.scope taken o ≡ false → n.items ≡ m.items ++ memory_items (Some place) (length m.mems) o c.attributes
        → Owns placed taken m → Owns (with_name placed c.name) (with_item taken o) n
    memory_owns placed taken c None m n is free items h = same_owns placed taken c.name None m n (items ∙ append-nil m.items) h
    memory_owns placed taken c (Some name) m n is free items h = it (is_public name) refl items
      where
        untaken : is_some (net_named here.scope name) ≡ false → has taken name ≡ false → name ≡ 92 ∷ drop 1 name → Taken here.scope taken (drop 1 name) → ⊥
        untaken f g spelt (inl t) = is_none (is_some (net_named here.scope name)) f (ap (λ (x : List ℕ). is_some (net_named here.scope x)) spelt ∙ t)
        untaken f g spelt (inr t) = is_none (has taken name) g (ap (has taken) spelt ∙ t)

        it : (b : Bool) → is_public name ≡ b → n.items ≡ m.items ++ cond b (memory_item place (length m.mems) name c.attributes ∷ []) [] → Owns (with_name placed c.name) (with_item taken (Some name)) n
        it false p items = same_owns placed taken c.name (Some name) m n (items ∙ append-nil m.items) h
        it true p items =
            let u : List ℕ = drop 1 name in
            let spelt : name ≡ 92 ∷ u = public_is name p in
            let both = both_false (is_some (net_named here.scope name)) (has taken name) free in
            let new : Item = memory_item place (length m.mems) name c.attributes in
            let wider = own_more place.prefix start (Taken here.scope taken) (Placed placed) (Taken here.scope taken) (Placed (with_name placed c.name)) (λ v t. t) (λ d b. has_more placed c.name (92 ∷ d) b) m m refl h in
            own_leaf place.prefix start (Taken here.scope taken) (Placed (with_name placed c.name)) (Taken here.scope (with_name taken name)) fresh u (less_spaceless name (identifier_spaceless c.settings name is))
            (untaken both.0 both.1 spelt) (taken_more taken (Some name)) (inr (ap (has (with_name taken name)) (sym spelt) ∙ has_new taken name)) m n new items refl wider

    -- an instance in it
    into_owns : (placed taken : Names) (c : Cell) (o : Option (List ℕ)) (m n : Made) → has_no_space (drop 1 c.name) ≡ true → has placed c.name ≡ false → Outcome (shown_within (Some place) c.name (length m.scopes)) m n → Owns placed taken m → Owns (with_name placed c.name) (with_item taken o) n
    into_owns placed taken c o m n text free out h = it (is_public c.name) refl out
      where
        it : (b : Bool) → is_public c.name ≡ b → Outcome (cond b (Some (record { prefix = shown_name place c.name ++ 32 ∷ []; scope = length m.scopes })) None) m n → Owns (with_name placed c.name) (with_item taken o) n
        it false p same = same_owns placed taken c.name o m n same h
        it true p ends =
            owns_branch item_name place.prefix start.items (Taken here.scope taken) (Placed placed) (Taken here.scope (with_item taken o)) (Placed (with_name placed c.name)) (taken_more taken o) (λ d b. has_more placed c.name (92 ∷ d) b) fresh (drop 1 c.name) text
            (new_placed placed c.name p free) (now_placed placed c.name p) m.items n.items ends h

    instance_owns : (placed taken : Names) (c : Cell) (o : Option (List ℕ)) (m n : Made) → has_no_space (drop 1 c.name) ≡ true → has placed c.name ≡ false → run (instance down ms here c) m ≡ Ok n → Owns placed taken m → Owns (with_name placed c.name) (with_item taken o) n
    unfolding instance
    instance_owns placed taken c o m n text free e h =
        it (module_named ms c.kind) refl (run_guarded (instance_checks ms here.ancestors here.place.owner here.scope c) (down_into (module_named ms c.kind) (down here c)) m n e).1
      where
        it : (k : Option Module) → module_named ms c.kind ≡ k → run (down_into k (down here c)) m ≡ Ok n → Owns (with_name placed c.name) (with_item taken o) n
        it None is ran = same_owns placed taken c.name o m n (keeps_nothing (SameItems m) m n ran refl) h
        it (Some md) is ran =
            into_owns placed taken c o m n text free (subst (λ (s : Option ShownPlace). Outcome (shown_within s c.name (length m.scopes)) m n) shown (returns here c md m n is ran)) h

    typed_owns : (placed taken : Names) (c : Cell) (m n : Made) → has_no_space (drop 1 c.name) ≡ true → has placed c.name ≡ false → item_clashes here.scope taken (cell_item c) ≡ false → run (typed_or (typed_cell here.place here.scope c) (instance down ms here c)) m ≡ Ok n
        → Owns placed taken m → Owns (with_name placed c.name) (with_item taken (cell_item c)) n
    unfolding typed_cell
    typed_owns placed taken c m n text free item e h = it (line_of c.kind) (bytes_eq c.kind (codes "$mem_v2")) refl (type_named c.kind) e
      where
        it : (line : Option TypeLine) (b : Bool) → bytes_eq c.kind (codes "$mem_v2") ≡ b → (t : Option SilentType) → run (typed_or (or_else (of_line here.place here.scope c line) (or_else (of_memory here.place here.scope c b) (of_silent here.place here.scope c t))) (instance down ms here c)) m ≡ Ok n
            → Owns (with_name placed c.name) (with_item taken (cell_item c)) n
        it (Some l) b is t ran = same_owns placed taken c.name (cell_item c) m n (library_same here.place.owner here.scope l c m n ran) h
        it None true is t ran =
            let same : cell_item c ≡ item_identifier c.settings = ap (λ (x : Bool). cond x (item_identifier c.settings) None) is in
            subst (λ (o : Option (List ℕ)). Owns (with_name placed c.name) (with_item taken o) n) (sym same)
            (memory_owns placed taken c (item_identifier c.settings) m n refl (ap (item_clashes here.scope taken) (sym same) ∙ item)
            (memory_adds here.place here.scope c m n ran ∙ ap (λ (s : Option ShownPlace). m.items ++ memory_items s (length m.mems) (item_identifier c.settings) c.attributes) shown) h)
        it None false is (Some t) ran = same_owns placed taken c.name (cell_item c) m n (silent_same here.place here.scope t c m n ran) h
        it None false is None ran = instance_owns placed taken c (cell_item c) m n text free ran h

    cell_owns : (placed taken : Names) (c : Cell) (m n : Made) → has_no_space (drop 1 c.name) ≡ true → run (cell down ms here ((has placed c.name || repeats c) || item_clashes here.scope taken (cell_item c)) c) m ≡ Ok n
        → Owns placed taken m → Owns (with_name placed c.name) (with_item taken (cell_item c)) n
    unfolding cell
    cell_owns placed taken c m n text e h =
        let clash : Bool = (has placed c.name || repeats c) || item_clashes here.scope taken (cell_item c) in
        let parts = run_guarded (λ _. clash_checks here.place.owner clash c) (typed_or (typed_cell here.place here.scope c) (instance down ms here c)) m n e in
        let none = off clash (holds_at (clash_checks here.place.owner clash c) 0 _ parts.0 refl) in
        let both = both_false (has placed c.name || repeats c) (item_clashes here.scope taken (cell_item c)) none in
        typed_owns placed taken c m n text (both_false (has placed c.name) (repeats c) both.0).0 both.1 parts.1 h

    same_still : (placed taken : Names) (m n : Made) → SameItems m n → Owns placed taken m → Owns placed taken n
    same_still placed taken m n same h = own_more place.prefix start (Taken here.scope taken) (Placed placed) (Taken here.scope taken) (Placed placed) (λ u t. t) (λ c b. b) m n same h

    pub steps_own : (placed taken : Names) (ss : List Statement) (m n : Made) → Each Spaceless ss → run (steps down ms here (clash_flags (cells_clash placed ss) (items_clash here.scope taken (items_of ss))) ss) m ≡ Ok n → Owns placed taken m → Ends place.prefix start n
    unfolding steps clash_flags cells_clash items_clash step
    steps_own placed taken [] m n text e h = owns_to_left item_name place.prefix start.items (Taken here.scope taken) (Placed placed) n.items (same_still placed taken m n (keeps_nothing (SameItems m) m n e refl) h)
    steps_own placed taken (statement.Cell c ∷ ss) m n text e h =
        let flag : Bool = (has placed c.name || repeats c) || item_clashes here.scope taken (cell_item c) in
        let parts = run_parts (cell down ms here flag c) (steps down ms here (clash_flags (cells_clash (with_name placed c.name) ss) (items_clash here.scope (with_item taken (cell_item c)) (items_of ss))) ss) m n e in
        steps_own (with_name placed c.name) (with_item taken (cell_item c)) ss parts.0 n text.1 parts.2 (cell_owns placed taken c m parts.0 text.0 parts.1 h)
    steps_own placed taken (statement.Connect a ∷ ss) m n text e h =
        let parts = run_parts (step down ms here false (statement.Connect a)) (steps down ms here (clash_flags (cells_clash placed ss) (items_clash here.scope taken (items_of ss))) ss) m n e in
        steps_own placed taken ss parts.0 n text.1 parts.2 (same_still placed taken m parts.0 (connect_same here.place.owner here.scope a m parts.0 parts.1) h)
    steps_own placed taken (statement.Wire w ∷ ss) m n text e h =
        let parts = run_parts nothing (steps down ms here (clash_flags (cells_clash placed ss) (items_clash here.scope taken (items_of ss))) ss) m n e in
        steps_own placed taken ss parts.0 n text.1 parts.2 (same_still placed taken m parts.0 (keeps_nothing (SameItems m) m parts.0 parts.1 refl) h)
    steps_own placed taken (statement.Parameter w ∷ ss) m n text e h =
        let parts = run_parts nothing (steps down ms here (clash_flags (cells_clash placed ss) (items_clash here.scope taken (items_of ss))) ss) m n e in
        steps_own placed taken ss parts.0 n text.1 parts.2 (same_still placed taken m parts.0 (keeps_nothing (SameItems m) m parts.0 parts.1 refl) h)
    steps_own placed taken (statement.Memory w ∷ ss) m n text e h =
        let parts = run_parts nothing (steps down ms here (clash_flags (cells_clash placed ss) (items_clash here.scope taken (items_of ss))) ss) m n e in
        steps_own placed taken ss parts.0 n text.1 parts.2 (same_still placed taken m parts.0 (keeps_nothing (SameItems m) m parts.0 parts.1 refl) h)
    steps_own placed taken (statement.Process w ∷ ss) m n text e h =
        let parts = run_parts nothing (steps down ms here (clash_flags (cells_clash placed ss) (items_clash here.scope taken (items_of ss))) ss) m n e in
        steps_own placed taken ss parts.0 n text.1 parts.2 (same_still placed taken m parts.0 (keeps_nothing (SameItems m) m parts.0 parts.1 refl) h)

  -- ---- an instance that is not shown

  module _ (hidden : here.place.shown ≡ None) where
    instance_hidden : (c : Cell) (m n : Made) → run (instance down ms here c) m ≡ Ok n → SameItems m n
    unfolding instance
    instance_hidden c m n e = it (module_named ms c.kind) refl (run_guarded (instance_checks ms here.ancestors here.place.owner here.scope c) (down_into (module_named ms c.kind) (down here c)) m n e).1
      where
        it : (k : Option Module) → module_named ms c.kind ≡ k → run (down_into k (down here c)) m ≡ Ok n → SameItems m n
        it None is ran = keeps_nothing (SameItems m) m n ran refl
        it (Some md) is ran = subst (λ (s : Option ShownPlace). Outcome (shown_within s c.name (length m.scopes)) m n) hidden (returns here c md m n is ran)

    cell_hidden : (clash : Bool) (c : Cell) (m n : Made) → run (cell down ms here clash c) m ≡ Ok n → SameItems m n
    unfolding cell typed_cell
    cell_hidden clash c m n e =
        it (line_of c.kind) (bytes_eq c.kind (codes "$mem_v2")) (type_named c.kind)
        (run_guarded (λ _. clash_checks here.place.owner clash c) (typed_or (typed_cell here.place here.scope c) (instance down ms here c)) m n e).1
      where
        it : (line : Option TypeLine) (b : Bool) (t : Option SilentType) → run (typed_or (or_else (of_line here.place here.scope c line) (or_else (of_memory here.place here.scope c b) (of_silent here.place here.scope c t))) (instance down ms here c)) m ≡ Ok n → SameItems m n
        it (Some l) b t ran = library_same here.place.owner here.scope l c m n ran
        it None true t ran = memory_adds here.place here.scope c m n ran ∙ ap (λ (s : Option ShownPlace). m.items ++ memory_items s (length m.mems) (item_identifier c.settings) c.attributes) hidden ∙ append-nil m.items
        it None false (Some t) ran = silent_same here.place here.scope t c m n ran
        it None false None ran = instance_hidden c m n ran

    step_hidden : (b : Bool) (s : Statement) (m n : Made) → run (step down ms here b s) m ≡ Ok n → SameItems m n
    unfolding step
    step_hidden b (statement.Cell c) m n e = cell_hidden b c m n e
    step_hidden b (statement.Connect a) m n e = connect_same here.place.owner here.scope a m n e
    step_hidden b (statement.Wire w) m n e = keeps_nothing (SameItems m) m n e refl
    step_hidden b (statement.Parameter w) m n e = keeps_nothing (SameItems m) m n e refl
    step_hidden b (statement.Memory w) m n e = keeps_nothing (SameItems m) m n e refl
    step_hidden b (statement.Process w) m n e = keeps_nothing (SameItems m) m n e refl

    pub steps_hidden : (bs : List Bool) (ss : List Statement) (m n : Made) → run (steps down ms here bs ss) m ≡ Ok n → SameItems m n
    unfolding steps
    steps_hidden [] ss m n e = keeps_nothing (SameItems m) m n e refl
    steps_hidden (b ∷ bs) [] m n e = keeps_nothing (SameItems m) m n e refl
    steps_hidden (b ∷ bs) (s ∷ ss) m n e =
        let parts = run_parts (step down ms here b s) (steps down ms here bs ss) m n e in
        steps_hidden bs ss parts.0 n parts.2 ∙ step_hidden b s m parts.0 parts.1
