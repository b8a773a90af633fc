-- The scopes that the statements of an instance add, of one that is shown and of one that is not.
use Rattle.std.proofs.Common.{◌≡◌, ℕ, ◌||◌, List, [], ◌∷◌, ◌++◌, drop, length, Bool, true, false, Option, Some, None, Ok, refl, subst, ◌∙◌, ◌⊎◌, inl, inr}
use Rattle.std.specs.Prelude.{nat_lt}
use Rattle.circuit.specs.declared.item.Scope.{Scope as Shown}
use Rattle.rtlil_tree.specs.declared.module.Cell.{Cell}
use Rattle.rtlil_tree.specs.declared.module.Module.{Module}
use Rattle.rtlil_tree.specs.declared.module.Statement.{Statement}
use Rattle.rtlil_tree.specs.declared.module.Statement.TheVariants as statement
use Rattle.design_parts.specs.Parts.{Made, Walk, nothing, run}
use Rattle.design_wires.specs.Places.{ShownPlace}
use Rattle.design_wires.specs.Wires.{is_public, shown_name}
use Rattle.design_names.specs.Clashes.{cells_clash, repeats}
use Rattle.design_names.specs.Names.{Names, has, with_name}
use Rattle.design_walk.specs.Cells.{clash_checks, typed_cell}
use Rattle.design_walk.specs.Instances.{instance_checks}
use Rattle.design_walk.specs.Modules.{module_named}
use Rattle.design_walk.specs.Walks.{Down, Standing, cell, clash_flags, down_into, instance, step, steps, typed_or}
use Rattle.design_wires.specs.Connects.{connect}
use Rattle.design_valid.proofs.Keeping.{holds_at, run_guarded, run_parts}
use Rattle.design_valid_walk.proofs.Walking.{Each}
use Rattle.rtlil_names.specs.Names.{has_no_space, is_named}
use Rattle.design_valid_names.proofs.Adding.{AreApart}
use Rattle.design_valid_names.proofs.Owned.{Placed, Spaceless, has_more, new_placed, now_placed}
use Rattle.design_valid_names.proofs.Owning.{AreOthers, Left, Owns, owns_branch, owns_leaf, owns_more, owns_to_left}
use Rattle.design_valid_names.proofs.Stepping.{both_false, off}
use Rattle.design_valid_scopes.proofs.Same.{AddsNone, SameScopes, connect_same, nothing_same, typed_same}

abbrev pub scope_name : Shown → List ℕ
scope_name s = s.name

abbrev pub Longer : Statement → Type 0
Longer s = is_named s ≡ true

-- a cell before it has this name; the empty name is the top's
abbrev pub Entered : Names → List ℕ → Type 0
Entered placed u = (u ≡ []) ⊎ Placed placed u

longer_named : (name : List ℕ) → nat_lt 1 (length name) ≡ true → drop 1 name ≡ [] → ⊥
longer_named [] h e = cc h
longer_named (b ∷ []) h e = cc h
longer_named (b ∷ (c ∷ name)) h e = cc e

-- what an instance leaves: nothing, or the scope of its name with those of the instances in it
abbrev pub Outcome : Option ShownPlace → List ℕ → Bool → Made → Made → Type 0
Outcome None name public before behind = SameScopes before behind
Outcome (Some place) name false before behind = SameScopes before behind
Outcome (Some place) name true before behind =
    SameScopes before behind
    ⊎ ((new : Shown) × (new.name ≡ shown_name place name) × (AreOthers scope_name (shown_name place name ++ 32 ∷ []) (before.scopes ++ new ∷ []) → AreApart scope_name (before.scopes ++ new ∷ [])
    → Left scope_name (shown_name place name ++ 32 ∷ []) (before.scopes ++ new ∷ []) behind.scopes))

abbrev pub Returns : List Module → Down → Type 0
Returns ms down = (around : Standing) (c : Cell) (m : Module) (before behind : Made) → module_named ms c.kind ≡ Some m → run (down around c m) before ≡ Ok behind → Outcome around.place.shown c.name (is_public c.name) before behind

module _ (ms : List Module) (down : Down) (returns : Returns ms down) (here : Standing) where
  -- ---- an instance that is shown

  module _ (place : ShownPlace) (shown : here.place.shown ≡ Some place) (start : List Shown) (others : AreOthers scope_name place.prefix start) where
    abbrev Holds : Names → Made → Type 0
    Holds placed m = Owns scope_name place.prefix start (Entered placed) (Placed placed) m.scopes

    entered_more : (placed : Names) (name : List ℕ) (u : List ℕ) → Entered placed u → Entered (with_name placed name) u
    entered_more placed name u (inl h) = inl h
    entered_more placed name u (inr h) = inr (has_more placed name (92 ∷ u) h)

    same_holds : (placed : Names) (name : List ℕ) (m n : Made) → SameScopes m n → Holds placed m → Holds (with_name placed name) n
    same_holds placed name m n same h =
        owns_more scope_name place.prefix start (Entered placed) (Placed placed) (Entered (with_name placed name)) (Placed (with_name placed name)) (entered_more placed name) (λ d b. has_more placed name (92 ∷ d) b) m.scopes n.scopes same h

    into_holds : (placed : Names) (c : Cell) (m n : Made) → has_no_space (drop 1 c.name) ≡ true → Longer (statement.Cell c) → has placed c.name ≡ false → Outcome (Some place) c.name (is_public c.name) m n → Holds placed m → Holds (with_name placed c.name) n
    into_holds placed c m n text long free out h = it (is_public c.name) refl out
      where
        unentered : is_public c.name ≡ true → Entered placed (drop 1 c.name) → ⊥
        unentered p (inl none) = longer_named c.name long none
        unentered p (inr b) = new_placed placed c.name p free b

        it : (b : Bool) → is_public c.name ≡ b → Outcome (Some place) c.name b m n → Holds (with_name placed c.name) n
        it false p same = same_holds placed c.name m n same h
        it true p (inl same) = same_holds placed c.name m n same h
        it true p (inr new) =
            let more : Names = with_name placed c.name in
            let entered : List Shown = m.scopes ++ new.0 ∷ [] in
            let one =
            owns_leaf scope_name place.prefix start (Entered placed) (Placed placed) (Entered more) (Placed placed) (entered_more placed c.name) (λ d b. b) others (drop 1 c.name) text (unentered p) (inr (now_placed placed c.name p)) m.scopes entered new.0 refl new.1 h in
            owns_branch scope_name place.prefix start (Entered more) (Placed placed) (Entered more) (Placed more) (λ u t. t) (λ d b. has_more placed c.name (92 ∷ d) b) others (drop 1 c.name) text (new_placed placed c.name p free) (now_placed placed c.name p) entered n.scopes new.2 one

    instance_holds : (placed : Names) (c : Cell) (m n : Made) → has_no_space (drop 1 c.name) ≡ true → Longer (statement.Cell c) → has placed c.name ≡ false → run (instance down ms here c) m ≡ Ok n → Holds placed m → Holds (with_name placed c.name) n
    unfolding instance
    instance_holds placed c m n text long free e h =
        it (module_named ms c.kind) refl (run_guarded (instance_checks ms here.ancestors here.place.owner here.scope c) (down_into (module_named ms c.kind) (down here c)) m n e).1
      where
        it : (k : Option Module) → module_named ms c.kind ≡ k → run (down_into k (down here c)) m ≡ Ok n → Holds (with_name placed c.name) n
        it None is ran = same_holds placed c.name m n (nothing_same m n ran) h
        it (Some md) is ran = into_holds placed c m n text long free (subst (λ (s : Option ShownPlace). Outcome s c.name (is_public c.name) m n) shown (returns here c md m n is ran)) h

    cell_holds : (placed : Names) (item : Bool) (c : Cell) (m n : Made) → has_no_space (drop 1 c.name) ≡ true → Longer (statement.Cell c) → run (cell down ms here ((has placed c.name || repeats c) || item) c) m ≡ Ok n → Holds placed m → Holds (with_name placed c.name) n
    unfolding cell
    cell_holds placed item c m n text long e h =
        let clash : Bool = (has placed c.name || repeats c) || item in
        let parts = run_guarded (λ _. clash_checks here.place.owner clash c) (typed_or (typed_cell here.place here.scope c) (instance down ms here c)) m n e in
        let none = off clash (holds_at (clash_checks here.place.owner clash c) 0 _ parts.0 refl) in
        it (typed_cell here.place here.scope c) refl (both_false (has placed c.name) (repeats c) (both_false (has placed c.name || repeats c) item none).0).0 parts.1
      where
        it : (o : Option Walk) → typed_cell here.place here.scope c ≡ o → has placed c.name ≡ false → run (typed_or o (instance down ms here c)) m ≡ Ok n → Holds (with_name placed c.name) n
        it (Some w) is free ran = same_holds placed c.name m n (typed_same here.place here.scope c w is m n ran) h
        it None is free ran = instance_holds placed c m n text long free ran h

    same_still : (placed : Names) (m n : Made) → SameScopes m n → Holds placed m → Holds placed n
    same_still placed m n same h = owns_more scope_name place.prefix start (Entered placed) (Placed placed) (Entered placed) (Placed placed) (λ u t. t) (λ d b. b) m.scopes n.scopes same h

    ends : (placed : Names) (m n : Made) → run nothing m ≡ Ok n → Holds placed m → Left scope_name place.prefix start n.scopes
    ends placed m n e h = owns_to_left scope_name place.prefix start (Entered placed) (Placed placed) n.scopes (same_still placed m n (nothing_same m n e) h)

    pub steps_hold : (placed : Names) (bs : List Bool) (ss : List Statement) (m n : Made) → Each Spaceless ss → Each Longer ss → run (steps down ms here (clash_flags (cells_clash placed ss) bs) ss) m ≡ Ok n → Holds placed m → Left scope_name place.prefix start n.scopes
    unfolding steps clash_flags cells_clash step
    steps_hold placed bs [] m n text long e h = ends placed m n e h
    steps_hold placed [] (s ∷ ss) m n text long e h = ends placed m n e h
    steps_hold placed (b ∷ bs) (statement.Cell c ∷ ss) m n text long e h =
        let parts = run_parts (cell down ms here ((has placed c.name || repeats c) || b) c) (steps down ms here (clash_flags (cells_clash (with_name placed c.name) ss) bs) ss) m n e in
        steps_hold (with_name placed c.name) bs ss parts.0 n text.1 long.1 parts.2 (cell_holds placed b c m parts.0 text.0 long.0 parts.1 h)
    steps_hold placed (b ∷ bs) (statement.Connect a ∷ ss) m n text long e h =
        let parts = run_parts (connect here.place.owner here.scope a) (steps down ms here (clash_flags (cells_clash placed ss) bs) ss) m n e in
        steps_hold placed bs ss parts.0 n text.1 long.1 parts.2 (same_still placed m parts.0 (connect_same here.place.owner here.scope a m parts.0 parts.1) h)
    steps_hold placed (b ∷ bs) (statement.Wire _ ∷ ss) m n text long e h =
        let parts = run_parts nothing (steps down ms here (clash_flags (cells_clash placed ss) bs) ss) m n e in
        steps_hold placed bs ss parts.0 n text.1 long.1 parts.2 (same_still placed m parts.0 (nothing_same m parts.0 parts.1) h)
    steps_hold placed (b ∷ bs) (statement.Parameter _ ∷ ss) m n text long e h =
        let parts = run_parts nothing (steps down ms here (clash_flags (cells_clash placed ss) bs) ss) m n e in
        steps_hold placed bs ss parts.0 n text.1 long.1 parts.2 (same_still placed m parts.0 (nothing_same m parts.0 parts.1) h)
    steps_hold placed (b ∷ bs) (statement.Memory _ ∷ ss) m n text long e h =
        let parts = run_parts nothing (steps down ms here (clash_flags (cells_clash placed ss) bs) ss) m n e in
        steps_hold placed bs ss parts.0 n text.1 long.1 parts.2 (same_still placed m parts.0 (nothing_same m parts.0 parts.1) h)
    steps_hold placed (b ∷ bs) (statement.Process _ ∷ ss) m n text long e h =
        let parts = run_parts nothing (steps down ms here (clash_flags (cells_clash placed ss) bs) ss) m n e in
        steps_hold placed bs ss parts.0 n text.1 long.1 parts.2 (same_still placed m parts.0 (nothing_same m parts.0 parts.1) h)

  -- ---- an instance that is not shown

  module _ (hidden : here.place.shown ≡ None) where
    instance_hidden : (c : Cell) → AddsNone (instance down ms here c)
    unfolding instance
    instance_hidden c m n e = it (module_named ms c.kind) refl (run_guarded (instance_checks ms here.ancestors here.place.owner here.scope c) (down_into (module_named ms c.kind) (down here c)) m n e).1
      where
        it : (k : Option Module) → module_named ms c.kind ≡ k → run (down_into k (down here c)) m ≡ Ok n → SameScopes m n
        it None is ran = nothing_same m n ran
        it (Some md) is ran = subst (λ (s : Option ShownPlace). Outcome s c.name (is_public c.name) m n) hidden (returns here c md m n is ran)

    cell_hidden : (clash : Bool) (c : Cell) → AddsNone (cell down ms here clash c)
    unfolding cell
    cell_hidden clash c m n e =
        it (typed_cell here.place here.scope c) refl (run_guarded (λ _. clash_checks here.place.owner clash c) (typed_or (typed_cell here.place here.scope c) (instance down ms here c)) m n e).1
      where
        it : (o : Option Walk) → typed_cell here.place here.scope c ≡ o → run (typed_or o (instance down ms here c)) m ≡ Ok n → SameScopes m n
        it (Some w) is ran = typed_same here.place here.scope c w is m n ran
        it None is ran = instance_hidden c m n ran

    step_hidden : (b : Bool) (s : Statement) → AddsNone (step down ms here b s)
    unfolding step
    step_hidden b (statement.Cell c) = cell_hidden b c
    step_hidden b (statement.Connect a) = connect_same here.place.owner here.scope a
    step_hidden b (statement.Wire _) = nothing_same
    step_hidden b (statement.Parameter _) = nothing_same
    step_hidden b (statement.Memory _) = nothing_same
    step_hidden b (statement.Process _) = nothing_same

    pub steps_hidden : (bs : List Bool) (ss : List Statement) → AddsNone (steps down ms here bs ss)
    unfolding steps
    steps_hidden [] ss m n e = nothing_same m n e
    steps_hidden (b ∷ bs) [] m n e = nothing_same m n e
    steps_hidden (b ∷ bs) (s ∷ ss) m n e =
        let parts = run_parts (step down ms here b s) (steps down ms here bs ss) m n e in
        steps_hidden bs ss parts.0 n parts.2 ∙ step_hidden b s m parts.0 parts.1
