-- The scopes of a whole design have names that differ.
use Rattle.std.proofs.Common.{◌≡◌, ℕ, zero, suc, cond, List, [], ◌∷◌, ◌++◌, length, append-nil, Bool, true, false, Option, Some, None, Ok, refl, ap, ◌∙◌, inl, inr}
use Rattle.std.specs.List.{list_all}
use Rattle.circuit.specs.Built.{AreScopesApart}
use Rattle.circuit.specs.declared.item.Scope.{Scope as Shown}
use Rattle.rtlil_tree.specs.declared.module.Cell.{Cell}
use Rattle.rtlil_tree.specs.declared.module.Module.{Module}
use Rattle.rtlil_tree.specs.declared.module.Statement.{Statement}
use Rattle.design_parts.specs.Parts.{Made, Walk, ◌>>◌, none_made, run}
use Rattle.design_wires.specs.Places.{InstancePlace, ShownPlace}
use Rattle.design_wires.specs.Texts.{source_text}
use Rattle.design_wires.specs.Wires.{is_public, shown_name, wires}
use Rattle.design_names.specs.Clashes.{clashes_in, items_clash, items_of}
use Rattle.design_top.specs.Inputs.{inputs}
use Rattle.design_walk.specs.Instances.{entered, scope_of_instance, scopes_within, shown_within, top_entered}
use Rattle.design_walk.specs.Walks.{Down, Standing, all_steps, arrival, flags_of, inside, joins, top_inside, top_walk, top_walk_within, top_wires, walk, walk_in}
use Rattle.design_valid.proofs.Keeping.{run_given, run_parts}
use Rattle.rtlil_names.specs.Names.{is_named, is_named_module, is_spaceless, is_spaceless_module}
use Rattle.design_valid_names.proofs.Adding.{AreApart}
use Rattle.design_valid_names.proofs.Owned.{Placed}
use Rattle.design_valid_names.proofs.Owning.{AreOthers, Owns, owns_at_first, owns_leaf, owns_more}
use Rattle.design_valid_names.proofs.Walked.{each_passes, named_passes}
use Rattle.design_valid_scopes.proofs.Same.{SameScopes, inputs_same, joins_same, nothing_same, wires_same}
use Rattle.design_valid_scopes.proofs.Stepping.{Entered, Outcome, Returns, scope_name, steps_hidden, steps_hold}

entered_adds : (around : InstancePlace) (md : Module) (c : Cell) (m n : Made) → run (entered around md c) m ≡ Ok n → n.scopes ≡ m.scopes ++ scopes_within around.shown md c
unfolding entered
entered_adds around md c m n e = ap (λ (x : Made). x.scopes) (run_given (λ _. record none_made { scopes = scopes_within around.shown md c; instances = 1 }) m n e)

module _ (ms : List Module) (texts : list_all is_spaceless_module ms ≡ true) (names : list_all is_named_module ms ≡ true) where
  walked : (down : Down) → Returns ms down → Returns ms (walk_in down ms)
  unfolding walk_in arrival run
  walked down returns around c md before behind is ran =
      let lines : Walk = wires here.place [] md.statements in
      let joined : Walk = joins here.scope around.scope c md in
      let parts = run_parts (arrival around.place around.scope c md) (all_steps down ms here md) before behind ran in
      let first = run_parts (entered around.place md c) (lines >> joined) before parts.0 parts.1 in
      let second = run_parts lines joined first.0 parts.0 first.2 in
      let same : SameScopes first.0 parts.0 = joins_same here.scope around.scope c md second.0 parts.0 second.2 ∙ wires_same here.place [] md.statements first.0 second.0 second.1 in
      by around.place.shown refl (is_public c.name) refl parts.0 (same ∙ entered_adds around.place md c before first.0 first.1) parts.2
    where
      here : Standing
      here = inside around c md before

      place_of : Option ShownPlace → Option ShownPlace
      place_of o = shown_within o c.name (length before.scopes)

      with_scope : Option ShownPlace → List Shown
      with_scope o = before.scopes ++ scopes_within o md c

      hides : here.place.shown ≡ None → (between : Made) → between.scopes ≡ before.scopes → run (all_steps down ms here md) between ≡ Ok behind → SameScopes before behind
      hides hidden between same rest = steps_hidden ms down returns here hidden (flags_of (clashes_in here.scope md.statements)) md.statements between behind rest ∙ same

      by : (o : Option ShownPlace) → around.place.shown ≡ o → (b : Bool) → is_public c.name ≡ b → (between : Made) → between.scopes ≡ before.scopes ++ scopes_within around.place.shown md c → run (all_steps down ms here md) between ≡ Ok behind → Outcome o c.name b before behind
      by None e b p between adds rest = hides (ap (λ (o : Option ShownPlace). shown_within o c.name (length before.scopes)) e) between (adds ∙ ap (λ (o : Option ShownPlace). before.scopes ++ scopes_within o md c) e ∙ append-nil before.scopes) rest
      by (Some place) e false p between adds rest =
          let path : List ℕ = shown_name place c.name in
          let hidden : here.place.shown ≡ None =
          ap (λ (o : Option ShownPlace). shown_within o c.name (length before.scopes)) e
          ∙ ap (λ b. cond b (Some (record { prefix = path ++ 32 ∷ []; scope = length before.scopes })) None) p in
          hides hidden between
          (adds ∙ ap (λ (o : Option ShownPlace). before.scopes ++ scopes_within o md c) e ∙ ap (λ b. before.scopes ++ cond b (scope_of_instance path md (source_text c.attributes) ∷ []) []) p ∙ append-nil before.scopes) rest
      by (Some place) e true p between adds rest =
          let path : List ℕ = shown_name place c.name in
          let s : ShownPlace = record { prefix = path ++ 32 ∷ []; scope = length before.scopes } in
          let new : Shown = scope_of_instance path md (source_text c.attributes) in
          let start : List Shown = before.scopes ++ new ∷ [] in
          let shown : here.place.shown ≡ Some s = ap (λ (o : Option ShownPlace). shown_within o c.name (length before.scopes)) e ∙ ap (λ b. cond b (Some s) None) p in
          let adds_it : between.scopes ≡ start = adds ∙ ap (λ (o : Option ShownPlace). before.scopes ++ scopes_within o md c) e ∙ ap (λ b. before.scopes ++ cond b (new ∷ []) []) p in
          let text = each_passes is_spaceless md.statements (named_passes is_spaceless_module ms c.kind md texts is) in
          let long = each_passes is_named md.statements (named_passes is_named_module ms c.kind md names is) in
          inr (
            new,
            refl,
            λ others apart.
                let began = owns_more scope_name s.prefix start (Entered []) (Placed []) (Entered []) (Placed []) (λ u t. t) (λ d b. b) start between.scopes adds_it (owns_at_first scope_name s.prefix start (Entered []) (Placed []) apart) in
                steps_hold ms down returns here s shown start others [] (items_clash here.scope [] (items_of md.statements)) md.statements between behind text long rest began,
          )

  walks : (depth : ℕ) → Returns ms (walk depth ms)
  unfolding walk
  walks zero around c md before behind is ran = stays around.place.shown (is_public c.name)
    where
      same : SameScopes before behind
      same = nothing_same before behind ran

      stays : (o : Option ShownPlace) (b : Bool) → Outcome o c.name b before behind
      stays None b = same
      stays (Some s) false = same
      stays (Some s) true = inl same
  walks (suc depth) around c md before behind is ran = walked (walk depth ms) (walks depth) around c md before behind is ran

  pub design_scoped : (top : Module) (made : Made) → is_spaceless_module top ≡ true → is_named_module top ≡ true → run (top_walk (λ scope. inputs scope top.statements) ms top) none_made ≡ Ok made → AreScopesApart made.scopes
  unfolding top_walk_within top_wires top_entered run
  design_scoped top made good longer ran =
      let here : Standing = top_inside top none_made in
      let s : ShownPlace = record { prefix = []; scope = 0 } in
      let ss : List Statement = top.statements in
      let none : List Shown = [] in
      let new : Shown = scope_of_instance [] top None in
      let later : Walk = all_steps (walk (length ms) ms) ms here top in
      let lines : Walk = wires here.place [] ss in
      let parts = run_parts (top_wires top) (inputs here.scope ss >> later) none_made made ran in
      let rest = run_parts (inputs here.scope ss) later parts.0 made parts.2 in
      let first = run_parts (top_entered top) lines none_made parts.0 parts.1 in
      let enters : first.0.scopes ≡ new ∷ [] = ap (λ (x : Made). x.scopes) (run_given (λ _. record none_made { scopes = new ∷ [] }) none_made first.0 first.1) in
      let is : rest.0.scopes ≡ new ∷ [] = inputs_same here.scope ss parts.0 rest.0 rest.1 ∙ wires_same here.place [] ss first.0 parts.0 first.2 ∙ enters in
      let apart : AreApart scope_name none = λ i j x y e f same. cc e in
      let others : AreOthers scope_name [] none = λ n x e b. cc e in
      let began = owns_at_first scope_name [] none (λ u. ⊥) (Placed []) apart in
      let one : Owns scope_name [] none (Entered []) (Placed []) (new ∷ []) = owns_leaf scope_name [] none (λ u. ⊥) (Placed []) (Entered []) (Placed []) (λ u t. absurd t) (λ d b. b) others [] refl (λ t. t) (inl refl) none (new ∷ []) new refl refl began in
      let given = owns_more scope_name [] none (Entered []) (Placed []) (Entered []) (Placed []) (λ u t. t) (λ d b. b) (new ∷ []) rest.0.scopes is one in
      let text = each_passes is_spaceless ss good in
      let long = each_passes is_named ss longer in
      (steps_hold ms (walk (length ms) ms) (walks (length ms)) here s refl none others [] (items_clash here.scope [] (items_of ss)) ss rest.0 made text long rest.2 given).apart
