-- The items of a whole design have names that differ.
use Rattle.std.proofs.Common.{◌≡◌, ℕ, zero, suc, cond, List, [], ◌∷◌, length, append-nil, Bool, true, false, Option, Some, None, Ok, refl, sym, ap, ◌∙◌, subst, bytes_eq, inl}
use Rattle.std.specs.Prelude.{slice_get}
use Rattle.std.specs.List.{list_all}
use Rattle.std.specs.Option.{is_some}
use Rattle.std.proofs.lemmas.Bool.{and_parts}
use Rattle.sim_base.specs.BitValue.{zeros}
use Rattle.circuit.specs.Built.{AreNamesApart}
use Rattle.circuit.specs.declared.item.Item.{Item}
use Rattle.circuit.specs.declared.netlist.By.TheVariants as source
use Rattle.rtlil_signals.specs.Signals.{Scope, net_named}
use Rattle.rtlil_signals.specs.declared.scope.NamedNet.{NamedNet}
use Rattle.rtlil_tree.specs.declared.module.Cell.{Cell}
use Rattle.rtlil_tree.specs.declared.module.Module.{Module}
use Rattle.rtlil_tree.specs.declared.module.Statement.{Statement}
use Rattle.rtlil_tree.specs.declared.module.Statement.TheVariants as statement
use Rattle.rtlil_tree.specs.declared.module.Wire.{Wire}
use Rattle.design_parts.specs.Parts.{Made, Walk, ◌>>◌, both_made, give, none_made, nothing, run}
use Rattle.design_wires.specs.Places.{InstancePlace, ShownPlace}
use Rattle.design_wires.specs.Wires.{is_public, scope_of, wires}
use Rattle.design_instances.specs.Joins.{join_drives}
use Rattle.design_instances.specs.Ports.{ports_of}
use Rattle.design_names.specs.Clashes.{clashes_in}
use Rattle.design_top.specs.Inputs.{input_in, input_made, inputs, net_input, whole_driven}
use Rattle.design_walk.specs.Instances.{entered, scope_of_instance, scopes_within, shown_within, top_entered}
use Rattle.design_walk.specs.Modules.{module_named}
use Rattle.design_walk.specs.Walks.{Down, Standing, all_steps, arrival, flags_of, inside, joins, top_inside, top_walk, top_walk_within, top_wires, walk, walk_in}
use Rattle.design_valid.proofs.Keeping.{keeps_nothing, run_given, run_parts}
use Rattle.design_valid_walk.proofs.Walking.{Each}
use Rattle.rtlil_names.specs.Names.{is_spaceless, is_spaceless_module}
use Rattle.design_valid_names.proofs.Leaves.{SameItems, wires_hidden, wires_owned}
use Rattle.design_valid_names.proofs.Owned.{Fresh, Own, Placed, Taken, item_name, own_more}
use Rattle.design_valid_names.proofs.Owning.{owns_at_first}
use Rattle.design_valid_names.proofs.Stepping.{Outcome, Returns, steps_hidden, steps_own}

pub each_passes : (p : Statement → Bool) (ss : List Statement) → list_all p ss ≡ true → Each (λ s. p s ≡ true) ss
each_passes p [] h = tt
each_passes p (s ∷ ss) h = let both = and_parts (p s) (list_all p ss) h in (both.0, each_passes p ss both.1)

pub named_passes : (p : Module → Bool) (ms : List Module) (name : List ℕ) (m : Module) → list_all p ms ≡ true → module_named ms name ≡ Some m → p m ≡ true
named_passes p [] name m h e = cc e
named_passes p (x ∷ xs) name m h e =
    let both = and_parts (p x) (list_all p xs) h in
    by (bytes_eq name x.name) both.0 e (named_passes p xs name m both.1)
  where
    by : (b : Bool) → p x ≡ true → cond b (Some x) (module_named xs name) ≡ Some m → (module_named xs name ≡ Some m → p m ≡ true) → p m ≡ true
    by true one k rest = let same : x ≡ m = cc k in subst (λ (y : Module). p y ≡ true) same one
    by false one k rest = rest k

entered_same : (around : InstancePlace) (md : Module) (c : Cell) (m n : Made) → run (entered around md c) m ≡ Ok n → SameItems m n × (length n.nets ≡ length m.nets)
unfolding entered
entered_same around md c m n e =
    let made : Made = record none_made { scopes = scopes_within around.shown md c; instances = 1 } in
    let is = run_given (λ _. made) m n e in
    (ap (λ (x : Made). x.items) is ∙ append-nil m.items, ap (λ (x : Made). length x.nets) is ∙ ap length (append-nil m.nets))

joins_same : (within around : Scope) (c : Cell) (md : Module) (m n : Made) → run (joins within around c md) m ≡ Ok n → SameItems m n
unfolding joins
joins_same within around c md m n e =
    let made : Made = record none_made { drives = join_drives within around (ports_of md.statements) c.connections } in
    ap (λ (x : Made). x.items) (run_given (λ _. made) m n e) ∙ append-nil m.items

module _ (ms : List Module) (texts : list_all is_spaceless_module ms ≡ true) where
  walked : (down : Down) → Returns ms down → Returns ms (walk_in down ms)
  unfolding walk_in arrival run
  walked down returns around c md before behind is ran =
      let here : Standing = inside around c md before in
      let ss : List Statement = md.statements in
      let lines : Walk = wires here.place [] ss in
      let joined : Walk = joins here.scope around.scope c md in
      let parts = run_parts (arrival around.place around.scope c md) (all_steps down ms here md) before behind ran in
      let first = run_parts (entered around.place md c) (lines >> joined) before parts.0 parts.1 in
      let second = run_parts lines joined first.0 parts.0 first.2 in
      let enters = entered_same around.place md c before first.0 first.1 in
      let ties = joins_same here.scope around.scope c md second.0 parts.0 second.2 in
      by here.place.shown refl first.0 second.0 parts.0 enters.0 enters.1 second.1 ties parts.2
    where
      by : (o : Option ShownPlace) → (inside around c md before).place.shown ≡ o → (first second third : Made) → SameItems before first → length first.nets ≡ length before.nets → run (wires (inside around c md before).place [] md.statements) first ≡ Ok second → SameItems second third
          → run (all_steps down ms (inside around c md before) md) third ≡ Ok behind → Outcome o before behind
      by None hidden first second third enters count lines ties rest =
          steps_hidden ms down returns (inside around c md before) hidden (flags_of (clashes_in (inside around c md before).scope md.statements)) md.statements third behind rest ∙ ties
          ∙ wires_hidden (inside around c md before).place hidden [] md.statements first second lines ∙ enters
      by (Some s) shown first second third enters count lines ties rest = λ fresh apart.
          let here : Standing = inside around c md before in
          let text = each_passes is_spaceless md.statements (named_passes is_spaceless_module ms c.kind md texts is) in
          let began = own_more s.prefix before (Taken [] []) (Placed []) (Taken [] []) (Placed []) (λ u t. t) (λ d b. b) before first enters (owns_at_first item_name s.prefix before.items (Taken [] []) (Placed []) apart) in
          let wired = wires_owned here.place s shown before fresh (Placed []) [] md.statements first second text lines began in
          let scoped : Own s.prefix before (Taken here.scope []) (Placed []) second = subst (λ (k : ℕ). Own s.prefix before (Taken (scope_of k md.statements) []) (Placed []) second) count wired in
          let tied = own_more s.prefix before (Taken here.scope []) (Placed []) (Taken here.scope []) (Placed []) (λ u t. t) (λ d b. b) second third ties scoped in
          steps_own ms down returns here s shown before fresh [] [] md.statements third behind text rest tied

  walks : (depth : ℕ) → Returns ms (walk depth ms)
  unfolding walk
  walks zero around c md before behind is ran = stays (shown_within around.place.shown c.name (length before.scopes))
    where
      same : SameItems before behind
      same = keeps_nothing (SameItems before) before behind ran refl

      stays : (o : Option ShownPlace) → Outcome o before behind
      stays None = same
      stays (Some s) = λ fresh apart. record { apart = subst AreNamesApart (sym same) apart; each = λ n i e. inl (n, ap (λ (is : List Item). slice_get is n) (sym same) ∙ e) }
  walks (suc depth) around c md before behind is ran = walked (walk depth ms) (walks depth) around c md before behind is ran

  -- ---- the top

  input_same : (o : Option NamedNet) (w : Wire) (m n : Made) → run (net_input o w) m ≡ Ok n → SameItems m n
  input_same None w m n e = keeps_nothing (SameItems m) m n e refl
  input_same (Some net) w m n e = by (is_some w.options.input) e
    where
      added : (b : Bool) → (both_made m (cond b (record none_made { drives = whole_driven net (source.Input (length m.inputs) 0); inputs = net.net ∷ [] }) (record none_made { drives = whole_driven net (source.Const (zeros net.width)) }))).items ≡ m.items
      added true = append-nil m.items
      added false = append-nil m.items

      by : (b : Bool) → run (cond b (give (input_made net w)) nothing) m ≡ Ok n → SameItems m n
      by false ran = keeps_nothing (SameItems m) m n ran refl
      by true ran = ap (λ (x : Made). x.items) (run_given (input_made net w) m n ran) ∙ added (is_public w.name)

  inputs_same : (scope : Scope) (ss : List Statement) (m n : Made) → run (inputs scope ss) m ≡ Ok n → SameItems m n
  unfolding inputs
  inputs_same scope [] m n e = keeps_nothing (SameItems m) m n e refl
  inputs_same scope (s ∷ ss) m n e =
      let parts = run_parts (input_in scope s) (inputs scope ss) m n e in
      inputs_same scope ss parts.0 n parts.2 ∙ one s parts.0 parts.1
    where
      one : (s : Statement) (k : Made) → run (input_in scope s) m ≡ Ok k → SameItems m k
      one (statement.Wire w) k ran = input_same (net_named scope w.name) w m k ran
      one (statement.Parameter _) k ran = keeps_nothing (SameItems m) m k ran refl
      one (statement.Memory _) k ran = keeps_nothing (SameItems m) m k ran refl
      one (statement.Cell _) k ran = keeps_nothing (SameItems m) m k ran refl
      one (statement.Connect _) k ran = keeps_nothing (SameItems m) m k ran refl
      one (statement.Process _) k ran = keeps_nothing (SameItems m) m k ran refl

  pub design_apart : (top : Module) (made : Made) → is_spaceless_module top ≡ true → run (top_walk (λ scope. inputs scope top.statements) ms top) none_made ≡ Ok made → AreNamesApart made.items
  unfolding top_walk_within top_wires top_entered run
  design_apart top made good ran =
      let here : Standing = top_inside top none_made in
      let s : ShownPlace = record { prefix = []; scope = 0 } in
      let ss : List Statement = top.statements in
      let text = each_passes is_spaceless ss good in
      let scoped : Made = record none_made { scopes = scope_of_instance [] top None ∷ [] } in
      let later : Walk = all_steps (walk (length ms) ms) ms here top in
      let lines : Walk = wires here.place [] ss in
      let parts = run_parts (top_wires top) (inputs here.scope ss >> later) none_made made ran in
      let rest = run_parts (inputs here.scope ss) later parts.0 made parts.2 in
      let first = run_parts (top_entered top) lines none_made parts.0 parts.1 in
      let is = run_given (λ _. scoped) none_made first.0 first.1 in
      let enters : SameItems none_made first.0 = ap (λ (x : Made). x.items) is in
      let count : length first.0.nets ≡ 0 = ap (λ (x : Made). length x.nets) is in
      let fresh : Fresh [] none_made = λ n i e b. cc e in
      let none : AreNamesApart none_made.items = λ i j x y e f same. cc e in
      let began = own_more [] none_made (Taken [] []) (Placed []) (Taken [] []) (Placed []) (λ u t. t) (λ d b. b) none_made first.0 enters (owns_at_first item_name [] none_made.items (Taken [] []) (Placed []) none) in
      let wired = wires_owned here.place s refl none_made fresh (Placed []) [] ss first.0 parts.0 text first.2 began in
      let named : Own [] none_made (Taken here.scope []) (Placed []) parts.0 = subst (λ (k : ℕ). Own [] none_made (Taken (scope_of k ss) []) (Placed []) parts.0) count wired in
      let given = own_more [] none_made (Taken here.scope []) (Placed []) (Taken here.scope []) (Placed []) (λ u t. t) (λ d b. b) parts.0 rest.0 (inputs_same here.scope ss parts.0 rest.0 rest.1) named in
      (steps_own ms (walk (length ms) ms) (walks (length ms)) here s refl none_made fresh [] [] ss rest.0 made text rest.2 given).apart
