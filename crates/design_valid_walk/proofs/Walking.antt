-- What holds in an instance through its statements and the instances in it, from what holds through each of them.
use Rattle.std.proofs.Common.{◌≡◌, ℕ, zero, suc, List, [], ◌∷◌, length, Bool, Option, Some, None, Ok, refl}
use Rattle.rtlil_tree.specs.declared.module.Assignment.{Assignment}
use Rattle.rtlil_tree.specs.declared.module.Cell.{Cell}
use Rattle.rtlil_tree.specs.declared.module.Module.{Module}
use Rattle.rtlil_tree.specs.declared.module.Statement.{Statement}
use Rattle.rtlil_tree.specs.declared.module.Statement.TheVariants as statement
use Rattle.rtlil_signals.specs.Signals.{Scope}
use Rattle.design_parts.specs.Parts.{Made, Walk, first_fault, none_made, ◌>>◌, run}
use Rattle.design_wires.specs.Connects.{connect}
use Rattle.design_names.specs.Clashes.{clashes_in}
use Rattle.design_walk.specs.Cells.{clash_checks, typed_cell}
use Rattle.design_walk.specs.Instances.{instance_checks}
use Rattle.design_walk.specs.Modules.{module_named}
use Rattle.design_walk.specs.Walks.{Down, Standing, all_steps, arrival, cell, down_into, flags_of, inside, instance, step, steps, top_inside, top_walk, top_walk_within, top_wires, typed_or, walk, walk_in}
use Rattle.design_valid.specs.Keeps.{Keeps}
use Rattle.design_valid.proofs.Keeping.{keeps_both, keeps_nothing, run_guarded, run_parts}
use Rattle.design_valid_walk.proofs.Growing.{Grew, grew_by, grew_twice}

-- what holds of each statement
abbrev pub Each : (Statement → Type 0) → List Statement → Type 0
Each Good [] = Unit {0}
Each Good (s ∷ ss) = Good s × Each Good ss

-- no check of an instance fails
abbrev pub MayEnter : List Module → Standing → Cell → Made → Type 0
MayEnter ms here c m = first_fault (instance_checks ms here.ancestors here.place.owner here.scope c m) ≡ None

-- what holds in an instance, and what is known of the statements of modules
pub record Rules (ms : List Module) (Good : Statement → Type 0) (In : Standing → Made → Type 0) : Type 0 where
  pub known : (name : List ℕ) (m : Module) → module_named ms name ≡ Some m → Each Good m.statements
  pub connects : (here : Standing) (a : Assignment) → Good (statement.Connect a) → Keeps (In here) (connect here.place.owner here.scope a)
  pub cells : (here : Standing) (c : Cell) (w : Walk) → Good (statement.Cell c) → typed_cell here.place here.scope c ≡ Some w → Keeps (In here) w
  pub arrives : (around : Standing) (c : Cell) (m : Module) (before behind : Made) → Good (statement.Cell c) → module_named ms c.kind ≡ Some m → MayEnter ms around c before → run (arrival around.place around.scope c m) before ≡ Ok behind
      → In around before → In (inside around c m before) behind
  pub leaves : (around : Standing) (c : Cell) (m : Module) (before behind : Made) → Grew before behind → In around before → In (inside around c m before) behind → In around behind

module _ (ms : List Module) (Good : Statement → Type 0) (In : Standing → Made → Type 0) (rules : Rules ms Good In) where
  -- what goes down into an instance and comes back
  abbrev Returns : Down → Type 0
  Returns down = (around : Standing) (c : Cell) (m : Module) (before behind : Made) → Good (statement.Cell c) → module_named ms c.kind ≡ Some m → MayEnter ms around c before → run (down around c m) before ≡ Ok behind → In around before → In around behind

  module _ (down : Down) (returns : Returns down) (here : Standing) where
    instance_keeps : (c : Cell) → Good (statement.Cell c) → Keeps (In here) (instance down ms here c)
    unfolding instance
    instance_keeps c good m n e h =
        let parts = run_guarded (instance_checks ms here.ancestors here.place.owner here.scope c) (down_into (module_named ms c.kind) (down here c)) m n e in
        by (module_named ms c.kind) refl parts.0 parts.1
      where
        by : (o : Option Module) → module_named ms c.kind ≡ o → MayEnter ms here c m → run (down_into o (down here c)) m ≡ Ok n → In here n
        by None is may ran = keeps_nothing (In here) m n ran h
        by (Some md) is may ran = returns here c md m n good is may ran h

    cell_keeps : (clash : Bool) (c : Cell) → Good (statement.Cell c) → Keeps (In here) (cell down ms here clash c)
    unfolding cell
    cell_keeps clash c good m n e h =
        let parts = run_guarded (λ _. clash_checks here.place.owner clash c) (typed_or (typed_cell here.place here.scope c) (instance down ms here c)) m n e in
        by (typed_cell here.place here.scope c) refl parts.1
      where
        by : (o : Option Walk) → typed_cell here.place here.scope c ≡ o → run (typed_or o (instance down ms here c)) m ≡ Ok n → In here n
        by None is ran = instance_keeps c good m n ran h
        by (Some w) is ran = rules.cells here c w good is m n ran h

    step_keeps : (clash : Bool) (s : Statement) → Good s → Keeps (In here) (step down ms here clash s)
    unfolding step
    step_keeps clash (statement.Cell c) good = cell_keeps clash c good
    step_keeps clash (statement.Connect a) good = rules.connects here a good
    step_keeps clash (statement.Wire _) good = keeps_nothing (In here)
    step_keeps clash (statement.Parameter _) good = keeps_nothing (In here)
    step_keeps clash (statement.Memory _) good = keeps_nothing (In here)
    step_keeps clash (statement.Process _) good = keeps_nothing (In here)

    steps_keep : (bs : List Bool) (ss : List Statement) → Each Good ss → Keeps (In here) (steps down ms here bs ss)
    unfolding steps
    steps_keep [] ss good = keeps_nothing (In here)
    steps_keep (b ∷ bs) [] good = keeps_nothing (In here)
    steps_keep (b ∷ bs) (s ∷ ss) good = keeps_both (In here) (step down ms here b s) (steps down ms here bs ss) (step_keeps b s good.0) (steps_keep bs ss good.1)

    all_keep : (m : Module) → Each Good m.statements → Keeps (In here) (all_steps down ms here m)
    all_keep m good = steps_keep (flags_of (clashes_in here.scope m.statements)) m.statements good

  walk_in_returns : (down : Down) → Returns down → Returns (walk_in down ms)
  unfolding walk_in run
  walk_in_returns down returns around c m before behind good is may ran h =
      let within = inside around c m before in
      let parts = run_parts (arrival around.place around.scope c m) (all_steps down ms within m) before behind ran in
      let between : Made = parts.0 in
      let arrived = rules.arrives around c m before between good is may parts.1 h in
      let grew = grew_twice before between behind (grew_by (arrival around.place around.scope c m) before between parts.1) (grew_by (all_steps down ms within m) between behind parts.2) in
      rules.leaves around c m before behind grew h (all_keep down returns within m (rules.known c.kind m is) between behind parts.2 arrived)

  pub walk_returns : (depth : ℕ) → Returns (walk depth ms)
  unfolding walk
  walk_returns zero around c m before behind good is may ran h = keeps_nothing (In around) before behind ran h
  walk_returns (suc depth) around c m before behind good is may ran h = walk_in_returns (walk depth ms) (walk_returns depth) around c m before behind good is may ran h

  -- the whole of a design
  pub top_holds : (inputs : Scope → Walk) (top : Module) (made : Made) → Each Good top.statements
      → ((between behind : Made) → run (top_wires top) none_made ≡ Ok between → run (inputs (top_inside top none_made).scope) between ≡ Ok behind → In (top_inside top none_made) behind)
      → run (top_walk inputs ms top) none_made ≡ Ok made → In (top_inside top none_made) made
  unfolding top_walk_within run
  top_holds inputs top made good first ran =
      let here = top_inside top none_made in
      let later = all_steps (walk (length ms) ms) ms here top in
      let parts = run_parts (top_wires top) (inputs here.scope >> later) none_made made ran in
      let rest = run_parts (inputs here.scope) later parts.0 made parts.2 in
      all_keep (walk (length ms) ms) (walk_returns (length ms)) here top good rest.0 made rest.2 (first parts.0 rest.0 parts.1 rest.1)
