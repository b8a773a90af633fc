-- What is shown of a statement that is taken, or leads into an instance.
use Rattle.std.proofs.Common.{◌≡◌, ◌⊎◌, ℕ, suc, Bool, true, false, List, [], ◌∷◌, ◌++◌, length, drop, Option, Some, None, Result, Ok, Err, bytes_eq, inl, inr, refl, sym, ap, subst, ◌∙◌}
use Rattle.std.specs.List.{list_any}
use Rattle.rtlil_tree.specs.declared.module.Assignment.{Assignment}
use Rattle.rtlil_tree.specs.declared.module.Cell.{Cell}
use Rattle.rtlil_tree.specs.declared.module.Memory.{Memory}
use Rattle.rtlil_tree.specs.declared.module.Module.{Module}
use Rattle.rtlil_tree.specs.declared.module.Parameter.{Parameter}
use Rattle.rtlil_tree.specs.declared.module.Statement.{Statement}
use Rattle.rtlil_tree.specs.declared.module.Statement.TheVariants as statement
use Rattle.rtlil_tree.specs.declared.module.Wire.{Wire}
use Rattle.rtlil_tree.specs.declared.process.Process.{Process}
use Rattle.rtlil_signals.specs.Signals.{Scope}
use Rattle.design_parts.specs.Parts.{Fails, Made, Walk, first_fault, judged, run, ◌>>◌}
use Rattle.design_parts.specs.declared.refusal.Refusal.{Refusal}
use Rattle.design_parts.proofs.Runs.{guard_fails, guard_ok, nothing_ok, then_fails, then_ok}
use Rattle.design_wires.specs.Connects.{connect}
use Rattle.design_wires.specs.Places.{InstancePlace}
use Rattle.design_wires.specs.Wires.{scope_of}
use Rattle.design_names.specs.Clashes.{clashes_in}
use Rattle.design_walk.specs.Cells.{RunsIf, clash_checks, typed_cell}
use Rattle.design_walk.specs.Instances.{instance_checks, place_within}
use Rattle.design_walk.specs.Kept.{number_named, seen_place}
use Rattle.design_walk.specs.Modules.{module_named}
use Rattle.design_walk.specs.Walks.{Down, Standing, all_steps, arrival, cell, down_into, flags_of, inside, instance, step, steps, typed_or, walk, walk_in}
use Rattle.design_descent.specs.Frames.{left, standing}
use Rattle.design_descent.specs.Turns.{IsGoneInto, Takes}
use Rattle.design_descent.specs.declared.frame.Frame.{Frame}
use Rattle.design_descent.proofs.Names.{named_so, open_instance}

pub takes_as : (ms : List Module) (names : List (List ℕ)) (p q : ℕ → Walk) (s : Statement) (old mid : Made) (r : Result (Option Frame) Refusal) (new : Made) → ((depth : ℕ) → run (p depth) old ≡ run (q depth) mid) → Takes ms names q s mid r new → Takes ms names p s old r new
takes_as ms names p q s old mid (Ok None) new same h = λ depth. same depth ∙ h depth
takes_as ms names p q s old mid (Ok (Some g)) new same h = record { gives = λ depth. same depth ∙ h.gives depth; leads = h.leads; inside = h.inside; first = h.first }
takes_as ms names p q s old mid (Err e) new same h = λ depth. subst (Fails e) (sym (same depth)) (h depth)

-- ---- an instance

at_place : List (List ℕ) → InstancePlace → Scope → Standing
at_place names place scope = record { ancestors = names; place = place; scope = scope }

module _ (ms : List Module) (names : List (List ℕ)) (f : Frame) (c : Cell) (old : Made) where
  pub instance_refused : (depth : ℕ) (e : Refusal) → Fails e (judged (first_fault (instance_checks ms names f.place.owner.now f.wires c old)) (tt {0})) → Fails e (run (instance (walk (suc depth) ms) ms (standing names f) c) old)
  unfolding instance
  instance_refused depth e h = guard_fails (instance_checks ms names f.place.owner.now f.wires c) (down_into (module_named ms c.kind) (walk (suc depth) ms (standing names f) c)) old e h

  module _ (unit : Module) (is : module_named ms c.kind ≡ Some unit) (passes : first_fault (instance_checks ms names f.place.owner.now f.wires c old) ≡ None) (depth : ℕ) where
    abbrev arrives : Walk
    arrives = arrival (seen_place f.place) f.wires c unit

    abbrev others : Walk
    others = all_steps (walk depth ms) ms (inside (standing names f) c unit old) unit

    down : run (walk (suc depth) ms (standing names f) c unit) old ≡ run (arrives >> others) old
    unfolding run walk walk_in
    down = refl

    gone : run (instance (walk (suc depth) ms) ms (standing names f) c) old ≡ run (arrives >> others) old
    unfolding instance
    gone =
        guard_ok (instance_checks ms names f.place.owner.now f.wires c) (down_into (module_named ms c.kind) (walk (suc depth) ms (standing names f) c)) old passes
        ∙ ap (λ (o : Option Module). run (down_into o (walk (suc depth) ms (standing names f) c)) old) is
        ∙ down

    pub arrival_fails : (e : Refusal) → Fails e (run (arrival (seen_place f.place) f.wires c unit) old) → Fails e (run (instance (walk (suc depth) ms) ms (standing names f) c) old)
    arrival_fails e h = subst (Fails e) (sym gone) (then_fails arrives others old e h)

    gone_ok : (new : Made) → run (arrival (seen_place f.place) f.wires c unit) old ≡ Ok new → run (instance (walk (suc depth) ms) ms (standing names f) c) old ≡ run others new
    gone_ok new h = gone ∙ then_ok arrives others old new h

-- statements of an instance as its frame has it
pub same_steps : (depth : ℕ) (ms : List Module) (names : List (List ℕ)) (g : Frame) (place : InstancePlace) (scope : Scope) → seen_place g.place ≡ place → g.wires ≡ scope → g.clashes ≡ flags_of (clashes_in g.wires g.unit.now.statements) → g.next ≡ 0 → all_steps (walk depth ms) ms (record { ancestors = names; place = place; scope = scope }) g.unit.now ≡ left depth ms names g
unfolding at_place
same_steps depth ms names g place scope stands is flags first =
    let ss = g.unit.now.statements in
    let w = walk depth ms in
    ap (λ (p : InstancePlace). steps w ms (at_place names p scope) (flags_of (clashes_in scope ss)) ss) (sym stands)
    ∙ ap (λ (s : Scope). steps w ms (at_place names (seen_place g.place) s) (flags_of (clashes_in s ss)) ss) (sym is)
    ∙ ap (λ (bs : List Bool). steps w ms (at_place names (seen_place g.place) g.wires) bs ss) (sym flags)
    ∙ ap (λ (k : ℕ). steps w ms (at_place names (seen_place g.place) g.wires) (drop k g.clashes) (drop k ss)) (sym first)

pub gone_into : (ms : List Module) (names : List (List ℕ)) (f : Frame) (c : Cell) (old new : Made) (g : Frame) → module_named ms c.kind ≡ Some g.unit.now → number_named ms c.kind ≡ Some g.number → first_fault (instance_checks ms names f.place.owner.now f.wires c old) ≡ None → run (arrival (seen_place f.place) f.wires c g.unit.now) old ≡ Ok new → seen_place g.place ≡ place_within (seen_place f.place) g.unit.now.name c.name (length old.scopes) → g.wires ≡ scope_of (length old.nets) g.unit.now.statements → g.clashes ≡ flags_of (clashes_in g.wires g.unit.now.statements) → g.next ≡ 0 → IsGoneInto ms names (λ depth. instance (walk (suc depth) ms) ms (standing names f) c) (statement.Cell c) old g new
gone_into ms names f c old new g is number passes arrives stands scope flags first =
    let unit = g.unit.now in
    let same : c.kind ≡ unit.name = named_so ms c.kind unit is in
    record {
      gives = λ depth.
          gone_ok ms names f c old unit is passes depth new arrives
          ∙ ap (λ (p : Walk). run p new) (same_steps depth ms (names ++ unit.name ∷ []) g (place_within (seen_place f.place) unit.name c.name (length old.scopes)) (scope_of (length old.nets) unit.statements) stands scope flags first);
      leads = is;
      inside = record {
        number = subst (λ (x : List ℕ). number_named ms x ≡ Some g.number) same number;
        apart = subst (λ (x : List ℕ). list_any (bytes_eq x) names ≡ false) same (open_instance ms names f.place.owner.now f.wires c old passes);
      };
      first = first;
    }

-- ---- a cell

typed_fails : (o : Option Walk) (w : Walk) (old new : Made) (e : Refusal) → RunsIf o old (Err e) new → Fails e (run (typed_or o w) old)
typed_fails None w old new e h = absurd h
typed_fails (Some v) w old new e h = h.1

typed_done : (o : Option Walk) (w : Walk) (old new : Made) (b : Bool) → b ≡ true → RunsIf o old (Ok b) new → run (typed_or o w) old ≡ Ok new
typed_done None w old new b e h = let f : b ≡ false = h.0 in absurd (let z : ⊥ = cc in z)
typed_done (Some v) w old new b e h = h.1

typed_other : (o : Option Walk) (w : Walk) (old new : Made) (b : Bool) → b ≡ false → RunsIf o old (Ok b) new → run (typed_or o w) old ≡ run w new
typed_other None w old new b e h = ap (run w) (sym h.1)
typed_other (Some v) w old new b e h = let f : b ≡ true = h.0 in absurd (let z : ⊥ = cc in z)

module _ (down : Down) (ms : List Module) (here : Standing) (clash : Bool) (c : Cell) (old : Made) where
  abbrev either : Walk
  either = typed_or (typed_cell here.place here.scope c) (instance down ms here c)

  pub cell_clashes : (e : Refusal) → Fails e (judged (first_fault (clash_checks here.place.owner clash c)) (tt {0})) → Fails e (run (cell down ms here clash c) old)
  unfolding cell
  cell_clashes e h = guard_fails (λ _. clash_checks here.place.owner clash c) either old e h

  module _ (passes : first_fault (clash_checks here.place.owner clash c) ≡ None) where
    cell_is : run (cell down ms here clash c) old ≡ run either old
    unfolding cell
    cell_is = guard_ok (λ _. clash_checks here.place.owner clash c) either old passes

    pub cell_fails : (new : Made) (e : Refusal) → RunsIf (typed_cell here.place here.scope c) old (Err e) new → Fails e (run (cell down ms here clash c) old)
    cell_fails new e h = subst (Fails e) (sym cell_is) (typed_fails (typed_cell here.place here.scope c) (instance down ms here c) old new e h)

    pub cell_done : (new : Made) (b : Bool) → b ≡ true → RunsIf (typed_cell here.place here.scope c) old (Ok b) new → run (cell down ms here clash c) old ≡ Ok new
    cell_done new b e h = cell_is ∙ typed_done (typed_cell here.place here.scope c) (instance down ms here c) old new b e h

    pub cell_other : (new : Made) (b : Bool) → b ≡ false → RunsIf (typed_cell here.place here.scope c) old (Ok b) new → run (cell down ms here clash c) old ≡ run (instance down ms here c) new
    cell_other new b e h = cell_is ∙ typed_other (typed_cell here.place here.scope c) (instance down ms here c) old new b e h

-- ---- a statement

-- it gives nothing here
abbrev IsSilent : Statement → Type 0
IsSilent s = ((p : Parameter) × (s ≡ statement.Parameter p)) ⊎ (((w : Wire) × (s ≡ statement.Wire w)) ⊎ (((m : Memory) × (s ≡ statement.Memory m)) ⊎ ((p : Process) × (s ≡ statement.Process p))))

module _ (down : Down) (ms : List Module) (here : Standing) (clash : Bool) (old : Made) where
  pub step_cell : (c : Cell) → run (step down ms here clash (statement.Cell c)) old ≡ run (cell down ms here clash c) old
  unfolding step
  step_cell c = refl

  pub step_connect : (a : Assignment) → run (step down ms here clash (statement.Connect a)) old ≡ run (connect here.place.owner here.scope a) old
  unfolding step
  step_connect a = refl

  pub connect_fails : (s : Statement) (a : Assignment) → s ≡ statement.Connect a → (e : Refusal) → Fails e (run (connect here.place.owner here.scope a) old) → Fails e (run (step down ms here clash s) old)
  connect_fails s a is e h = subst (Fails e) (sym (ap (λ (k : Statement). run (step down ms here clash k) old) is ∙ step_connect a)) h

  pub silent : (s : Statement) → IsSilent s → run (step down ms here clash s) old ≡ Ok old
  unfolding step
  silent s (inl h) = ap (λ (k : Statement). run (step down ms here clash k) old) h.1 ∙ nothing_ok old
  silent s (inr (inl h)) = ap (λ (k : Statement). run (step down ms here clash k) old) h.1 ∙ nothing_ok old
  silent s (inr (inr (inl h))) = ap (λ (k : Statement). run (step down ms here clash k) old) h.1 ∙ nothing_ok old
  silent s (inr (inr (inr h))) = ap (λ (k : Statement). run (step down ms here clash k) old) h.1 ∙ nothing_ok old
