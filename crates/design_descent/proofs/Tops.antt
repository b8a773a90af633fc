-- The walk of a design, from its top on.
use Rattle.std.proofs.Common.{◌≡◌, ℕ, ◌+◌, ◌-◌, Bool, true, false, cond, List, [], ◌∷◌, length, map, replicate, set, Some, None, Result, Ok, Err, bytes_eq, refl, sym, ap, subst, ◌∙◌, arith, length-set}
use Rattle.std.specs.Map.{lookup}
use Rattle.std.specs.Option.{is_some}
use Rattle.std.proofs.lemmas.List.{length-replicate}
use Rattle.circuit.specs.declared.fault.DesignFault.{DesignFault}
use Rattle.rtlil_tree.specs.declared.module.Module.{Module}
use Rattle.rtlil_signals.specs.Signals.{Scope}
use Rattle.design_parts.specs.Parts.{Fails, Made, Walk, bind, nothing, run, ◌>>◌}
use Rattle.design_parts.specs.declared.refusal.Refusal.{Refusal}
use Rattle.design_parts.proofs.Runs.{nothing_ok, run_then, then_fails, then_ok}
use Rattle.design_wires.specs.Wires.{scope_of}
use Rattle.design_names.specs.Clashes.{clashes_in}
use Rattle.design_walk.specs.Instances.{top_place}
use Rattle.design_walk.specs.Kept.{number_named, seen_place}
use Rattle.design_walk.specs.Modules.{LeadsTo, module_named, numbered}
use Rattle.design_walk.specs.Walks.{all_steps, flags_of, top_inside, top_walk, top_walk_within, top_wires, walk}
use Rattle.design_descent.specs.Frames.{IsDescent, left, pending}
use Rattle.design_descent.specs.declared.frame.Frame.{Frame}
use Rattle.design_descent.proofs.Flags.{none_open, opened}
use Rattle.design_descent.proofs.Gone.{same_steps}

-- ---- its number

unnumbered : (test : List ℕ → Bool) (ms : List Module) (i : ℕ) → lookup test (numbered i ms) ≡ None → is_some (lookup test (map (λ m. (m.name, m)) ms)) ≡ false
unnumbered test [] i e = refl
unnumbered test (m ∷ ms) i e = by (test m.name) e (unnumbered test ms (i + 1))
  where
    by : (b : Bool) → cond b (Some i) (lookup test (numbered (i + 1) ms)) ≡ None → (lookup test (numbered (i + 1) ms) ≡ None → is_some (lookup test (map (λ k. (k.name, k)) ms)) ≡ false) → is_some (cond b (Some m) (lookup test (map (λ k. (k.name, k)) ms))) ≡ false
    by true h later = cc
    by false h later = later h

-- a module that is there has a place
pub has_place : (ms : List Module) (places : List (List ℕ × ℕ)) (m : Module) → LeadsTo places ms → module_named ms m.name ≡ Some m → lookup (bytes_eq m.name) places ≡ None → ⊥
has_place ms places m leads is none =
    let h : is_some (module_named ms m.name) ≡ false = unnumbered (bytes_eq m.name) ms 0 (sym (leads m.name) ∙ none) in
    let there : is_some (module_named ms m.name) ≡ true = ap is_some is in
    let z : ⊥ = cc in z

-- ---- what is open

pub top_descent : (ms : List Module) (places : List (List ℕ × ℕ)) (f : Frame) → LeadsTo places ms → lookup (bytes_eq f.unit.now.name) places ≡ Some f.number → IsDescent ms (set (replicate (length ms) false) f.number true) (f ∷ [])
top_descent ms places f leads at =
    let is : number_named ms f.unit.now.name ≡ Some f.number = sym (leads f.unit.now.name) ∙ at in
    record {
      nested = (record { number = is; apart = refl }, tt);
      flagged = opened ms (replicate (length ms) false) [] f.unit.now.name f.number (length-replicate (length ms) false) is (none_open ms);
      sized = length-set (replicate (length ms) false) f.number true ∙ length-replicate (length ms) false;
    }

-- ---- what it gives

run_last : (p : Walk) (c : Made) → run (p >> nothing) c ≡ run p c
run_last p c = run_then p nothing c ∙ by (run p c)
  where
    by : (r : Result Made DesignFault) → bind r (run nothing) ≡ r
    by (Ok x) = nothing_ok x
    by (Err e) = refl

pending_one : (ms : List Module) (f : Frame) (c : Made) → run (pending ms (f ∷ [])) c ≡ run (left (length ms) ms (f.unit.now.name ∷ []) f) c
unfolding pending
pending_one ms f c =
    let e : length ms - 0 ≡ length ms = omega arith in
    ap (λ (k : ℕ). run (left k ms (f.unit.now.name ∷ []) f >> nothing) c) e
    ∙ run_last (left (length ms) ms (f.unit.now.name ∷ []) f) c

module _ (inputs : Scope → Walk) (ms : List Module) (m : Module) (old : Made) where
  abbrev statements : Walk
  statements = all_steps (walk (length ms) ms) ms (top_inside m old) m

  abbrev scope : Scope
  scope = scope_of (length old.nets) m.statements

  top_is : run (top_walk inputs ms m) old ≡ run (top_wires m >> (inputs scope >> statements)) old
  unfolding run top_walk_within
  top_is = refl

  pub top_first : (e : Refusal) → Fails e (run (top_wires m) old) → Fails e (run (top_walk inputs ms m) old)
  top_first e h = subst (Fails e) (sym top_is) (then_fails (top_wires m) (inputs scope >> statements) old e h)

  module _ (b : Made) (takes : run (top_wires m) old ≡ Ok b) (s : Scope) (names : s ≡ scope_of (length old.nets) m.statements) where
    top_second : run (top_walk inputs ms m) old ≡ run (inputs s >> statements) b
    top_second =
        top_is
        ∙ then_ok (top_wires m) (inputs scope >> statements) old b takes
        ∙ ap (λ (k : Scope). run (inputs k >> statements) b) (sym names)

    pub top_inputs : (e : Refusal) → Fails e (run (inputs s) b) → Fails e (run (top_walk inputs ms m) old)
    top_inputs e h = subst (Fails e) (sym top_second) (then_fails (inputs s) statements b e h)

    pub top_statements : (d : Made) → run (inputs s) b ≡ Ok d → run (top_walk inputs ms m) old ≡ run (all_steps (walk (length ms) ms) ms (top_inside m old) m) d
    top_statements d h = top_second ∙ then_ok (inputs s) statements b d h

pub top_pending : (inputs : Scope → Walk) (ms : List Module) (f : Frame) (old b d : Made) → run (top_wires f.unit.now) old ≡ Ok b → f.wires ≡ scope_of (length old.nets) f.unit.now.statements → run (inputs f.wires) b ≡ Ok d → seen_place f.place ≡ top_place f.unit.now (length old.scopes) → f.clashes ≡ flags_of (clashes_in f.wires f.unit.now.statements) → f.next ≡ 0 → run (top_walk inputs ms f.unit.now) old ≡ run (pending ms (f ∷ [])) d
top_pending inputs ms f old b d takes names drives stands flags first =
    let unit = f.unit.now in
    top_statements inputs ms unit old b takes f.wires names d drives
    ∙ ap (λ (p : Walk). run p d) (same_steps (length ms) ms (unit.name ∷ []) f (top_place unit (length old.scopes)) (scope_of (length old.nets) unit.statements) stands names flags first)
    ∙ sym (pending_one ms f d)
