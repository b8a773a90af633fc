use Rattle.std.proofs.Common.{◌≡◌, List, [], ◌∷◌, ◌++◌, Bool, true, false, length, reverse, replicate, set, Some, None, Ok, bytes_eq, refl, sym, ap, subst, ◌∙◌, arith, rules}
use Rattle.std.specs.Map.{lookup}
use Rattle.std.proofs.lemmas.List.{length-replicate}
use Rattle.rtlil_tree.specs.declared.module.Statement.{Statement}
use Rattle.rtlil_signals.specs.Signals.{Scope}
use Rattle.design_parts.specs.Parts.{Fails, Runs, Walk, run}
use Rattle.design_names.specs.Clashes.{clashes_in}
use Rattle.design_top.specs.Inputs.{inputs}
use Rattle.design_walk.specs.Walks.{flags_of, top_walk}
use Rattle.design_descent.specs.Frames.{IsDescent, pending}
use Rattle.design_descent.specs.declared.frame.Frame.{Frame}
use Rattle.design_descent.proofs.Names.{number_below}
use Rattle.design_descent.proofs.Tops.{has_place, top_descent, top_first, top_inputs, top_pending}
use Rattle.design_descent.proofs.Turned.{runs_from}
use Rattle.design_descent.proofs.walk.walk_design.Goals as goal

pub unreachable-requires : goal.unreachable-requires
unreachable-requires c =
    let none : lookup (bytes_eq c.args.top.now.name) c.args.places.now ≡ None = search rules in
    has_place c.args.modules.now c.args.places.now c.args.top.now c.requires.places c.requires.top none

pub returns-in_err-inside : goal.returns-in_err-inside
returns-in_err-inside c =
    let h = top_first (λ (scope : Scope). inputs scope c.args.top.now.statements) c.args.modules.now c.args.top.now c.args.draft.now c.in_err-inside.field-0.0 c.in_err-inside.ensures.runs in
    search rules

pub returns-in_err-drive_inputs : goal.returns-in_err-drive_inputs
returns-in_err-drive_inputs c =
    let fails = subst (λ (ss : List Statement). Fails c.in_err-drive_inputs.field-0.0 (run (inputs c.in_ok-inside.inside.wires ss) c.arrive_at_top.new.draft)) c.as_slice-statements.ensures c.in_err-drive_inputs.ensures in
    let h = top_inputs (λ (scope : Scope). inputs scope c.args.top.now.statements) c.args.modules.now c.args.top.now c.args.draft.now c.arrive_at_top.new.draft c.in_ok-inside.ensures.runs c.in_ok-inside.inside.wires c.in_ok-inside.ensures.wires c.in_err-drive_inputs.field-0.0 fails in
    search rules

pub enter-requires : goal.enter-requires
enter-requires c =
    let at : lookup (bytes_eq c.args.top.now.name) c.args.places.now ≡ Some c.in-Some.number = search rules in
    let lt = number_below c.args.modules.now c.args.top.now.name c.in-Some.number (sym (c.requires.places c.args.top.now.name) ∙ at) in
    omega (arith, lt, ap (λ (xs : List Bool). length xs) c.in_ok-descent.ensures.flags, length-replicate (length c.args.modules.now) false)

pub finish-requires-clause-descent : goal.finish-requires-clause-descent
finish-requires-clause-descent c =
    let ms = c.args.modules.now in
    let f : Frame = record { number = c.in-Some.number; unit = c.args.top; place = c.in_ok-inside.inside.place; wires = c.in_ok-inside.inside.wires; clashes = c.in_ok-clashes.clashes; next = 0 } in
    let at : lookup (bytes_eq c.args.top.now.name) c.args.places.now ≡ Some c.in-Some.number = search rules in
    let frames = c.in_ok-enter.ensures.frames ∙ ap (λ (xs : List Frame). xs ++ f ∷ []) c.in_ok-descent.ensures.frames in
    let flags = c.in_ok-enter.ensures.flags ∙ ap (λ (xs : List Bool). set xs c.in-Some.number true) c.in_ok-descent.ensures.flags in
    subst (λ (xs : List Bool). IsDescent ms xs (reverse c.enter.new.self.frames.items)) (sym flags)
    (subst (λ (fs : List Frame). IsDescent ms (set (replicate (length ms) false) c.in-Some.number true) (reverse fs)) (sym frames)
    (top_descent ms c.args.places.now f c.requires.places at))

pub returns : goal.returns
returns c =
    let ms = c.args.modules.now in
    let top = c.args.top.now in
    let old = c.args.draft.now in
    let given : Scope → Walk = λ scope. inputs scope top.statements in
    let f : Frame = record { number = c.in-Some.number; unit = c.args.top; place = c.in_ok-inside.inside.place; wires = c.in_ok-inside.inside.wires; clashes = c.in_ok-clashes.clashes; next = 0 } in
    let frames = c.in_ok-enter.ensures.frames ∙ ap (λ (xs : List Frame). xs ++ f ∷ []) c.in_ok-descent.ensures.frames in
    let drives = subst (λ (ss : List Statement). run (inputs f.wires ss) c.arrive_at_top.new.draft ≡ Ok c.drive_inputs.new.draft) c.as_slice-statements.ensures c.in_ok-drive_inputs.ensures in
    let flags = c.in_ok-clashes.ensures ∙ ap (λ (ss : List Statement). flags_of (clashes_in f.wires ss)) c.as_slice-statements.ensures in
    runs_from (top_walk given ms top) (pending ms (f ∷ [])) old c.drive_inputs.new.draft c.finish.result c.finish.new.draft
    (top_pending given ms f old c.arrive_at_top.new.draft c.drive_inputs.new.draft c.in_ok-inside.ensures.runs c.in_ok-inside.ensures.wires drives c.in_ok-inside.ensures.place flags refl)
    (subst (λ (fs : List Frame). Runs (pending ms (reverse fs)) c.drive_inputs.new.draft c.finish.result c.finish.new.draft) frames c.finish.ensures)
