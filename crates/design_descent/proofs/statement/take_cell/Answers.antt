use Rattle.std.proofs.Common.{ℕ, suc, Ok, Err, subst, rules}
use Rattle.rtlil_tree.specs.declared.module.Statement.TheVariants as statement
use Rattle.design_wires.specs.Places.{InstancePlace}
use Rattle.design_walk.specs.Cells.{RunsIf, typed_cell}
use Rattle.design_walk.specs.Walks.{cell, instance, walk}
use Rattle.design_descent.specs.Frames.{standing}
use Rattle.design_descent.proofs.Gone.{cell_clashes, cell_done, cell_fails, cell_other, takes_as}
use Rattle.design_descent.proofs.statement.take_cell.Goals as goal

pub returns-in_err-clash_allowed : goal.returns-in_err-clash_allowed
returns-in_err-clash_allowed c = λ names opens.
    let h = λ (depth : ℕ). cell_clashes (walk (suc depth) c.args.modules.now) c.args.modules.now (standing names c.args.frame.now) c.args.clash c.args.cell.now c.args.draft.now c.in_err-clash_allowed.field-0.0 c.in_err-clash_allowed.ensures in
    search rules

pub returns-in_err-typed : goal.returns-in_err-typed
returns-in_err-typed c = λ names opens.
    let runs = subst (λ (p : InstancePlace). RunsIf (typed_cell p c.args.frame.now.wires c.args.cell.now) c.args.draft.now (Err c.in_err-typed.field-0.0) c.typed_cell.new.draft) c.here-place.ensures c.in_err-typed.ensures in
    let h = λ (depth : ℕ). cell_fails (walk (suc depth) c.args.modules.now) c.args.modules.now (standing names c.args.frame.now) c.args.clash c.args.cell.now c.args.draft.now c.in_ok-clash_allowed.ensures c.typed_cell.new.draft c.in_err-typed.field-0.0 runs in
    search rules

pub returns-then-typed : goal.returns-then-typed
returns-then-typed c = λ names opens depth.
    let runs = subst (λ (p : InstancePlace). RunsIf (typed_cell p c.args.frame.now.wires c.args.cell.now) c.args.draft.now (Ok c.in_ok-typed.typed) c.typed_cell.new.draft) c.here-place.ensures c.in_ok-typed.ensures in
    cell_done (walk (suc depth) c.args.modules.now) c.args.modules.now (standing names c.args.frame.now) c.args.clash c.args.cell.now c.args.draft.now c.in_ok-clash_allowed.ensures c.typed_cell.new.draft c.in_ok-typed.typed c.if-typed.true runs

pub returns : goal.returns
returns c = λ names opens.
    let ms = c.args.modules.now in
    let here = standing names c.args.frame.now in
    let old = c.args.draft.now in
    let runs = subst (λ (p : InstancePlace). RunsIf (typed_cell p c.args.frame.now.wires c.args.cell.now) old (Ok c.in_ok-typed.typed) c.typed_cell.new.draft) c.here-place.ensures c.in_ok-typed.ensures in
    takes_as ms names (λ depth. cell (walk (suc depth) ms) ms here c.args.clash c.args.cell.now) (λ depth. instance (walk (suc depth) ms) ms here c.args.cell.now) (statement.Cell c.args.cell.now) old c.typed_cell.new.draft c.take_instance.result c.take_instance.new.draft
    (λ depth. cell_other (walk (suc depth) ms) ms here c.args.clash c.args.cell.now old c.in_ok-clash_allowed.ensures c.typed_cell.new.draft c.in_ok-typed.typed c.if-typed.false runs)
    (c.take_instance.ensures names opens)
