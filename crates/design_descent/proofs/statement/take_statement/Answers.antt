use Rattle.std.proofs.Common.{ℕ, suc, ap, sym, subst, ◌∙◌, rules}
use Rattle.rtlil_tree.specs.declared.module.Statement.{Statement}
use Rattle.rtlil_tree.specs.declared.module.Statement.TheVariants as statement
use Rattle.design_parts.specs.Parts.{run}
use Rattle.design_walk.specs.Walks.{cell, step, walk}
use Rattle.design_descent.specs.Frames.{standing}
use Rattle.design_descent.specs.Turns.{Takes}
use Rattle.design_descent.proofs.Gone.{connect_fails, silent, step_cell, step_connect, takes_as}
use Rattle.design_descent.proofs.statement.take_statement.Goals as goal

pub returns-in_err-connect-in-Connect : goal.returns-in_err-connect-in-Connect
returns-in_err-connect-in-Connect c = λ names opens.
    let ms = c.args.modules.now in
    let here = standing names c.args.frame.now in
    let h = λ (depth : ℕ). connect_fails (walk (suc depth) ms) ms here c.args.clash c.args.draft.now c.args.statement.now c.in-Connect.assignment c.in-Connect.is c.in_err-connect-in-Connect.field-0.0 c.in_err-connect-in-Connect.ensures in
    search rules

pub returns-in-Cell : goal.returns-in-Cell
returns-in-Cell c = λ names opens.
    let ms = c.args.modules.now in
    let here = standing names c.args.frame.now in
    let old = c.args.draft.now in
    subst (λ (s : Statement). Takes ms names (λ depth. step (walk (suc depth) ms) ms here c.args.clash s) s old c.take_cell.result c.take_cell.new.draft) (sym c.in-Cell.is)
    (takes_as ms names (λ depth. step (walk (suc depth) ms) ms here c.args.clash (statement.Cell c.in-Cell.cell)) (λ depth. cell (walk (suc depth) ms) ms here c.args.clash c.in-Cell.cell) (statement.Cell c.in-Cell.cell) old old c.take_cell.result c.take_cell.new.draft
    (λ depth. step_cell (walk (suc depth) ms) ms here c.args.clash old c.in-Cell.cell)
    (c.take_cell.ensures names opens))

pub returns-in_ok-connect-in-Connect : goal.returns-in_ok-connect-in-Connect
returns-in_ok-connect-in-Connect c = λ names opens depth.
    let ms = c.args.modules.now in
    let here = standing names c.args.frame.now in
    let down = walk (suc depth) ms in
    ap (λ (s : Statement). run (step down ms here c.args.clash s) c.args.draft.now) c.in-Connect.is
    ∙ step_connect down ms here c.args.clash c.args.draft.now c.in-Connect.assignment
    ∙ c.in_ok-connect-in-Connect.ensures

pub returns-in-Parameter : goal.returns-in-Parameter
returns-in-Parameter c = λ names opens depth. silent (walk (suc depth) c.args.modules.now) c.args.modules.now (standing names c.args.frame.now) c.args.clash c.args.draft.now c.args.statement.now c.in-Parameter.is
