use Rattle.std.proofs.Common.{rules, subst, sym, ◌∙◌}
use Rattle.std.proofs.lemmas.List.{at_drop_all}
use Rattle.design_parts.specs.Parts.{Fails, run}
use Rattle.design_top.specs.Inputs.{inputs}
use Rattle.design_top.proofs.Steps.{inputs_more, inputs_none, inputs_stop}
use Rattle.design_top.proofs.inputs.drive_inputs.Goals as goal

pub returns-in_err-take_statement : goal.returns-in_err-take_statement
returns-in_err-take_statement c =
    let h = subst (Fails c.in_err-take_statement.field-0.0) (sym c.loop-statement.invariant) (inputs_stop c.args.scope.now c.args.statements.now c.loop-statement.statement-index c.statement-item.result c.loop-statement.draft c.loop-statement-test.true c.statement-item.is c.in_err-take_statement.field-0.0 c.in_err-take_statement.ensures) in
    search rules

pub loop-statement-preserved : goal.loop-statement-preserved
loop-statement-preserved c =
    c.loop-statement.invariant ∙ inputs_more c.args.scope.now c.args.statements.now c.loop-statement.statement-index c.statement-item.result c.loop-statement.draft c.loop-statement-test.true c.statement-item.is c.take_statement.new.draft c.in_ok-take_statement.ensures

pub returns : goal.returns
returns c = c.loop-statement.invariant ∙ at_drop_all (λ rest. run (inputs c.args.scope.now rest) c.loop-statement.draft) c.args.statements.now c.loop-statement.statement-index c.loop-statement-test.false ∙ inputs_none c.args.scope.now c.loop-statement.draft
