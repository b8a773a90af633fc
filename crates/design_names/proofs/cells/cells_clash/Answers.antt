use Rattle.std.proofs.Common.{[]}
use Rattle.design_names.specs.Clashes.{cells_clash}
use Rattle.design_names.proofs.Steps.{all_looked, cells_none, cells_step}
use Rattle.design_names.proofs.cells.cells_clash.Goals as goal

pub loop-statement-preserved : goal.loop-statement-preserved
loop-statement-preserved c =
    cells_step c.loop-statement.clashes c.push.new.self (cells_clash [] c.args.statements.now) c.in_ok-cell_clashes.field-0 c.loop-statement.earlier c.cell_clashes.new.earlier c.args.statements.now c.loop-statement.statement-index c.statement-item.result
    c.loop-statement-test.true c.statement-item.is c.in_ok-push.ensures.ok c.in_ok-cell_clashes.ensures.value c.in_ok-cell_clashes.ensures.names c.loop-statement.invariant

pub returns : goal.returns
returns c = all_looked (cells_clash c.loop-statement.earlier) c.loop-statement.clashes (cells_clash [] c.args.statements.now) c.args.statements.now c.loop-statement.statement-index (cells_none c.loop-statement.earlier) c.loop-statement-test.false c.loop-statement.invariant
