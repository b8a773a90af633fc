use Rattle.std.proofs.Common.{map, refl}
use Rattle.design_names.specs.Clashes.{item_of, items_of}
use Rattle.design_names.proofs.Steps.{all_looked, map_step}
use Rattle.design_names.proofs.items.items_of.Goals as goal

pub loop-statement-preserved : goal.loop-statement-preserved
loop-statement-preserved c =
    map_step item_of c.loop-statement.items c.push.new.self (items_of c.args.statements.now) c.in_ok-item_of.field-0 c.args.statements.now c.loop-statement.statement-index c.statement-item.result
    c.loop-statement-test.true c.statement-item.is c.in_ok-push.ensures.ok c.in_ok-item_of.ensures c.loop-statement.invariant

pub returns : goal.returns
returns c = all_looked (map item_of) c.loop-statement.items (items_of c.args.statements.now) c.args.statements.now c.loop-statement.statement-index refl c.loop-statement-test.false c.loop-statement.invariant
