use Rattle.std.proofs.Common.{[]}
use Rattle.design_names.specs.Clashes.{items_clash}
use Rattle.design_names.proofs.Steps.{all_looked, items_none, items_step}
use Rattle.design_names.proofs.items.items_clash.Goals as goal

pub loop-item-preserved : goal.loop-item-preserved
loop-item-preserved c =
    items_step c.args.wires.now c.loop-item.clashes c.push.new.self (items_clash c.args.wires.now [] c.args.items.now) c.in_ok-item_clashes.field-0 c.loop-item.earlier c.item_clashes.new.earlier c.args.items.now c.loop-item.item-index c.item-item.result
    c.loop-item-test.true c.item-item.is c.in_ok-push.ensures.ok c.in_ok-item_clashes.ensures.value c.in_ok-item_clashes.ensures.names c.loop-item.invariant

pub returns : goal.returns
returns c = all_looked (items_clash c.args.wires.now c.loop-item.earlier) c.loop-item.clashes (items_clash c.args.wires.now [] c.args.items.now) c.args.items.now c.loop-item.item-index (items_none c.args.wires.now c.loop-item.earlier) c.loop-item-test.false c.loop-item.invariant
