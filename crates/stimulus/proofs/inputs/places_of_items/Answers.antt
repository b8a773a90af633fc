use Rattle.stimulus.proofs.Places.{added_names}
use Rattle.stimulus.proofs.inputs.places_of_items.Goals as goal

pub loop-at-preserved : goal.loop-at-preserved
loop-at-preserved c =
    added_names c.args.items.now c.loop-at.at c.index-items-at.result c.as_bytes.result.now c.loop-at.places c.add.new.self c.in_ok-add.field-0
    c.loop-at-test.true c.as_bytes.ensures c.loop-at.invariant c.in_ok-add.ensures.new c.in_ok-add.ensures.ok
