use Rattle.stimulus.proofs.Places.{added_nets}
use Rattle.stimulus.proofs.inputs.places_of_nets.Goals as goal

pub loop-at-preserved : goal.loop-at-preserved
loop-at-preserved c =
    added_nets c.args.nets.now c.loop-at.at c.loop-at.places.entries c.add_net.new.places.entries
    c.loop-at-test.true c.loop-at.invariant c.in_ok-add_net.ensures
