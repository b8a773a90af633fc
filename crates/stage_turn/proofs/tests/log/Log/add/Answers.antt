use Rattle.stage_turn.proofs.TestLog.{below_plain}
use Rattle.stage_turn.proofs.tests.log.Log.add.Goals as goal

pub invariant_of-self-2 : goal.invariant_of-self-2
invariant_of-self-2 c = below_plain c.self.inside.entries.items c.push.new.self.items c.args.entry c.self.inside.opened (c.in_ok-push.ensures).items c.requires c.self.invariant
