use Rattle.stage_turn.proofs.TestLog.{may_leave_added, has_same_clients}
use Rattle.stage_turn.proofs.tests.add.Goals as goal

pub leave-requires-clause-leaves : goal.leave-requires-clause-leaves
leave-requires-clause-leaves g c = may_leave_added c.add-added.result c.args.seat.now.knows _ c.take-log.result c.add-added.new.self c.args.entry c.take-log.ensures.finds c.take-log.ensures.knows c.requires.own c.requires.opens_nobody c.add-added.ensures.ok c.add-added.ensures.err

pub returns-clause-clients : goal.returns-clause-clients
returns-clause-clients g c = has_same_clients c.add-added.result c.args.seat.now.knows _ _ c.take-log.result c.add-added.new.self c.args.entry c.take-log.ensures.knows c.requires.opens_nobody c.add-added.ensures.ok c.add-added.ensures.err c.leave.ensures.knows
