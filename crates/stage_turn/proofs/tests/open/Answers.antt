use Rattle.stage_turn.proofs.TestLog.{may_leave_opened, has_opened}
use Rattle.stage_turn.proofs.tests.open.Goals as goal

pub leave-requires-clause-leaves : goal.leave-requires-clause-leaves
leave-requires-clause-leaves g c = may_leave_opened c.open-opened.result c.args.seat.now.knows _ c.take-log.result c.open-opened.new.self c.take-log.ensures.finds c.take-log.ensures.knows c.requires.clerk c.open-opened.ensures.ok c.open-opened.ensures.err

pub returns-clause-opened : goal.returns-clause-opened
returns-clause-opened g c = has_opened c.open-opened.result c.args.seat.now.knows _ _ c.take-log.result c.open-opened.new.self c.take-log.ensures.knows c.open-opened.ensures.ok c.leave.ensures.knows
