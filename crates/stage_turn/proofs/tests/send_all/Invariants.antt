use Rattle.std.proofs.Common.{◌≡◌}
use Rattle.stage_turn.specs.Known.{IsResting}
use Rattle.stage_turn.specs.TestLog.{IsSameRole}
use Rattle.stage_turn.proofs.tests.send_all.Given as goal

abbrev pub invariant-loop-number : goal.invariant-loop-number
invariant-loop-number g l = (l.seat.turn ≡ l.fn.turn) × IsResting l.seat.knows × IsSameRole l.fn.seat.knows l.seat.knows × (l.seat.knows.own.clients ≡ l.fn.seat.knows.own.clients)
