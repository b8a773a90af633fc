use Rattle.std.proofs.Common.{◌+◌, ◌-◌}
use Rattle.spool_replay.proofs.Listed.{IsPassing}
use Rattle.spool_replay.proofs.search.pass_change.Given as goal

abbrev pub invariant-loop : goal.invariant-loop
invariant-loop l = IsPassing l.widths l.chunk l.count (l.count - l.counter) (l.place + 5) l.at
