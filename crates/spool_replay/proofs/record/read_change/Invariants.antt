use Rattle.std.proofs.Common.{◌+◌, ◌-◌}
use Rattle.spool_replay.proofs.Listed.{IsReading}
use Rattle.spool_replay.proofs.record.read_change.Given as goal

abbrev pub invariant-loop : goal.invariant-loop
invariant-loop l = IsReading l.widths l.chunk l.initial.words l.words l.count (l.count - l.counter) (l.place + 5) l.at
