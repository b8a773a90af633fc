-- Each slot that is read leaves one less.
use Rattle.std.proofs.Common.{◌≡◌, ◌+◌, ◌-◌, get_or, arith}
use Rattle.spool_replay.proofs.Listed.{read_all, read_one, reading_next}
use Rattle.spool_replay.proofs.record.read_change.Goals as goal

pub read_slot-at-requires-clause-listed : goal.read_slot-at-requires-clause-listed
read_slot-at-requires-clause-listed c =
    let count = get_or c.args.chunk.now (c.args.place + 4) 0 in
    let left : count - c.loop.counter ≡ (count - (c.loop.counter + 1)) + 1 = omega arith in
    reading_next (count - (c.loop.counter + 1)) (count - c.loop.counter) left c.loop.invariant

pub loop-preserved : goal.loop-preserved
loop-preserved c =
    let count = get_or c.args.chunk.now (c.args.place + 4) 0 in
    let left : count - c.loop.counter ≡ (count - (c.loop.counter + 1)) + 1 = omega arith in
    read_one (count - (c.loop.counter + 1)) (count - c.loop.counter) c.read_slot-at.result c.read_slot-at.new.words left c.loop.invariant
    c.read_slot-at.ensures.words c.read_slot-at.ensures.behind c.read_slot-at.ensures.within c.read_slot-at.ensures.room

pub returns-clause-words : goal.returns-clause-words
returns-clause-words c =
    let count = get_or c.args.chunk.now (c.args.place + 4) 0 in
    (read_all (count - c.loop.counter) (omega arith) c.loop.invariant).0

pub returns-clause-behind : goal.returns-clause-behind
returns-clause-behind c =
    let count = get_or c.args.chunk.now (c.args.place + 4) 0 in
    (read_all (count - c.loop.counter) (omega arith) c.loop.invariant).1
