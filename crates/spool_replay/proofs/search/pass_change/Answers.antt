-- Each slot that is passed leaves one less.
use Rattle.std.proofs.Common.{◌≡◌, ◌+◌, ◌-◌, get_or, arith}
use Rattle.spool_replay.proofs.Listed.{pass_all, pass_next, pass_one}
use Rattle.spool_replay.proofs.search.pass_change.Goals as goal

pub pass_slot-at-requires-clause-listed : goal.pass_slot-at-requires-clause-listed
pass_slot-at-requires-clause-listed c =
    let count = get_or c.args.chunk.now (c.args.place + 4) 0 in
    let left : count - c.loop.counter ≡ (count - (c.loop.counter + 1)) + 1 = omega arith in
    pass_next (count - (c.loop.counter + 1)) (count - c.loop.counter) left c.loop.invariant

pub loop-preserved : goal.loop-preserved
loop-preserved c =
    let count = get_or c.args.chunk.now (c.args.place + 4) 0 in
    let left : count - c.loop.counter ≡ (count - (c.loop.counter + 1)) + 1 = omega arith in
    pass_one (count - (c.loop.counter + 1)) (count - c.loop.counter) c.pass_slot-at.result left c.loop.invariant c.pass_slot-at.ensures.behind c.pass_slot-at.ensures.within

pub returns-clause-behind : goal.returns-clause-behind
returns-clause-behind c =
    let count = get_or c.args.chunk.now (c.args.place + 4) 0 in
    pass_all (count - c.loop.counter) (omega arith) c.loop.invariant
