-- Where each slot takes one word, as many slots are passed as words.
use Rattle.std.proofs.Common.{◌+◌, ◌-◌, arith}
use Rattle.spool_format.proofs.Slots.{place_more}
use Rattle.spool_format.proofs.write.reach.Goals as goal

pub returns-then-is_one_each-clause-place : goal.returns-then-is_one_each-clause-place
returns-then-is_one_each-clause-place c =
    let more = place_more c.args.widths.now c.args.slot (c.args.slot + (c.args.end - c.args.place)) (omega arith) in
    omega arith
