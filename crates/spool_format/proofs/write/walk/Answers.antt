-- The words of a slot stand behind those of the slots before it.
use Rattle.std.proofs.Common.{◌+◌, arith}
use Rattle.spool_format.proofs.Slots.{place_next, place_within}
use Rattle.spool_format.proofs.write.walk.Goals as goal

pub overflow_add-behind : goal.overflow_add-behind
overflow_add-behind c =
    let next = place_next c.args.widths.now c.loop-next.next (omega arith) in
    let most = place_within c.args.widths.now (c.loop-next.next + 1) in
    omega (arith, c.div_ceil.ensures)

pub loop-next-preserved : goal.loop-next-preserved
loop-next-preserved c =
    let next = place_next c.args.widths.now c.loop-next.next (omega arith) in
    record {
      order = omega arith;
      within = omega arith;
      place = omega (arith, c.div_ceil.ensures);
      from = omega arith;
      end = omega arith;
    }
