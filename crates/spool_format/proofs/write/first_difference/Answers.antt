-- A word that is the same goes on with those before it.
use Rattle.std.proofs.Common.{arith}
use Rattle.spool_format.proofs.Slots.{same_none, same_next}
use Rattle.spool_format.proofs.write.first_difference.Goals as goal

pub loop-at-init : goal.loop-at-init
loop-at-init c = record { order = omega arith; within = omega arith; same = same_none c.args.old.now c.args.new.now c.args.from }

pub loop-at-preserved : goal.loop-at-preserved
loop-at-preserved c =
    record {
      order = omega arith;
      within = omega arith;
      same = same_next _ _ _ _ c.loop-at.invariant.order (omega arith) (omega arith) c.loop-at.invariant.same (omega arith);
    }
