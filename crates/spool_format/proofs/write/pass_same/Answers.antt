-- The words before the slot that was reached are the same: three runs, one behind another, reach it.
use Rattle.std.proofs.Common.{arith}
use Rattle.spool_format.proofs.Slots.{same_less, same_on}
use Rattle.spool_format.proofs.write.pass_same.Goals as goal

pub returns-clause-same : goal.returns-clause-same
returns-clause-same c =
    let two = same_on _ _ _ _ _ c.same_until-run.ensures.order c.same_until-part.ensures.order c.same_until-run.ensures.same c.same_until-part.ensures.same in
    let all = same_on _ _ _ _ _ (omega arith) c.first_difference-end.ensures.order two c.first_difference-end.ensures.same in
    same_less _ _ _ _ _ c.reach.ensures.from c.reach.ensures.end all

pub returns-then-end-new-clause-same : goal.returns-then-end-new-clause-same
returns-then-end-new-clause-same c =
    let two = same_on _ _ _ _ _ c.same_until-run.ensures.order c.same_until-part.ensures.order c.same_until-run.ensures.same c.same_until-part.ensures.same in
    same_on _ _ _ _ _ (omega arith) c.first_difference-end.ensures.order two c.first_difference-end.ensures.same
