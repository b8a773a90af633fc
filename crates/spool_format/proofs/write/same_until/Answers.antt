-- A step of words that are the same goes on with those before it.
use Rattle.std.proofs.Common.{drop, take, sym, ◌-◌, ◌∙◌, arith}
use Rattle.std.proofs.lemmas.Slice.Eq.{bytes_eq-Decides}
use Rattle.spool_format.proofs.Slots.{same_none, same_on}
use Rattle.spool_format.proofs.write.same_until.Goals as goal

pub loop-at-init : goal.loop-at-init
loop-at-init c = record { order = omega arith; within = omega arith; same = same_none c.args.old.now c.args.new.now c.args.from }

pub loop-at-preserved : goal.loop-at-preserved
loop-at-preserved c =
    let step = (bytes_eq-Decides (take (c.block_end-end.result - c.loop-at.at) (drop c.loop-at.at c.args.old.now)) (take (c.block_end-end.result - c.loop-at.at) (drop c.loop-at.at c.args.new.now))).0 (sym c.same.ensures ∙ c.if-not-same.false) in
    record {
      order = omega arith;
      within = c.block_end-end.ensures.within;
      same = same_on _ _ _ _ _ c.loop-at.invariant.order c.block_end-end.ensures.order c.loop-at.invariant.same step;
    }
