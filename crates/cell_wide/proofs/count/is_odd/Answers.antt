use Rattle.std.proofs.Common.{arith}
use Rattle.cell_wide.proofs.Counted.{counted}
use Rattle.cell_wide.proofs.count.is_odd.Goals as goal

pub loop-at-preserved : goal.loop-at-preserved
loop-at-preserved g c =
    counted (g.W.Words.low c.args.words.now) (g.W.Words.low c.loop-at.words) (g.W.Words.low c.next.new.self) c.args.width c.loop-at.at c.loop-at.ones c.min-n.result c.next.result c.loop-at.invariant c.next.ensures.rest c.next.ensures.word
    (omega (arith, c.min-n.ensures, c.loop-at-test.true)) (g.met.W.Words.below c.args.words.now c.loop-at.at)
