use Rattle.std.proofs.Common.{◌-◌}
use Rattle.cell_wide.proofs.Counted.{IsCounting}
use Rattle.cell_wide.proofs.count.is_odd.Given as goal

abbrev pub invariant-loop-at : goal.invariant-loop-at
invariant-loop-at g l = IsCounting (g.W.Words.low l.fn.words) (g.W.Words.low l.words) l.width l.at l.ones

abbrev pub decreases-loop-at : goal.decreases-loop-at
decreases-loop-at g l = l.width - l.at
