use Rattle.std.proofs.Common.{◌-◌}
use Rattle.cell_wide.proofs.Counted.{IsSearching}
use Rattle.cell_wide.proofs.count.lowest.Given as goal

abbrev pub invariant-loop-at : goal.invariant-loop-at
invariant-loop-at g l = IsSearching (g.W.Words.low l.fn.words) (g.W.Words.low l.words) l.width l.at

abbrev pub decreases-loop-at : goal.decreases-loop-at
decreases-loop-at g l = l.width - l.at
