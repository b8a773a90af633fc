use Rattle.std.proofs.Common.{◌-◌}
use Rattle.cell_wide.proofs.Written.{IsComparing}
use Rattle.cell_wide.proofs.write.same.Given as goal

abbrev pub invariant-loop-at : goal.invariant-loop-at
invariant-loop-at g l = IsComparing (g.A.Words.low l.fn.one) (g.A.Words.low l.one) (g.B.Words.low l.fn.other) (g.B.Words.low l.other) l.width l.at

abbrev pub decreases-loop-at : goal.decreases-loop-at
decreases-loop-at g l = l.width - l.at
