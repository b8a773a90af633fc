use Rattle.std.proofs.Common.{◌-◌}
use Rattle.sim_base.proofs.Filling.{IsFilling}
use Rattle.cell_wide.specs.Words.{Passes}
use Rattle.cell_wide.proofs.write.write.Given as goal

abbrev pub invariant-loop-at : goal.invariant-loop-at
invariant-loop-at g l = record {
  passed : Passes (g.W.Words.low l.fn.words) l.at (g.W.Words.low l.fn.words l.at) (g.W.Words.low l.words);
  filling : IsFilling l.fn.into l.into l.out (g.W.Words.low l.fn.words l.width) l.width l.at l.changed;
}

abbrev pub decreases-loop-at : goal.decreases-loop-at
decreases-loop-at g l = l.width - l.at
