use Rattle.std.proofs.Common.{◌≡◌}
use Rattle.eval_commit.proofs.PortsOver.{over}
use Rattle.eval_commit.proofs.copy.copy_values.Given as goal

abbrev pub invariant-loop-n : goal.invariant-loop-n
invariant-loop-n l = l.into ≡ over l.from l.fn.into l.n
