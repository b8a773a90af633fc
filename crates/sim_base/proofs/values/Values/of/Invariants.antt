use Rattle.std.proofs.Common.{◌≡◌}
use Rattle.sim_base.proofs.Filled.{filled}
use Rattle.sim_base.proofs.values.Values.of.Given as goal

abbrev pub invariant-loop-n : goal.invariant-loop-n
invariant-loop-n l = l.all ≡ filled l.values l.n
