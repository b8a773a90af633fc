use Rattle.std.proofs.Common.{◌≡◌, map}
use Rattle.sim_base.proofs.Filled.{filled}
use Rattle.circuit.proofs.store.start_regs.Given as goal

abbrev pub invariant-loop-n : goal.invariant-loop-n
invariant-loop-n l = l.values ≡ filled (map (λ r. r.init) l.regs) l.n
