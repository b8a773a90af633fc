use Rattle.std.proofs.Common.{◌≡◌, map, false}
use Rattle.eval_commit.proofs.PortsOver.{over}
use Rattle.eval_commit.proofs.diagnostics.clear_fired.Given as goal

abbrev pub invariant-loop-n : goal.invariant-loop-n
invariant-loop-n l = l.fired ≡ over (map (λ _. false) l.fn.fired) l.fn.fired l.n
