use Rattle.std.proofs.Common.{◌≡◌}
use Rattle.state_cells.specs.Diagnostics.{round_of}
use Rattle.eval_commit.specs.Fired.{all_fired_after}
use Rattle.eval_commit.proofs.PortsOver.{over}
use Rattle.eval_commit.proofs.diagnostics.next_fired.Given as goal

abbrev pub invariant-loop-n : goal.invariant-loop-n
invariant-loop-n l = l.fired ≡ over (all_fired_after l.circuit.diags l.fn.fired (round_of l.before l.now)) l.fn.fired l.n
