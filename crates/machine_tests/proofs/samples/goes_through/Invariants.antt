use Rattle.std.proofs.Common.{◌≡◌}
use Rattle.machine_tests.proofs.samples.goes_through.Given as goal

abbrev pub invariant-loop-sample : goal.invariant-loop-sample
invariant-loop-sample g l = l.machine.circuit ≡ l.circuit
