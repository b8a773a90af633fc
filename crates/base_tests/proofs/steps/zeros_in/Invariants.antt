use Rattle.std.proofs.Common.{◌≡◌, ◌+◌, ◌≤◌}
use Rattle.base_tests.proofs.steps.zeros_in.Given as goal

abbrev pub invariant-loop-byte : goal.invariant-loop-byte
invariant-loop-byte g l = (l.count ≤ l.byte-index) × (l.steps ≡ l.fn.steps + l.byte-index)
