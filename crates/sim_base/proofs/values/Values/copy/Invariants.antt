use Rattle.std.proofs.Common.{◌≡◌, ℕ, ◌-◌, ◌≤◌, ◌==◌, not}
use Rattle.std.specs.Int.{bit_at}
use Rattle.sim_base.specs.BitValue.{digit_after_copy}
use Rattle.sim_base.specs.Values.{number_at, with_number}
use Rattle.sim_base.proofs.values.Values.copy.Given as goal

abbrev pub invariant-loop-done : goal.invariant-loop-done
invariant-loop-done l = record {
  some : l.done ≤ l.k;
  value : l.self ≡ with_number l.fn.self l.n (number_at l.self l.n);
  bits : (j : ℕ) → bit_at (number_at l.self l.n) j ≡ digit_after_copy l.at l.from.number l.from_at l.done (number_at l.fn.self l.n) j;
  told : l.changed ≡ not (number_at l.self l.n == number_at l.fn.self l.n);
}

abbrev pub decreases-loop-done : goal.decreases-loop-done
decreases-loop-done l = l.k - l.done
