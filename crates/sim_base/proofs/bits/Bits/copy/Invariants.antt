use Rattle.std.proofs.Common.{◌≡◌, ℕ, ◌-◌, ◌<◌, ◌≤◌, ◌^◌, ◌==◌, not}
use Rattle.std.specs.Int.{bit_at}
use Rattle.sim_base.specs.BitValue.{digit_after_copy}
use Rattle.sim_base.proofs.bits.Bits.copy.Given as goal

abbrev pub invariant-loop-done : goal.invariant-loop-done
invariant-loop-done l = record {
  done : l.done ≤ l.n;
  width : l.self.width ≡ l.fn.self.width;
  below : l.self.number < 2 ^ l.self.width;
  bits : (j : ℕ) → bit_at l.self.number j ≡ digit_after_copy l.at l.from.number l.from_at l.done l.fn.self.number j;
  told : l.changed ≡ not (l.self.number == l.fn.self.number);
}

abbrev pub decreases-loop-done : goal.decreases-loop-done
decreases-loop-done l = l.n - l.done
