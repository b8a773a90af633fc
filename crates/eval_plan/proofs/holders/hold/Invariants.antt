use Rattle.std.proofs.Common.{◌≡◌, ℕ, ◌+◌, length, cond}
use Rattle.std.specs.Prelude.{slice_index, nat_le, nat_lt, ◌&&◌}
use Rattle.eval_plan.proofs.holders.hold.Given as goal

abbrev pub invariant-loop-at : goal.invariant-loop-at
invariant-loop-at l = record {
  len : length l.holders.items ≡ length l.fn.holders.items;
  holders : (v : ℕ) → slice_index l.holders.items v ≡ cond (nat_le l.first v && nat_lt v (l.first + l.at)) l.place (slice_index l.fn.holders.items v);
}
