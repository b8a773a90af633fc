use Rattle.std.proofs.Common.{◌≡◌, ℕ, ◌+◌, length, cond}
use Rattle.std.specs.Prelude.{slice_index, nat_le, nat_lt, ◌&&◌, ◌==◌}
use Rattle.driver_check.proofs.drivers.claim.Given as goal

abbrev pub invariant-loop-at : goal.invariant-loop-at
invariant-loop-at l = record {
  len : length l.owners.items ≡ length l.fn.owners.items;
  owners : (v : ℕ) → slice_index l.owners.items v ≡ cond ((nat_le l.first v && nat_lt v (l.first + l.at)) && slice_index l.fn.owners.items v == l.nobody) l.place (slice_index l.fn.owners.items v);
}
