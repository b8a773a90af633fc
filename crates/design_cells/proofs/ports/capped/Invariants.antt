use Rattle.std.proofs.Common.{◌≡◌, ℕ, ◌≤◌, ◌<◌}
use Rattle.std.specs.Int.{bit_at}
use Rattle.design_cells.proofs.ports.capped.Given as goal

abbrev pub invariant-loop-at : goal.invariant-loop-at
invariant-loop-at l = (j : ℕ) → 64 ≤ j → j < l.at → bit_at l.value.number j ≡ 0
