use Rattle.std.proofs.Common.{◌≡◌, ◌<◌, ℕ, length, get_or, true}
use Rattle.sim_base.specs.Values.{widths}
use Rattle.state_tests.proofs.memories.are_outs.Given as goal

abbrev pub invariant-loop-out : goal.invariant-loop-out
invariant-loop-out l = l.fit ≡ true → (length l.outs ≡ length l.mem.reads) × ((k : ℕ) → k < l.out-index → get_or (widths l.outs) k 0 ≡ l.mem.width)
