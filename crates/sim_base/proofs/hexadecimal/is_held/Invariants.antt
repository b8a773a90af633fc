use Rattle.std.proofs.Common.{ℕ, ◌≡◌, ◌^◌, ◌<◌, drop, Some}
use Rattle.sim_base.specs.Digits.{hexadecimal_after}
use Rattle.sim_base.proofs.hexadecimal.is_held.Given as goal

-- the digits so far stand for a number that the width holds
abbrev pub invariant-loop-at : goal.invariant-loop-at
invariant-loop-at l = (n : ℕ) × (hexadecimal_after 0 (drop l.at l.text) ≡ Some n) × (n < 2 ^ l.width)
