use Rattle.std.proofs.Common.{◌≡◌, ◌-◌, ◌/◌, ◌^◌, ◌++◌, length, drop}
use Rattle.sim_base.specs.Digits.{lowest_digits}
use Rattle.sim_base.proofs.bits.Bits.write_hexadecimal.Given as goal

-- the digits still to come, before those that stand
abbrev pub invariant-loop-at : goal.invariant-loop-at
invariant-loop-at l = record {
  digits : lowest_digits 16 l.at (l.self.number / 16 ^ (length l.fn.into - l.at)) ++ drop l.at l.into ≡ lowest_digits 16 (length l.fn.into) l.self.number;
}
