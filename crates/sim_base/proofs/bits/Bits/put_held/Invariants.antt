use Rattle.std.proofs.Common.{◌≡◌, drop, Some}
use Rattle.sim_base.specs.Digits.{hexadecimal_after}
use Rattle.sim_base.proofs.bits.Bits.put_held.Given as goal

-- the digits so far stand for the number
abbrev pub invariant-loop-at : goal.invariant-loop-at
invariant-loop-at l = record {
  width : l.self.width ≡ l.fn.self.width;
  read : hexadecimal_after 0 (drop l.at l.text) ≡ Some l.self.number;
}
