use Rattle.std.proofs.Common.{◌≡◌, ◌++◌, length, drop}
use Rattle.sim_base.specs.Digits.{lowest_digits}
use Rattle.sim_base.proofs.digits.write_lowest_digits.Given as goal

-- the digits still to come, before those that stand
abbrev pub invariant-loop-at : goal.invariant-loop-at
invariant-loop-at l = record {
  digits : lowest_digits l.base l.at l.rest ++ drop l.at l.into ≡ lowest_digits l.base (length l.fn.into) l.fn.number;
}
