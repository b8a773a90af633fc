use Rattle.std.proofs.Common.{◌≡◌, ◌+◌, ◌-◌, ◌≤◌, ◌^◌}
use Rattle.rtlil_lexer.proofs.constant.set_from.Given as goal

abbrev pub invariant-loop-at : goal.invariant-loop-at
invariant-loop-at l = record {
  width : l.bits.width ≡ l.fn.bits.width;
  from : l.from ≤ l.at;
  within : l.at ≤ l.width;
  number : l.bits.number + 2 ^ l.from ≡ 2 ^ l.at + l.fn.bits.number;
}

abbrev pub decreases-loop-at : goal.decreases-loop-at
decreases-loop-at l = l.width - l.at
