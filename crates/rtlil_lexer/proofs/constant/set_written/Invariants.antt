use Rattle.std.proofs.Common.{◌≡◌, ◌-◌, drop, length}
use Rattle.rtlil_lexer.specs.Constants.{number_where, passes}
use Rattle.rtlil_lexer.proofs.constant.set_written.Given as goal

abbrev pub invariant-loop-at : goal.invariant-loop-at
invariant-loop-at l = record {
  width : l.bits.width ≡ l.fn.bits.width;
  number : l.bits.number ≡ number_where (passes l.sought) (drop (length l.digits - l.at) l.digits);
}
