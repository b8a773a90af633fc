use Rattle.std.proofs.Common.{◌≡◌, ◌≤◌, drop, min}
use Rattle.rtlil_lexer.specs.Numbers.{decimal_behind}
use Rattle.rtlil_lexer.proofs.number.capped_decimal.Given as goal

abbrev pub invariant-loop-digit : goal.invariant-loop-digit
invariant-loop-digit l = record {
  same : min 4294967296 (decimal_behind l.number (drop l.digit-index l.digits)) ≡ min 4294967296 (decimal_behind 0 l.digits);
  capped : l.number ≤ 4294967296;
}
