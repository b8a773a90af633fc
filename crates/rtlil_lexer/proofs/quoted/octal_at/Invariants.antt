use Rattle.std.proofs.Common.{◌≡◌, ◌+◌, ◌^◌, ◌<◌, drop, length}
use Rattle.std.specs.List.{take_while}
use Rattle.rtlil_lexer.specs.Characters.{is_octal_digit}
use Rattle.rtlil_lexer.specs.Strings.{octal_behind}
use Rattle.rtlil_lexer.proofs.quoted.octal_at.Given as goal

abbrev pub invariant-loop-at : goal.invariant-loop-at
invariant-loop-at l = record {
  rest : octal_behind l.value (take_while is_octal_digit (drop l.at l.front)) ≡ octal_behind 0 (take_while is_octal_digit l.front);
  count : l.at + length (take_while is_octal_digit (drop l.at l.front)) ≡ length (take_while is_octal_digit l.front);
  below : l.value < 8 ^ l.at;
}
