use Rattle.std.proofs.Common.{◌≡◌, ◌+◌, drop}
use Rattle.std.specs.List.{prefix_len}
use Rattle.rtlil_lexer.specs.Characters.{is_constant_digit}
use Rattle.rtlil_lexer.proofs.classes.constant_digits.Given as goal

abbrev pub invariant-loop-at : goal.invariant-loop-at
invariant-loop-at l = prefix_len is_constant_digit l.text ≡ l.at + prefix_len is_constant_digit (drop l.at l.text)
