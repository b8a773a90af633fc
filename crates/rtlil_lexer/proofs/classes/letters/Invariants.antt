use Rattle.std.proofs.Common.{◌≡◌, ◌+◌, drop}
use Rattle.std.specs.List.{prefix_len}
use Rattle.rtlil_lexer.specs.Characters.{is_letter}
use Rattle.rtlil_lexer.proofs.classes.letters.Given as goal

abbrev pub invariant-loop-at : goal.invariant-loop-at
invariant-loop-at l = prefix_len is_letter l.text ≡ l.at + prefix_len is_letter (drop l.at l.text)
