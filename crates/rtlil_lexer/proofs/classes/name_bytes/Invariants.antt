use Rattle.std.proofs.Common.{◌≡◌, ◌+◌, drop}
use Rattle.std.specs.List.{prefix_len}
use Rattle.rtlil_lexer.specs.Characters.{is_name_byte}
use Rattle.rtlil_lexer.proofs.classes.name_bytes.Given as goal

abbrev pub invariant-loop-at : goal.invariant-loop-at
invariant-loop-at l = prefix_len is_name_byte l.text ≡ l.at + prefix_len is_name_byte (drop l.at l.text)
