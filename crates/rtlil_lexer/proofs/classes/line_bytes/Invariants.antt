use Rattle.std.proofs.Common.{◌≡◌, ◌+◌, drop, not}
use Rattle.std.specs.List.{prefix_len}
use Rattle.rtlil_lexer.specs.Characters.{is_line_feed}
use Rattle.rtlil_lexer.proofs.classes.line_bytes.Given as goal

abbrev pub invariant-loop-at : goal.invariant-loop-at
invariant-loop-at l = prefix_len (λ b. not (is_line_feed b)) l.text ≡ l.at + prefix_len (λ b. not (is_line_feed b)) (drop l.at l.text)
