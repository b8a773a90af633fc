use Rattle.std.proofs.Common.{◌≡◌, ◌-◌, drop, length}
use Rattle.std.specs.List.{list_all}
use Rattle.rtlil_lexer.specs.Strings.{unescaped, is_byte}
use Rattle.rtlil_lexer.proofs.quoted.is_all_bytes.Given as goal

abbrev pub invariant-loop-at : goal.invariant-loop-at
invariant-loop-at l = list_all is_byte (unescaped (drop l.at l.body)) ≡ list_all is_byte (unescaped l.body)

abbrev pub decreases-loop-at : goal.decreases-loop-at
decreases-loop-at l = length l.body - l.at
