use Rattle.std.proofs.Common.{◌≡◌, drop, false}
use Rattle.rtlil_lexer.specs.Strings.{body_length}
use Rattle.rtlil_lexer.proofs.Escapes.{further}
use Rattle.rtlil_lexer.proofs.strings.body_length.Given as goal

abbrev pub invariant-loop-at : goal.invariant-loop-at
invariant-loop-at l = further l.at (body_length l.escaped (drop l.at l.rest)) ≡ body_length false l.rest
