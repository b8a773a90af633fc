use Rattle.std.proofs.Common.{◌≡◌, length}
use Rattle.rtlil_lexer.specs.Tokens.{lexed, with_front}
use Rattle.rtlil_lexer.specs.Cursors.{left_of, HasRoom}
use Rattle.rtlil_lexer.proofs.lexer.lex.Given as goal

abbrev pub invariant-loop-cursor : goal.invariant-loop-cursor
invariant-loop-cursor l = record {
  read : lexed l.bytes ≡ with_front l.tokens.items (left_of l.cursor);
  room : HasRoom l.cursor;
}

abbrev pub decreases-loop-cursor : goal.decreases-loop-cursor
decreases-loop-cursor l = length l.cursor.rest.now
