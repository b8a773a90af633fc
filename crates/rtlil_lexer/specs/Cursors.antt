-- A reader that stands somewhere in a text.
use Rattle.std.specs.Prelude.{◌+◌, ◌≤◌, List, [], ◌∷◌, length, Option, Some, None}
use Rattle.rtlil_lexer.specs.declared.token.Token.{Token}
use Rattle.rtlil_lexer.specs.declared.lexer.Cursor.{Cursor}
use Rattle.rtlil_lexer.specs.Tokens.{Lexed, tokens_from}

-- what the text is from there on
abbrev pub left_of : Cursor → Lexed
left_of cursor = tokens_from 0 cursor.place cursor.sound cursor.rest.now

-- no more bytes are sound than are left, and each place up to the text's end has a line and a column of 32 bits
pub record HasRoom (cursor : Cursor) : Type 0 where
  pub sound : cursor.sound ≤ length cursor.rest.now
  pub line : cursor.place.line + length cursor.rest.now ≤ 4294967295
  pub column : cursor.place.column + length cursor.rest.now ≤ 4294967295

-- one token or none
abbrev pub one_or_none : Option Token → List Token
one_or_none None = []
one_or_none (Some token) = token ∷ []
