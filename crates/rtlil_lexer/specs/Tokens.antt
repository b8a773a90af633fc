-- The tokens of a text, each with its place.
use Rattle.std.specs.Prelude.{◌≡◌, ℕ, zero, suc, ◌+◌, ◌-◌, ◌==◌, not, ◌&&◌, List, [], ◌∷◌, ◌++◌, take, nat_lt, Option, Some, None, Result, Ok, Err, if◌then◌else◌}
use Rattle.std.specs.List.{position_or_len}
use Rattle.std.specs.Str.Lossy.{utf8_valid_len}
use Rattle.rtlil_lexer.specs.declared.token.Token.{Token}
use Rattle.rtlil_lexer.specs.declared.token.TokenKind.{TokenKind}
use Rattle.rtlil_lexer.specs.declared.token.TokenKind.TheVariants as token
use Rattle.rtlil_lexer.specs.declared.fault.TextFault.{TextFault}
use Rattle.rtlil_lexer.specs.declared.fault.TextFault.TheVariants.{At, NoMemory}
use Rattle.rtlil_lexer.specs.declared.fault.TextFaultKind.{TextFaultKind}
use Rattle.rtlil_lexer.specs.declared.fault.TextFaultKind.TheVariants as fault
use Rattle.rtlil_lexer.specs.declared.place.Place.{Place}
use Rattle.rtlil_lexer.specs.Pieces.{First, first_of}

-- how many bytes stand before the first that is 0 or no UTF-8
abbrev pub sound_length : List ℕ → ℕ
sound_length text = position_or_len (λ b. b == 0) (take (utf8_valid_len text) text)

-- tokens up to the end of a text, or the first fault
abbrev pub Lexed : Type 0
Lexed = Result (List Token) TextFault

abbrev pub start : Place
start = record { line = 1; column = 1 }

-- a place of the same line, so many bytes on
abbrev pub onward : Place → ℕ → Place
onward place size = record place { column = place.column + size }

-- the place behind a piece: behind a line's end it is the beginning of the next line
abbrev pub behind_token : Place → TokenKind → ℕ → Place
behind_token place token.EndOfLine size = record { line = place.line + 1; column = 1 }
behind_token place _ size = onward place size

abbrev pub behind : Place → Option TokenKind → ℕ → Place
behind place None size = onward place size
behind place (Some kind) size = behind_token place kind size

abbrev pub token_at : Place → TokenKind → Token
token_at place kind = record { kind = kind; line = place.line; column = place.column }

-- the token of a piece, if it is one
abbrev pub tokens_in : Place → Option TokenKind → List Token
tokens_in place None = []
tokens_in place (Some kind) = token_at place kind ∷ []

abbrev pub fault_at : TextFaultKind → Place → TextFault
fault_at kind place = At kind place.line place.column

-- the end of the text ends its last line; behind a line feed no further line begins
abbrev pub last_end : Place → List Token
last_end place = if place.column == 1 && not (place.line == 1) then [] else token_at place token.EndOfLine ∷ []

abbrev pub with_front : List Token → Lexed → Lexed
with_front front (Ok tokens) = Ok (front ++ tokens)
with_front front (Err f) = Err f

-- what a text is from a place on that begins with a piece or a fault, where so many bytes from there on are sound, and
-- `go_on` says what stands behind a piece: how many more of its bytes there are, the place behind it, and how many bytes
-- are sound there
abbrev pub with_first : Place → ℕ → (ℕ → Place → ℕ → Lexed) → First → Lexed
with_first place sound go_on (Err kind) = Err (fault_at kind place)
with_first place sound go_on (Ok piece) =
    if nat_lt sound piece.length then Err (fault_at fault.BadByte (onward place sound)) else
    with_front (tokens_in place piece.token) (go_on (piece.length - 1) (behind place piece.token piece.length) (sound - piece.length))

-- the tokens of a text, of which so many bytes belong to a piece that was read; behind them is the place, from which on
-- so many bytes are sound
unfoldable pub tokens_from : ℕ → Place → ℕ → List ℕ → Lexed
tokens_from read place sound [] = Ok (last_end place)
tokens_from (suc read) place sound (b ∷ rest) = tokens_from read place sound rest
tokens_from zero place sound (b ∷ rest) = with_first place sound (λ read behind sound. tokens_from read behind sound rest) (first_of b rest)

-- the tokens of a text, or its first fault
abbrev pub lexed : List ℕ → Lexed
lexed text = tokens_from 0 start (sound_length text) text

-- a fault that is answered is what was read; want of memory says nothing of it
abbrev pub Fails : {X : Type 0} → TextFault → Result X TextFault → Type 0
Fails NoMemory read = Unit {0}
Fails (At kind line column) read = read ≡ Err (At kind line column)
