-- What stands first in a text: a token, white space, a comment or a fault.
use Rattle.std.specs.Prelude.{ℕ, ◌+◌, ◌==◌, true, false, not, ◌&&◌, ◌||◌, List, ◌∷◌, length, drop, slice_index, nat_le, nat_lt, ℤ, Option, Some, None, Result, Ok, Err, if◌then◌else◌}
use Rattle.std.specs.List.{take_while}
use Rattle.std.specs.Char.{is_ascii_digit}
use Rattle.rtlil_lexer.specs.declared.token.TokenKind.{TokenKind}
use Rattle.rtlil_lexer.specs.declared.token.TokenKind.TheVariants as token
use Rattle.rtlil_lexer.specs.declared.fault.TextFaultKind.{TextFaultKind}
use Rattle.rtlil_lexer.specs.declared.fault.TextFaultKind.TheVariants as fault
use Rattle.rtlil_lexer.specs.declared.piece.Piece.{Piece}
use Rattle.rtlil_lexer.specs.Characters.{is_white, is_line_feed, is_letter, is_name_byte, is_constant_digit}
use Rattle.rtlil_lexer.specs.Constants.{ConstantValue, constant_value, widest}
use Rattle.rtlil_lexer.specs.ConstantText.{sign_length}
use Rattle.rtlil_lexer.specs.Numbers.{decimal, integer_of}
use Rattle.rtlil_lexer.specs.Strings.{body_of, quoted_of}

-- a piece, or the fault that stands in its place
abbrev pub First : Type 0
First = Result Piece TextFaultKind

abbrev pub token_of : TokenKind → ℕ → First
token_of kind size = Ok (record { token = Some kind; length = size })

abbrev pub gap_of : ℕ → First
gap_of size = Ok (record { token = None; length = size })

-- a comment goes up to the line's end
unfoldable pub comment_at : List ℕ → First
comment_at text = gap_of (length (take_while (λ b. not (is_line_feed b)) text))

unfoldable pub word_at : List ℕ → First
word_at text = token_of (token.Word (take_while is_letter text)) (length (take_while is_letter text))

-- an identifier whose first byte is given, a backslash or a dollar sign
unfoldable pub identifier_at : ℕ → List ℕ → First
identifier_at sign rest =
    if nat_lt 0 (length (take_while is_name_byte rest))
    then token_of (token.Identifier (sign ∷ take_while is_name_byte rest)) (1 + length (take_while is_name_byte rest))
    else Err fault.BadByte

-- a number that takes so many bytes, where it is within its bounds
abbrev pub integer_first : ℕ → Option ℤ → First
integer_first size None = Err fault.BadNumber
integer_first size (Some n) = token_of (token.Integer n) size

-- a constant that takes so many bytes, where its digits are within its width and the width within its bound
abbrev pub constant_of : ℕ → List ℕ → Option ConstantValue
constant_of width digits = if nat_le width widest && nat_le (length digits) width then Some (constant_value width digits) else None

abbrev pub constant_first : ℕ → Option ConstantValue → First
constant_first size None = Err fault.BadNumber
constant_first size (Some c) = token_of (token.Constant c) size

-- a constant, whose width takes so many bytes, from behind its quote on
unfoldable pub constant_at : List ℕ → List ℕ → First
constant_at width rest =
    constant_first (length width + 1 + sign_length rest + length (take_while is_constant_digit (drop (sign_length rest) rest)))
    (constant_of (decimal width) (take_while is_constant_digit (drop (sign_length rest) rest)))

-- an integer or a constant, which begin with the same digits: a quote (39) behind them tells
unfoldable pub number_at : List ℕ → First
number_at text =
    if slice_index text (length (take_while is_ascii_digit text)) == 39
    then constant_at (take_while is_ascii_digit text) (drop (length (take_while is_ascii_digit text) + 1) text)
    else integer_first (length (take_while is_ascii_digit text)) (integer_of false (take_while is_ascii_digit text))

-- an integer, from behind its minus on
unfoldable pub negative_at : List ℕ → First
negative_at rest =
    if nat_lt 0 (length (take_while is_ascii_digit rest))
    then integer_first (1 + length (take_while is_ascii_digit rest)) (integer_of true (take_while is_ascii_digit rest))
    else Err fault.BadByte

abbrev pub string_first : ℕ → Option (List ℕ) → First
string_first size None = Err fault.BadString
string_first size (Some bytes) = token_of (token.String bytes) size

abbrev pub closed_first : Option (List ℕ) → First
closed_first None = Err fault.BadString
closed_first (Some body) = string_first (length body + 2) (quoted_of body)

-- a string, from behind its first quote on
unfoldable pub string_at : List ℕ → First
string_at rest = closed_first (body_of rest)

-- a byte that is a token by itself
unfoldable pub sign_at : ℕ → First
sign_at b =
    if b == 123 then token_of token.LeftBrace 1 else (
    if b == 125 then token_of token.RightBrace 1 else (
    if b == 91 then token_of token.LeftBracket 1 else (
    if b == 93 then token_of token.RightBracket 1 else (
    if b == 58 then token_of token.Colon 1 else (
    if b == 44 then token_of token.Comma 1 else
    Err fault.BadByte)))))

-- what stands first in a text that begins with this byte
unfoldable pub first_of : ℕ → List ℕ → First
first_of b rest =
    if is_white b then gap_of 1 else (
    if is_line_feed b then token_of token.EndOfLine 1 else (
    if b == 35 then comment_at (b ∷ rest) else (
    if is_letter b then word_at (b ∷ rest) else (
    if is_ascii_digit b then number_at (b ∷ rest) else (
    if b == 45 then negative_at rest else (
    if b == 92 || b == 36 then identifier_at b rest else (
    if b == 34 then string_at rest else
    sign_at b)))))))
