-- What a text is made of, said of its parts: tokens, white space and comments one behind another, up to the text's end or
-- to its first fault.
use Rattle.std.specs.Prelude.{◌≡◌, ◌≢◌, ⊤, ◌⊎◌, ℕ, ◌-◌, ◌<◌, ◌≤◌, ◌==◌, Bool, true, false, not, ◌||◌, List, [], ◌∷◌, ◌++◌, length, pos, neg_ℤ, Option, Some, None, is_some, if◌then◌else◌}
use Rattle.std.specs.List.{list_all}
use Rattle.std.specs.Char.{is_ascii_digit}
use Rattle.rtlil_lexer.specs.declared.token.Token.{Token}
use Rattle.rtlil_lexer.specs.declared.token.TokenKind.{TokenKind}
use Rattle.rtlil_lexer.specs.declared.token.TokenKind.TheVariants as token
use Rattle.rtlil_lexer.specs.declared.fault.TextFault.{TextFault}
use Rattle.rtlil_lexer.specs.declared.fault.TextFaultKind.{TextFaultKind}
use Rattle.rtlil_lexer.specs.declared.fault.TextFaultKind.TheVariants as fault
use Rattle.rtlil_lexer.specs.declared.place.Place.{Place}
use Rattle.rtlil_lexer.specs.Characters.{is_white, is_line_feed, is_letter, is_name_byte, is_constant_digit, is_octal_digit}
use Rattle.rtlil_lexer.specs.Constants.{constant_value, widest}
use Rattle.rtlil_lexer.specs.Numbers.{decimal}
use Rattle.rtlil_lexer.specs.Strings.{octal_behind, named_escape, is_byte}
use Rattle.rtlil_lexer.specs.Tokens.{start, onward, behind, tokens_in, last_end, fault_at, sound_length}

-- what follows does not begin with a byte that passes
abbrev pub NotOn : (ℕ → Bool) → List ℕ → Type 0
NotOn test [] = ⊤
NotOn test (b ∷ rest) = test b ≡ false

-- one byte or more, and each of them passes
pub record IsRun (test : ℕ → Bool) (bytes : List ℕ) : Type 0 where
  pub some : 0 < length bytes
  pub each : list_all test bytes ≡ true

-- a string's body, and the bytes that it stands for: a byte for itself; behind a backslash one to three octal digits, as
-- many as there are, or another byte. No line ends in it, and no quote stands in it but behind a backslash.
pub data Writes : List ℕ → List ℕ → Type 0 where
  nothing : Writes [] []
  plain : (b : ℕ) (body bytes : List ℕ) → b ≢ 92 → b ≢ 34 → b ≢ 10 → Writes body bytes → Writes (b ∷ body) (b ∷ bytes)
  octal : (digits body bytes : List ℕ) → IsRun is_octal_digit digits → length digits ≤ 3 → (length digits ≡ 3) ⊎ NotOn is_octal_digit body
      → Writes body bytes → Writes (92 ∷ digits ++ body) (octal_behind 0 digits ∷ bytes)
  named : (b : ℕ) (body bytes : List ℕ) → is_octal_digit b ≡ false → b ≢ 10 → Writes body bytes → Writes (92 ∷ b ∷ body) (named_escape b ∷ bytes)

-- a constant: the digits of its width, a quote (39), an `s` (115) or none, and its digits, as many as there are
pub record IsConstant (width sign digits rest : List ℕ) : Type 0 where
  pub sized : IsRun is_ascii_digit width
  pub signed : (sign ≡ []) ⊎ (sign ≡ 115 ∷ [])
  pub each : list_all is_constant_digit digits ≡ true
  pub ends : NotOn is_constant_digit rest
  pub unsigned : sign ≡ [] → NotOn (λ b. b == 115) (digits ++ rest)

-- a constant that is not too wide, and whose digits are not too many
pub record IsWithin (width digits : List ℕ) : Type 0 where
  pub narrow : decimal width ≤ widest
  pub fits : length digits ≤ decimal width

-- the bytes that are tokens by themselves: { } [ ] : ,
abbrev pub sign_of : ℕ → Option TokenKind
sign_of b =
    if b == 123 then Some token.LeftBrace else (
    if b == 125 then Some token.RightBrace else (
    if b == 91 then Some token.LeftBracket else (
    if b == 93 then Some token.RightBracket else (
    if b == 58 then Some token.Colon else (
    if b == 44 then Some token.Comma else None)))))

-- a piece of a text, the token that it is, if it is one, and what follows it
pub data IsPiece : List ℕ → Option TokenKind → List ℕ → Type 0 where
  white : (b : ℕ) (rest : List ℕ) → is_white b ≡ true → IsPiece (b ∷ []) None rest
  -- `#` and what follows up to the line's end
  comment : (text rest : List ℕ) → list_all (λ b. not (is_line_feed b)) text ≡ true → NotOn (λ b. not (is_line_feed b)) rest → IsPiece (35 ∷ text) None rest
  line_feed : (rest : List ℕ) → IsPiece (10 ∷ []) (Some token.EndOfLine) rest
  word : (letters rest : List ℕ) → IsRun is_letter letters → NotOn is_letter rest → IsPiece letters (Some (token.Word letters)) rest
  -- a backslash (92) or a dollar sign (36) and what follows up to white space or the line's end
  identifier : (b : ℕ) (name rest : List ℕ) → (b ≡ 92) ⊎ (b ≡ 36) → IsRun is_name_byte name → NotOn is_name_byte rest
      → IsPiece (b ∷ name) (Some (token.Identifier (b ∷ name))) rest
  -- digits without a quote behind them
  integer : (digits rest : List ℕ) → IsRun is_ascii_digit digits → NotOn (λ b. is_ascii_digit b || b == 39) rest → decimal digits ≤ 2147483647
      → IsPiece digits (Some (token.Integer (pos (decimal digits)))) rest
  -- a minus (45) and digits
  negative : (digits rest : List ℕ) → IsRun is_ascii_digit digits → NotOn is_ascii_digit rest → decimal digits ≤ 2147483648
      → IsPiece (45 ∷ digits) (Some (token.Integer (neg_ℤ (pos (decimal digits))))) rest
  constant : (width sign digits rest : List ℕ) → IsConstant width sign digits rest → IsWithin width digits
      → IsPiece (width ++ (39 ∷ sign ++ digits)) (Some (token.Constant (constant_value (decimal width) digits))) rest
  -- between quotes (34), each escape a byte
  string : (body bytes rest : List ℕ) → Writes body bytes → list_all is_byte bytes ≡ true → IsPiece (34 ∷ body ++ 34 ∷ []) (Some (token.String bytes)) rest
  sign : (b : ℕ) (kind : TokenKind) (rest : List ℕ) → sign_of b ≡ Some kind → IsPiece (b ∷ []) (Some kind) rest

-- a byte with which a piece may begin
abbrev pub begins_piece : ℕ → Bool
begins_piece b = is_white b || is_line_feed b || b == 35 || is_letter b || is_ascii_digit b || b == 45 || b == 92 || b == 36 || b == 34 || is_some (sign_of b)

-- a text with a fault at its first byte
pub data IsFaulty : List ℕ → TextFaultKind → Type 0 where
  stray_byte : (b : ℕ) (rest : List ℕ) → begins_piece b ≡ false → IsFaulty (b ∷ rest) fault.BadByte
  lone_minus : (rest : List ℕ) → NotOn is_ascii_digit rest → IsFaulty (45 ∷ rest) fault.BadByte
  lone_sign : (b : ℕ) (rest : List ℕ) → (b ≡ 92) ⊎ (b ≡ 36) → NotOn is_name_byte rest → IsFaulty (b ∷ rest) fault.BadByte
  -- no body of a string is closed here
  open_string : (rest : List ℕ) → ((body bytes more : List ℕ) → Writes body bytes → rest ≢ body ++ 34 ∷ more) → IsFaulty (34 ∷ rest) fault.BadString
  wide_escape : (body bytes rest : List ℕ) → Writes body bytes → list_all is_byte bytes ≡ false → IsFaulty (34 ∷ body ++ 34 ∷ rest) fault.BadString
  great_integer : (digits rest : List ℕ) → IsRun is_ascii_digit digits → NotOn (λ b. is_ascii_digit b || b == 39) rest → 2147483647 < decimal digits
      → IsFaulty (digits ++ rest) fault.BadNumber
  great_negative : (digits rest : List ℕ) → IsRun is_ascii_digit digits → NotOn is_ascii_digit rest → 2147483648 < decimal digits
      → IsFaulty (45 ∷ digits ++ rest) fault.BadNumber
  wide_constant : (width sign digits rest : List ℕ) → IsConstant width sign digits rest → (IsWithin width digits → ⊥)
      → IsFaulty (width ++ (39 ∷ sign ++ (digits ++ rest))) fault.BadNumber

-- from a place on, from which so many bytes are sound, a text is these tokens up to its end, or these tokens and then a
-- fault; white space and comments stand between them, and each byte of the text before its end or its fault is in one of
-- these
pub data Reads : Place → ℕ → List ℕ → List Token → Option TextFault → Type 0 where
  ended : (place : Place) (sound : ℕ) → Reads place sound [] (last_end place) None
  piece : (place : Place) (sound : ℕ) (bytes : List ℕ) (kind : Option TokenKind) (rest : List ℕ) (tokens : List Token) (end : Option TextFault)
      → IsPiece bytes kind rest → length bytes ≤ sound → Reads (behind place kind (length bytes)) (sound - length bytes) rest tokens end
      → Reads place sound (bytes ++ rest) (tokens_in place kind ++ tokens) end
  -- a byte in the piece is unsound
  unsound : (place : Place) (sound : ℕ) (bytes : List ℕ) (kind : Option TokenKind) (rest : List ℕ)
      → IsPiece bytes kind rest → sound < length bytes → Reads place sound (bytes ++ rest) [] (Some (fault_at fault.BadByte (onward place sound)))
  faulty : (place : Place) (sound : ℕ) (text : List ℕ) (kind : TextFaultKind)
      → IsFaulty text kind → Reads place sound text [] (Some (fault_at kind place))

-- a text from its first byte on
abbrev pub ReadsWhole : List ℕ → List Token → Option TextFault → Type 0
ReadsWhole text tokens end = Reads start (sound_length text) text tokens end
