-- The text of a constant: the digits of its width, a quote (39), an `s` (115) or none, and its digits.
use Rattle.std.specs.Prelude.{◌≡◌, ℕ, ◌+◌, ◌<◌, ◌≤◌, ◌==◌, true, List, length, drop, slice_index, if◌then◌else◌}
use Rattle.std.specs.List.{list_all, take_while}
use Rattle.std.specs.Char.{is_ascii_digit}
use Rattle.rtlil_lexer.specs.Characters.{is_constant_digit}
use Rattle.rtlil_lexer.specs.Constants.{ConstantValue, constant_value, widest}
use Rattle.rtlil_lexer.specs.Numbers.{decimal}

-- the digits of the width
abbrev pub width_digits : List ℕ → List ℕ
width_digits text = take_while is_ascii_digit text

abbrev pub behind_quote : List ℕ → List ℕ
behind_quote text = drop (length (width_digits text) + 1) text

-- how many bytes an `s` takes
abbrev pub sign_length : List ℕ → ℕ
sign_length rest = if slice_index rest 0 == 115 then 1 else 0

-- the digits
abbrev pub digits_in : List ℕ → List ℕ
digits_in text = drop (sign_length (behind_quote text)) (behind_quote text)

-- what the text stands for
abbrev pub constant_in : List ℕ → ConstantValue
constant_in text = constant_value (decimal (width_digits text)) (digits_in text)

-- a constant that is not too wide, with not too many digits
pub record IsConstantText (text : List ℕ) : Type 0 where
  pub quoted : length (width_digits text) < length text
  pub narrow : decimal (width_digits text) ≤ widest
  pub room : length (digits_in text) ≤ decimal (width_digits text)
  pub each : list_all is_constant_digit (digits_in text) ≡ true
