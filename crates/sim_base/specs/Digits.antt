-- Numbers written in digits.
use Rattle.std.specs.Prelude.{ℕ, zero, suc, ◌+◌, ◌-◌, ◌*◌, ◌/◌, ◌%◌, List, [], ◌∷◌, ◌++◌, length, Option, Some, None, ◌&&◌, nat_le, nat_lt, if◌then◌else◌}
use Rattle.std.specs.Char.{digit_value, is_ascii_digit}

-- the number of `front` with these decimal digits behind it, where they are digits
unfoldable pub decimal_after : ℕ → List ℕ → Option ℕ
decimal_after front [] = Some front
decimal_after front (c ∷ cs) = if is_ascii_digit c then decimal_after (front * 10 + (c - 48)) cs else None

-- the number of a text of 1 to `most` decimal digits
unfoldable pub digits_number : ℕ → List ℕ → Option ℕ
digits_number most text = if nat_le 1 (length text) && nat_le (length text) most then decimal_after 0 text else None

-- the digit d as a character, in lower case
abbrev pub digit_character : ℕ → ℕ
digit_character d = if nat_lt d 10 then 48 + d else 87 + d

-- the `width` lowest digits of n to this base, the most significant first
unfoldable pub lowest_digits : ℕ → ℕ → ℕ → List ℕ
lowest_digits base zero n = []
lowest_digits base (suc width) n = lowest_digits base width (n / base) ++ digit_character (n % base) ∷ []

-- the number of `front` with these hexadecimal digits of either case behind it, where they are digits
unfoldable pub hexadecimal_after : ℕ → List ℕ → Option ℕ
hexadecimal_after front [] = Some front
hexadecimal_after front (c ∷ cs) = if nat_lt (digit_value c) 16 then hexadecimal_after (front * 16 + digit_value c) cs else None

-- the number of a text of one or more hexadecimal digits
unfoldable pub hexadecimal_number : List ℕ → Option ℕ
hexadecimal_number text = if nat_le 1 (length text) then hexadecimal_after 0 text else None
