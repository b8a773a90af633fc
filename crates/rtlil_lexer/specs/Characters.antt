-- The bytes of which tokens are made.
use Rattle.std.specs.Prelude.{ℕ, ◌==◌, Bool, not, ◌&&◌, ◌||◌, nat_le}

-- space, tab and carriage return
abbrev pub is_white : ℕ → Bool
is_white b = b == 32 || b == 9 || b == 13

abbrev pub is_line_feed : ℕ → Bool
is_line_feed b = b == 10

-- a lower-case letter or `_`
abbrev pub is_letter : ℕ → Bool
is_letter b = (nat_le 97 b && nat_le b 122) || b == 95

-- what may stand in an identifier behind its first byte
abbrev pub is_name_byte : ℕ → Bool
is_name_byte b = not (is_white b) && not (is_line_feed b)

-- one of 0 1 x z m -
abbrev pub is_constant_digit : ℕ → Bool
is_constant_digit b = b == 48 || b == 49 || b == 120 || b == 122 || b == 109 || b == 45

-- one of 0 to 7
abbrev pub is_octal_digit : ℕ → Bool
is_octal_digit b = nat_le 48 b && nat_le b 55
