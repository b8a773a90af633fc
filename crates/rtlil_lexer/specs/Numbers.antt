-- Numbers in decimal digits.
use Rattle.std.specs.Prelude.{ℕ, ◌+◌, ◌-◌, ◌*◌, List, [], ◌∷◌, Bool, true, false, nat_le, ℤ, pos, neg_ℤ, Option, Some, None, if◌then◌else◌}

-- the number of `front` with these digits behind it
unfoldable pub decimal_behind : ℕ → List ℕ → ℕ
decimal_behind front [] = front
decimal_behind front (d ∷ ds) = decimal_behind (front * 10 + (d - 48)) ds

abbrev pub decimal : List ℕ → ℕ
decimal digits = decimal_behind 0 digits

-- a number of 32 bits with a sign, behind a minus or without one
abbrev pub integer_of : Bool → List ℕ → Option ℤ
integer_of true digits = if nat_le (decimal digits) 2147483648 then Some (neg_ℤ (pos (decimal digits))) else None
integer_of false digits = if nat_le (decimal digits) 2147483647 then Some (pos (decimal digits)) else None
