-- Whole numbers in digits.
use Rattle.std.specs.Prelude.{ℕ, suc, ℤ, pos, negsuc, ◌-ℤ◌, Bool, ◌^◌, if◌then◌else◌}

-- the absolute value
abbrev pub magnitude : ℤ → ℕ
magnitude (pos n) = n
magnitude (negsuc n) = suc n

-- the whole number of these lowest 128 digits that is below 0 or not
abbrev pub whole : Bool → ℕ → ℤ
whole negative low = if negative then pos low -ℤ pos (2 ^ 128) else pos low

-- and the one of these lowest 64 digits
abbrev pub narrow : Bool → ℕ → ℤ
narrow negative low = if negative then pos low -ℤ pos (2 ^ 64) else pos low
