-- A value of bits: a width, and a number below 2 to that width.
use Rattle.std.specs.Prelude.{ℕ, ◌+◌, ◌-◌, ◌*◌, ◌/◌, ◌^◌, max, Option, Some, None, option_and_then, List, [], ◌∷◌, Bool, ◌&&◌, nat_eq, nat_le, nat_lt, if◌then◌else◌, slice_index, ◌<◌}
use Rattle.std.specs.Int.{bit_at}
use Rattle.sim_base.specs.Digits.{hexadecimal_number}

pub record BitValue : Type 0 where
  pub width : ℕ
  pub number : ℕ

-- the number that words of 64 bits stand for, the least word first
unfoldable pub number_of_words : List ℕ → ℕ
number_of_words [] = 0
number_of_words (w ∷ ws) = number_of_words ws * 2 ^ 64 + w

abbrev pub bit_value : ℕ → ℕ → BitValue
bit_value width number = record { width = width; number = number }

-- the digit of a truth value
abbrev pub digit_of : Bool → ℕ
digit_of v = if v then 1 else 0

abbrev pub zeros : ℕ → BitValue
zeros width = record { width = width; number = 0 }

-- the digit at j after the digit v was written at i
abbrev pub digit_after_set : ℕ → ℕ → ℕ → ℕ → ℕ
digit_after_set i v old j = if nat_eq j i then v else bit_at old j

-- the digit at j after n digits of `from`, beginning at from_at, were written from `at` on
abbrev pub digit_after_copy : ℕ → ℕ → ℕ → ℕ → ℕ → ℕ → ℕ
digit_after_copy at from from_at n old j = if nat_le at j && nat_lt j (at + n) then bit_at from (from_at + (j - at)) else bit_at old j

-- each is a word of 64 bits
abbrev pub AreWords : List ℕ → Type 0
AreWords ws = (k : ℕ) → slice_index ws k < 2 ^ 64

-- how many hexadecimal digits a value of this width takes
abbrev pub hexadecimal_length : ℕ → ℕ
hexadecimal_length width = max 1 ((width + 3) / 4)

-- the value of this width that a text of hexadecimal digits stands for, or none
abbrev pub hexadecimal_value : ℕ → List ℕ → Option BitValue
hexadecimal_value width text = option_and_then (λ n. if nat_lt n (2 ^ width) then Some (bit_value width n) else None) (hexadecimal_number text)
