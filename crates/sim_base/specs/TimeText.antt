-- The text of a time: seconds in 1 to 10 decimal digits, a dot, and 1 to 15 digits of the second's fraction.
use Rattle.std.specs.Prelude.{ℕ, ◌+◌, ◌-◌, ◌*◌, ◌/◌, ◌%◌, ◌^◌, ◌==◌, List, ◌∷◌, ◌++◌, length, take, drop, Option, Some, None, option_and_then, position, nat_le, if◌then◌else◌, decimal}
use Rattle.sim_base.specs.Digits.{digits_number, lowest_digits}

-- in femtoseconds: 4294967295.999999999999999 seconds
abbrev pub largest_time : ℕ
largest_time = 4294967295999999999999999

-- a number of femtoseconds that is a time
abbrev pub time_of : ℕ → Option ℕ
time_of femtoseconds = if nat_le femtoseconds largest_time then Some femtoseconds else None

-- missing digits of the fraction are zeros
abbrev pub time_from_parts : ℕ → ℕ → ℕ → Option ℕ
time_from_parts seconds fraction digits = time_of (seconds * 10 ^ 15 + fraction * 10 ^ (15 - digits))

abbrev pub time_from_texts : List ℕ → List ℕ → Option ℕ
time_from_texts seconds fraction =
    option_and_then (λ s. option_and_then (λ f. time_from_parts s f (length fraction)) (digits_number 15 fraction)) (digits_number 10 seconds)

-- the femtoseconds that a text stands for, or none
unfoldable pub read_time : List ℕ → Option ℕ
read_time text = option_and_then (λ dot. time_from_texts (take dot text) (drop (dot + 1) text)) (position (λ c. c == 46) text)

-- how a time is written: seconds without leading zeros, a dot and 15 digits
unfoldable pub time_text : ℕ → List ℕ
time_text femtoseconds = decimal (femtoseconds / 10 ^ 15) ++ 46 ∷ lowest_digits 10 15 (femtoseconds % 10 ^ 15)
