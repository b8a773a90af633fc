-- The numbers in a stimulus' text: repeats, and values of any width.
use Rattle.std.specs.Prelude.{ℕ, ◌^◌, List, Option, Some, None, ◌&&◌, option_and_then, unwrap_or, nat_le, nat_lt, if◌then◌else◌}
use Rattle.sim_base.specs.Digits.{digits_number, hexadecimal_number}
use Rattle.stimulus_text.specs.declared.value.Value.{Value}
use Rattle.stimulus_text.specs.declared.value.Value.TheVariants as value

-- how often a block comes: 1 to 4294967295 times, in 1 to 10 digits
abbrev pub repeats_of : List ℕ → Option ℕ
repeats_of word = option_and_then (λ n. if nat_le 1 n && nat_le n 4294967295 then Some n else None) (digits_number 10 word)

-- the number of a text of hexadecimal digits, where it is below 2 to the width
abbrev pub number_within : ℕ → List ℕ → Option ℕ
number_within width word = option_and_then (λ n. if nat_lt n (2 ^ width) then Some n else None) (hexadecimal_number word)

-- what a kept value stands for
abbrev pub number_of : Value → ℕ
number_of (value.Word n) = n
number_of (value.Digits digits) = unwrap_or (hexadecimal_number digits) 0
