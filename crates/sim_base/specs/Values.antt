-- Values of bits, one after another in words of 64 bits.
use Rattle.std.specs.Prelude.{◌≡◌, ℕ, zero, suc, ◌+◌, ◌-◌, ◌/◌, ◌^◌, ◌<◌, ◌==◌, List, [], ◌∷◌, length, map, take, drop, sum_by, Bool, not, slice_index, slice_set}
use Rattle.sim_base.specs.BitValue.{BitValue, bit_value, number_of_words, AreWords}

abbrev pub numbers : List BitValue → List ℕ
numbers values = map (λ v. v.number) values

abbrev pub widths : List BitValue → List ℕ
widths values = map (λ v. v.width) values

-- the width and the number of the value at a place, and 0 where there is none
abbrev pub width_at : List BitValue → ℕ → ℕ
width_at values n = slice_index (widths values) n

abbrev pub number_at : List BitValue → ℕ → ℕ
number_at values n = slice_index (numbers values) n

-- the value at a place, and 0 of no bits where there is none
abbrev pub value_at : List BitValue → ℕ → BitValue
value_at values n = bit_value (width_at values n) (number_at values n)

-- the values after one of them was given another number
abbrev pub with_number : List BitValue → ℕ → ℕ → List BitValue
with_number values n number = slice_set values n (bit_value (width_at values n) number)

-- one of the values was given a number, and it is told whether it had another
pub record IsPut (n number : ℕ) (old new : List BitValue) (changed : Bool) : Type 0 where
  pub value : new ≡ with_number old n number
  pub told : changed ≡ not (number_at old n == number)

-- how many words a value of this width takes, which is one at least
abbrev pub words_of : ℕ → ℕ
words_of width = (width - 1) / 64 + 1

-- how many words stand before the value at a place
unfoldable pub first_word : List ℕ → ℕ → ℕ
first_word [] n = 0
first_word (w ∷ ws) zero = 0
first_word (w ∷ ws) (suc n) = words_of w + first_word ws n

-- how many words values of these widths take
abbrev pub room_of : List ℕ → ℕ
room_of widths = sum_by words_of widths

-- the values of these widths that words stand for
unfoldable pub values_of : List ℕ → List ℕ → List BitValue
values_of [] xs = []
values_of (w ∷ ws) xs = bit_value w (number_of_words (take (words_of w) xs)) ∷ values_of ws (drop (words_of w) xs)

-- words that hold values of these widths, each from its place on
pub record IsLaidOut (words widths places : List ℕ) : Type 0 where
  pub few : length widths < 2 ^ 32
  pub shape : length places ≡ length widths
  pub placed : (n : ℕ) → n < length widths → slice_index places n ≡ first_word widths n
  pub room : length words ≡ room_of widths
  pub below : (n : ℕ) → number_at (values_of widths words) n < 2 ^ slice_index widths n
  pub fit : AreWords words
