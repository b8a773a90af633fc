-- Marks in words of 64 bits, below words of which each bit says whether a word below is not 0. The words stand level by
-- level: the root alone, the 64 words below it, the 64 below each of these, and so on, down to the leaves, which hold the
-- marks. So the words below the one at a place stand from 64 * place + 1 on.
use Rattle.std.specs.Prelude.{◌≡◌, ◌≢◌, ℕ, zero, suc, ◌+◌, ◌*◌, ◌^◌, ◌<◌, ◌≤◌, ◌==◌, not, List, length, drop, slice_index}
use Rattle.std.specs.Int.{bit_at}
use Rattle.sim_base.specs.BitValue.{AreWords, digit_of, number_of_words}
use Rattle.sim_base.specs.Values.{words_of}

-- the place of the first word of a level
unfoldable pub first_place : ℕ → ℕ
first_place zero = 0
first_place (suc level) = 64 * first_place level + 1

-- 1 for a word that is not 0
abbrev pub some_digit : ℕ → ℕ
some_digit word = digit_of (not (word == 0))

-- above the leaves each bit says whether the word below is not 0, save the bit for the word at one place
abbrev pub IsSummedBut : ℕ → ℕ → List ℕ → Type 0
IsSummedBut except first words = (place j : ℕ) → place < first → j < 64 → 64 * place + 1 + j ≢ except → bit_at (slice_index words place) j ≡ some_digit (slice_index words (64 * place + 1 + j))

-- each bit does: the root, at place 0, has no bit
abbrev pub IsSummed : ℕ → List ℕ → Type 0
IsSummed first words = IsSummedBut 0 first words

-- the words of a set of numbers below size, with the leaves from the place first on
pub record IsTree (size first depth : ℕ) (words : List ℕ) : Type 0 where
  pub leaves : first ≡ first_place depth
  pub few : first < 2 ^ 32
  pub room : length words ≡ first + words_of size
  pub joined : length words ≤ 64 * first + 1
  pub fit : AreWords words
  pub summed : IsSummed first words
  pub below : number_of_words (drop first words) < 2 ^ size
