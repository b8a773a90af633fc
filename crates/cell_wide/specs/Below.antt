-- So many digits make a number below 2 to their number.
use Rattle.std.specs.Prelude.{ℕ, ◌-◌, ◌^◌, ◌<◌, min, Bool, true, false}
use Rattle.std.proofs.Common.{sym, ◌∙◌, ap, subst}
use Rattle.std.proofs.Math.Nat.{add_comm, sub-le, sub-add-min_cancel}
use Rattle.std.proofs.lemmas.Nat.{pow-add, mul-add-lt, mod_below, pow_pos, or_lt, xor_lt}
use lib.Bits.{and_lt}
use lib.Pow.{ones_lt, lt_of_le_ones}
use Rattle.cell_wide.specs.Words.{low_of_number, low_of_fill, low_of_chain, low_of_inverse, combined}
use Rattle.cell_wide.specs.declared.words.Bitwise.{Bitwise}
use Rattle.cell_wide.specs.declared.words.Bitwise.TheVariants as by

pub number_below : (number w : ℕ) → low_of_number number w < 2 ^ w
number_below number w = mod_below number (2 ^ w) (pow_pos w)

pub fill_below : (ones : Bool) (w : ℕ) → low_of_fill ones w < 2 ^ w
fill_below true w = ones_lt w
fill_below false w = pow_pos w

pub chain_below : (low high : ℕ → ℕ) (left w : ℕ) → ((k : ℕ) → low k < 2 ^ k) → ((k : ℕ) → high k < 2 ^ k) → low_of_chain low left high w < 2 ^ w
chain_below low high left w l h =
    subst (λ x. low_of_chain low left high w < x)
    (sym (pow-add 2 (min w left) (w - left)) ∙ ap (λ k. 2 ^ k) (add_comm (min w left) (w - left) ∙ sub-add-min_cancel w left))
    (mul-add-lt (high (w - left)) (2 ^ min w left) (low (min w left)) (2 ^ (w - left)) (h (w - left)) (l (min w left)))

pub inverse_below : (low : ℕ → ℕ) (w : ℕ) → low_of_inverse low w < 2 ^ w
inverse_below low w = lt_of_le_ones w (sub-le (2 ^ w - 1) (low w))

pub combined_below : (op : Bitwise) (a b w : ℕ) → a < 2 ^ w → b < 2 ^ w → combined op a b < 2 ^ w
combined_below by.And a b w l h = and_lt w a b l h
combined_below by.Or a b w l h = or_lt w a b l h
combined_below by.Xor a b w l h = xor_lt w a b l h
