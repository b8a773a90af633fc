-- The least mark is taken.
use Rattle.std.proofs.Common.{◌≡◌, ◌≢◌, ℕ, ◌+◌, ◌-◌, ◌*◌, ◌/◌, ◌%◌, ◌^◌, ◌<◌, ◌≤◌, List, length, get_or, drop, set, refl, sym, ◌∙◌, ap, subst, arith, w64}
use Rattle.std.specs.Int.{bit_at, trailing_zeros}
use Rattle.sim_base.specs.BitValue.{bit_value, number_of_words, digit_after_set, AreWords}
use Rattle.dirty_set.specs.Marks.{IsLeastTaken}
use Rattle.dirty_set.specs.Tree.{IsTree, IsSummed}
use Rattle.dirty_set.proofs.Descent.{lowest}
use Rattle.dirty_set.proofs.Leaves.{leaf_digits, leaf_written, taken_word, taken_digit, taken_marked, taken_within, taken_least}

module _ (size first depth : ℕ) (words : List ℕ) (tree : IsTree size first depth words) (place x : ℕ) (from : first ≤ place) (some : get_or words place 0 ≢ 0) (least : (q : ℕ) → first ≤ q → q < place → get_or words q 0 ≡ 0) (e : x ≡ get_or words place 0) where
  low : (trailing_zeros w64 x < 64) × (bit_at x (trailing_zeros w64 x) ≡ 1) × ((i : ℕ) → i < trailing_zeros w64 x → bit_at x i ≡ 0)
  low = lowest x (λ z. some (sym e ∙ z)) (subst (λ y. y < 2 ^ 64) (sym e) (tree.fit place))

  first_digit : bit_at (get_or words place 0) (trailing_zeros w64 x) ≡ 1
  first_digit = ap (λ y. bit_at y (trailing_zeros w64 x)) (sym e) ∙ low.1

  clear : (j : ℕ) → j < trailing_zeros w64 x → bit_at (get_or words place 0) j ≡ 0
  clear j lt = ap (λ y. bit_at y j) (sym e) ∙ low.2 j lt

  pub least_within : (place - first) * 64 + trailing_zeros w64 x < size
  least_within = taken_within size first depth words tree place (trailing_zeros w64 x) from least low.0 first_digit clear

  module _ (after : List ℕ) (w : ℕ) (room : length after ≡ length words) (summed : IsSummed first after) (fit : AreWords after) (leaves : drop first after ≡ set (drop first words) (place - first) w) (fits : w < 2 ^ 64) (one : (j : ℕ) → j < 64 → bit_at w j ≡ digit_after_set (trailing_zeros w64 x) 0 x j) where
    word_is : first + ((place - first) * 64 + trailing_zeros w64 x) / 64 ≡ place
    word_is = taken_word size first depth words tree place (trailing_zeros w64 x) from least low.0 first_digit clear

    digit_is : ((place - first) * 64 + trailing_zeros w64 x) % 64 ≡ trailing_zeros w64 x
    digit_is = taken_digit size first depth words tree place (trailing_zeros w64 x) from least low.0 first_digit clear

    leaf_after : drop first after ≡ set (drop first words) (((place - first) * 64 + trailing_zeros w64 x) / 64) w
    leaf_after =
        let q : place - first ≡ ((place - first) * 64 + trailing_zeros w64 x) / 64 = omega (arith, word_is) in
        leaves ∙ ap (λ k. set (drop first words) k w) q

    digits : (j : ℕ) → j < 64 → bit_at w j ≡ digit_after_set (((place - first) * 64 + trailing_zeros w64 x) % 64) 0 (get_or words (first + ((place - first) * 64 + trailing_zeros w64 x) / 64) 0) j
    digits j h =
        one j h ∙ ap (λ k. digit_after_set k 0 x j) (sym digit_is)
        ∙ ap (λ y. digit_after_set (((place - first) * 64 + trailing_zeros w64 x) % 64) 0 y j) (e ∙ ap (λ k. get_or words k 0) (sym word_is))

    pub taken_tree : IsTree size first depth after
    taken_tree = leaf_written size first depth words tree after ((place - first) * 64 + trailing_zeros w64 x) 0 w room summed fit leaf_after least_within fits digits

    pub taken : IsLeastTaken ((place - first) * 64 + trailing_zeros w64 x) (bit_value size (number_of_words (drop first words))) (bit_value size (number_of_words (drop first after)))
    taken = record {
      within = least_within;
      marked = taken_marked size first depth words tree place (trailing_zeros w64 x) from least low.0 first_digit clear;
      least = taken_least size first depth words tree place (trailing_zeros w64 x) from least low.0 first_digit clear;
      width = refl;
      marks = leaf_digits size first depth words tree after ((place - first) * 64 + trailing_zeros w64 x) 0 w room summed fit leaf_after least_within fits digits;
    }
