-- Copies, word by word.
use Rattle.std.proofs.Common.{◌≡◌, ℕ, ◌+◌, ◌-◌, ◌*◌, ◌/◌, ◌%◌, ◌^◌, ◌<◌, ◌≤◌, List, length, get_or, set, sym, ◌∙◌, ap, subst, arith, inl, inr, bit_or, bit_and, w64, max, min, get_or-set_same, get_or-set_other}
use Rattle.std.proofs.lemmas.Bool.{cases_lt, cases_eq}
use Rattle.std.proofs.lemmas.Nat.{mod_below, pow_pos}
use Rattle.std.proofs.lemmas.Nat.Bits.{bit_at_or, bit_at_and, bit_at_not, bit_at_above, bit_at_ones, bit_at_ones_above, bit_at-lt}
use Rattle.std.specs.Int.{bit_at, bit_not}
use Rattle.sim_base.specs.BitValue.{number_of_words, AreWords, digit_after_copy}
use Rattle.sim_base.proofs.Words.{bit_words, fit_set, copied_in, copied_below, copied_above, below_from_bits}
use Rattle.sim_base.proofs.Field.{bit_at_mod, shl_low, shl_high}

-- a copy after a copy
pub copied_join : (at from from_at k m old mid new v : ℕ) → ((j : ℕ) → bit_at mid j ≡ digit_after_copy at from from_at k old j) → ((j : ℕ) → bit_at new j ≡ digit_after_copy (at + k) v 0 m mid j) → ((i : ℕ) → i < m → bit_at v i ≡ bit_at from (from_at + k + i)) → (j : ℕ) → bit_at new j ≡ digit_after_copy at from from_at (k + m) old j
copied_join at from from_at k m old mid new v first second same j = elim (cases_lt j at) [
  | inl a ↦ second j ∙ copied_below (at + k) v 0 m mid j (omega arith) ∙ first j ∙ copied_below at from from_at k old j a ∙ sym (copied_below at from from_at (k + m) old j a)
  | inr b ↦ (elim (cases_lt j (at + k)) [
    | inl d ↦ second j ∙ copied_below (at + k) v 0 m mid j d ∙ first j ∙ copied_in at from from_at k old j b d ∙ sym (copied_in at from from_at (k + m) old j b (omega arith))
    | inr e ↦ (elim (cases_lt j (at + k + m)) [
      | inl f ↦
          (let z : from_at + k + (j - (at + k)) ≡ from_at + (j - at) = omega arith in
          let y : 0 + (j - (at + k)) ≡ j - (at + k) = omega arith in
          second j ∙ copied_in (at + k) v 0 m mid j e f ∙ ap (bit_at v) y ∙ same (j - (at + k)) (omega arith) ∙ ap (bit_at from) z ∙ sym (copied_in at from from_at (k + m) old j b (omega arith)))
      | inr g ↦ second j ∙ copied_above (at + k) v 0 m mid j g ∙ first j ∙ copied_above at from from_at k old j e ∙ sym (copied_above at from from_at (k + m) old j (omega arith))
    ])
  ])
]

-- a copy inside the width keeps the number below
pub copied_number_below : (w at from from_at n old new : ℕ) → at + n ≤ w → old < 2 ^ w → ((j : ℕ) → bit_at new j ≡ digit_after_copy at from from_at n old j) → new < 2 ^ w
copied_number_below w at from from_at n old new le below bits =
    below_from_bits w new (λ j h. bits j ∙ copied_above at from from_at n old j (omega arith) ∙ bit_at_above old w j below h)

-- the parts of a word that is merged
mask_digit : (off n j : ℕ) → j < 64 → off ≤ j → j < off + n → bit_at ((2 ^ n - 1) * 2 ^ off % 2 ^ 64) j ≡ 1
mask_digit off n j in' a b = bit_at_mod ((2 ^ n - 1) * 2 ^ off) 64 j in' ∙ shl_high (2 ^ n - 1) off j a ∙ bit_at_ones n (j - off) (omega arith)

mask_below : (off n j : ℕ) → j < 64 → j < off → bit_at ((2 ^ n - 1) * 2 ^ off % 2 ^ 64) j ≡ 0
mask_below off n j in' a = bit_at_mod ((2 ^ n - 1) * 2 ^ off) 64 j in' ∙ shl_low (2 ^ n - 1) off j a

mask_above : (off n j : ℕ) → j < 64 → off + n ≤ j → bit_at ((2 ^ n - 1) * 2 ^ off % 2 ^ 64) j ≡ 0
mask_above off n j in' a = bit_at_mod ((2 ^ n - 1) * 2 ^ off) 64 j in' ∙ shl_high (2 ^ n - 1) off j (omega arith) ∙ bit_at_ones_above n (j - off) (omega arith)

part_digit : (off n v j : ℕ) → j < 64 → off ≤ j → j < off + n → bit_at (v % 2 ^ n * 2 ^ off % 2 ^ 64) j ≡ bit_at v (j - off)
part_digit off n v j in' a b = bit_at_mod (v % 2 ^ n * 2 ^ off) 64 j in' ∙ shl_high (v % 2 ^ n) off j a ∙ bit_at_mod v n (j - off) (omega arith)

part_below : (off n v j : ℕ) → j < 64 → j < off → bit_at (v % 2 ^ n * 2 ^ off % 2 ^ 64) j ≡ 0
part_below off n v j in' a = bit_at_mod (v % 2 ^ n * 2 ^ off) 64 j in' ∙ shl_low (v % 2 ^ n) off j a

part_above : (off n v j : ℕ) → j < 64 → off + n ≤ j → bit_at (v % 2 ^ n * 2 ^ off % 2 ^ 64) j ≡ 0
part_above off n v j in' a = bit_at_mod (v % 2 ^ n * 2 ^ off) 64 j in' ∙ shl_high (v % 2 ^ n) off j (omega arith) ∙ bit_at_above (v % 2 ^ n) n (j - off) (mod_below v (2 ^ n) (pow_pos n)) (omega arith)

-- a bit of `word & !mask | part`
mixed : (word mask part j : ℕ) → mask < 2 ^ 64 → j < 64 → bit_at (bit_or (bit_and word (bit_not w64 mask)) part) j ≡ max (min (bit_at word j) (1 - bit_at mask j)) (bit_at part j)
mixed word mask part j lt in' =
    bit_at_or (bit_and word (bit_not w64 mask)) part j
    ∙ ap (λ x. max x (bit_at part j)) (bit_at_and word (bit_not w64 mask) j ∙ ap (λ x. min (bit_at word j) x) (bit_at_not w64 mask j lt in'))

mix_in : (w m p v : ℕ) → m ≡ 1 → p ≡ v → max (min w (1 - m)) p ≡ v
mix_in w m p v a b = omega arith

mix_out : (w m p : ℕ) → w < 2 → m ≡ 0 → p ≡ 0 → max (min w (1 - m)) p ≡ w
mix_out w m p lt a b = omega arith

pub merged_digit : (word off n v j : ℕ) → off + n ≤ 64 → j < 64 → bit_at (bit_or (bit_and word (bit_not w64 ((2 ^ n - 1) * 2 ^ off % 2 ^ 64))) (v % 2 ^ n * 2 ^ off % 2 ^ 64)) j ≡ digit_after_copy off v 0 n word j
merged_digit word off n v j le in' =
    mixed word ((2 ^ n - 1) * 2 ^ off % 2 ^ 64) (v % 2 ^ n * 2 ^ off % 2 ^ 64) j (mod_below ((2 ^ n - 1) * 2 ^ off) (2 ^ 64) (pow_pos 64)) in'
    ∙ elim (cases_lt j off) [
      | inl a ↦ mix_out (bit_at word j) _ _ (bit_at-lt word j) (mask_below off n j in' a) (part_below off n v j in' a) ∙ sym (copied_below off v 0 n word j a)
      | inr b ↦ (elim (cases_lt j (off + n)) [
        | inl d ↦ (let z : j - off ≡ 0 + (j - off) = omega arith in mix_in (bit_at word j) _ _ (bit_at v (j - off)) (mask_digit off n j in' b d) (part_digit off n v j in' b d) ∙ ap (bit_at v) z ∙ sym (copied_in off v 0 n word j b d))
        | inr e ↦ mix_out (bit_at word j) _ _ (bit_at-lt word j) (mask_above off n j in' e) (part_above off n v j in' e) ∙ sym (copied_above off v 0 n word j e)
      ])
    ]

-- a word with a part digit_after_copy gives a number with that part digit_after_copy
pub copied_word : (ws : List ℕ) (at n v word : ℕ) → AreWords ws → word < 2 ^ 64 → at / 64 < length ws → at % 64 + n ≤ 64 → ((j : ℕ) → j < 64 → bit_at word j ≡ digit_after_copy (at % 64) v 0 n (get_or ws (at / 64) 0) j) → (j : ℕ) → bit_at (number_of_words (set ws (at / 64) word)) j ≡ digit_after_copy at v 0 n (number_of_words ws) j
copied_word ws at n v word fit lt inside le one j =
    bit_words (set ws (at / 64) word) j (fit_set ws (at / 64) word fit lt) ∙
    elim (cases_eq (j / 64) (at / 64)) [
      | inl e ↦
          (let f : get_or (set ws (at / 64) word) (at / 64) 0 ≡ word = get_or-set_same ws (at / 64) word 0 inside in
          let old : bit_at (get_or ws (at / 64) 0) (j % 64) ≡ bit_at (number_of_words ws) j = ap (λ k. bit_at (get_or ws k 0) (j % 64)) (sym e) ∙ sym (bit_words ws j fit) in
          ap (λ k. bit_at (get_or (set ws (at / 64) word) k 0) (j % 64)) e ∙ ap (λ x. bit_at x (j % 64)) f ∙ one (j % 64) (omega arith)
          ∙ elim (cases_lt j at) [
            | inl a ↦ copied_below (at % 64) v 0 n (get_or ws (at / 64) 0) (j % 64) (omega arith) ∙ old ∙ sym (copied_below at v 0 n (number_of_words ws) j a)
            | inr b ↦ (elim (cases_lt j (at + n)) [
              | inl d ↦
                  (let z : 0 + (j % 64 - at % 64) ≡ 0 + (j - at) = omega arith in
                  copied_in (at % 64) v 0 n (get_or ws (at / 64) 0) (j % 64) (omega arith) (omega arith) ∙ ap (bit_at v) z ∙ sym (copied_in at v 0 n (number_of_words ws) j b d))
              | inr g ↦ copied_above (at % 64) v 0 n (get_or ws (at / 64) 0) (j % 64) (omega arith) ∙ old ∙ sym (copied_above at v 0 n (number_of_words ws) j g)
            ])
          ])
      | inr other ↦
          (let f : get_or (set ws (at / 64) word) (j / 64) 0 ≡ get_or ws (j / 64) 0 = get_or-set_other ws (at / 64) (j / 64) word 0 other in
          ap (λ x. bit_at x (j % 64)) f ∙ sym (bit_words ws j fit)
          ∙ elim (cases_lt j at) [
            | inl a ↦ sym (copied_below at v 0 n (number_of_words ws) j a)
            | inr b ↦ sym (copied_above at v 0 n (number_of_words ws) j (omega arith))
          ])
    ]

-- a word in its place is a part of 64 digits
pub placed_word : (ws : List ℕ) (place word : ℕ) → AreWords ws → word < 2 ^ 64 → place < length ws → (j : ℕ) → bit_at (number_of_words (set ws place word)) j ≡ digit_after_copy (64 * place) word 0 64 (number_of_words ws) j
placed_word ws place word fit lt inside j =
    let q : 64 * place / 64 ≡ place = omega arith in
    let r : 64 * place % 64 ≡ 0 = omega arith in
    let there : 64 * place / 64 < length ws = omega arith in
    subst (λ k. bit_at (number_of_words (set ws k word)) j ≡ digit_after_copy (64 * place) word 0 64 (number_of_words ws) j) q
    (copied_word ws (64 * place) 64 word word fit lt there (omega arith)
    (λ i small.
    let z : i ≡ 0 + (i - 64 * place % 64) = omega arith in
    ap (bit_at word) z ∙ sym (copied_in (64 * place % 64) word 0 64 (get_or ws (64 * place / 64) 0) i (omega arith) (omega arith))) j)

-- and one that fits keeps the number below
pub placed_below : (w place word old new : ℕ) → word < 2 ^ (w - 64 * place) → old < 2 ^ w → ((j : ℕ) → bit_at new j ≡ digit_after_copy (64 * place) word 0 64 old j) → 64 * place < w → new < 2 ^ w
placed_below w place word old new fits below bits inside =
    below_from_bits w new (λ j h. bits j ∙ elim (cases_lt j (64 * place + 64)) [
      | inl a ↦ copied_in (64 * place) word 0 64 old j (omega arith) a ∙ bit_at_above word (w - 64 * place) (0 + (j - 64 * place)) fits (omega arith)
      | inr b ↦ copied_above (64 * place) word 0 64 old j b ∙ bit_at_above old w j below h
    ])
