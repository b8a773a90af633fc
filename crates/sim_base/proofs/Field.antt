-- Some digits of a number, as a word.
use Rattle.std.proofs.Common.{◌≡◌, ℕ, ◌+◌, ◌-◌, ◌*◌, ◌/◌, ◌%◌, ◌^◌, ◌<◌, ◌≤◌, List, [], ◌∷◌, length, get_or, set, refl, sym, ◌∙◌, ap, arith, inl, inr, bit_or, ltb, cond}
use Rattle.std.proofs.lemmas.Bool.{cases_lt, cond-true, cond-false, lt-ltb, le-ltb}
use Rattle.std.proofs.lemmas.Nat.{shr_split, shr-shr, mod_below, pow_pos}
use Rattle.std.proofs.lemmas.Nat.Bits.{bit_at-zero, bit_at_cat_low, bit_at_cat_high, bit_at_above, same_from_bits_below, bit_at_or}
use Rattle.std.specs.Int.{bit_at}
use Rattle.sim_base.specs.BitValue.{number_of_words, AreWords}
use Rattle.sim_base.proofs.Words.{bit_words}

pub bit_at_shr : (n k j : ℕ) → bit_at (n / 2 ^ k) j ≡ bit_at n (k + j)
bit_at_shr n k j = ap (λ m. m % 2) (shr-shr n k j)

pub bit_at_mod : (n w j : ℕ) → j < w → bit_at (n % 2 ^ w) j ≡ bit_at n j
bit_at_mod n w j lt =
    sym (bit_at_cat_low (n / 2 ^ w) w (n % 2 ^ w) j lt) ∙ ap (λ m. bit_at m j) (shr_split n w)

pub shl_low : (y s j : ℕ) → j < s → bit_at (y * 2 ^ s) j ≡ 0
shl_low y s j lt = let e : y * 2 ^ s + 0 ≡ y * 2 ^ s = omega arith in ap (λ m. bit_at m j) (sym e) ∙ bit_at_cat_low y s 0 j lt ∙ bit_at-zero j

pub shl_high : (y s j : ℕ) → s ≤ j → bit_at (y * 2 ^ s) j ≡ bit_at y (j - s)
shl_high y s j le = let e : y * 2 ^ s + 0 ≡ y * 2 ^ s = omega arith in ap (λ m. bit_at m j) (sym e) ∙ bit_at_cat_high y s 0 j (pow_pos s) le

-- two words, from a digit of the first on
pub joined_digit : (low high off j : ℕ) → low < 2 ^ 64 → 0 < off → off < 64 → j < 64 → bit_at (bit_or (low / 2 ^ off) (high * 2 ^ (64 - off) % 2 ^ 64)) j ≡ cond (ltb (off + j) 64) (bit_at low (off + j)) (bit_at high (off + j - 64))
joined_digit low high off j fit pos lt in' =
    bit_at_or (low / 2 ^ off) (high * 2 ^ (64 - off) % 2 ^ 64) j ∙
    (let a : bit_at (low / 2 ^ off) j ≡ bit_at low (off + j) = bit_at_shr low off j in
    let b : bit_at (high * 2 ^ (64 - off) % 2 ^ 64) j ≡ bit_at (high * 2 ^ (64 - off)) j = bit_at_mod (high * 2 ^ (64 - off)) 64 j in' in
    elim (cases_lt (off + j) 64) [
      | inl d ↦
          (let z : bit_at (high * 2 ^ (64 - off)) j ≡ 0 = shl_low high (64 - off) j (omega arith) in
          omega (arith, a, b, z, cond-true (ltb (off + j) 64) (bit_at low (off + j)) (bit_at high (off + j - 64)) (lt-ltb (off + j) 64 d)))
      | inr e ↦
          (let z : bit_at low (off + j) ≡ 0 = bit_at_above low 64 (off + j) fit e in
          let same : j - (64 - off) ≡ off + j - 64 = omega arith in
          let h : bit_at (high * 2 ^ (64 - off)) j ≡ bit_at high (off + j - 64) = shl_high high (64 - off) j (omega arith) ∙ ap (bit_at high) same in
          omega (arith, a, b, z, h, cond-false (ltb (off + j) 64) (bit_at low (off + j)) (bit_at high (off + j - 64)) (le-ltb (off + j) 64 e)))
    ])

-- the word of the joined digits
pub field_number : (ws : List ℕ) (at n low high v : ℕ) → AreWords ws → n ≤ 64 → low ≡ get_or ws (at / 64) 0 → (64 < at % 64 + n → high ≡ get_or ws (at / 64 + 1) 0) → ((j : ℕ) → j < 64 → bit_at v j ≡ cond (ltb (at % 64 + j) 64) (bit_at low (at % 64 + j)) (bit_at high (at % 64 + j - 64))) → v % 2 ^ n ≡ number_of_words ws / 2 ^ at % 2 ^ n
field_number ws at n low high v fit small l h bits =
    same_from_bits_below n (v % 2 ^ n) (number_of_words ws / 2 ^ at % 2 ^ n) (mod_below v (2 ^ n) (pow_pos n)) (mod_below (number_of_words ws / 2 ^ at) (2 ^ n) (pow_pos n))
    (λ j lt.
    bit_at_mod v n j lt ∙ bits j (omega arith) ∙
    elim (cases_lt (at % 64 + j) 64) [
      | inl d ↦
          (let q : (at + j) / 64 ≡ at / 64 = omega arith in
          let r : (at + j) % 64 ≡ at % 64 + j = omega arith in
          cond-true (ltb (at % 64 + j) 64) (bit_at low (at % 64 + j)) (bit_at high (at % 64 + j - 64)) (lt-ltb (at % 64 + j) 64 d)
          ∙ ap (λ x. bit_at x (at % 64 + j)) l
          ∙ sym (bit_words ws (at + j) fit ∙ ap (λ k. bit_at (get_or ws k 0) ((at + j) % 64)) q ∙ ap (bit_at (get_or ws (at / 64) 0)) r))
      | inr e ↦
          (let q : (at + j) / 64 ≡ at / 64 + 1 = omega arith in
          let r : (at + j) % 64 ≡ at % 64 + j - 64 = omega arith in
          cond-false (ltb (at % 64 + j) 64) (bit_at low (at % 64 + j)) (bit_at high (at % 64 + j - 64)) (le-ltb (at % 64 + j) 64 e)
          ∙ ap (λ x. bit_at x (at % 64 + j - 64)) (h (omega arith))
          ∙ sym (bit_words ws (at + j) fit ∙ ap (λ k. bit_at (get_or ws k 0) ((at + j) % 64)) q ∙ ap (bit_at (get_or ws (at / 64 + 1) 0)) r))
    ]
    ∙ sym (bit_at_mod (number_of_words ws / 2 ^ at) n j lt ∙ bit_at_shr (number_of_words ws) at j))

pub one_word : (ws : List ℕ) (v : ℕ) → length ws ≡ 1 → number_of_words (set ws 0 v) ≡ v
unfolding number_of_words
one_word [] v e = absurd (omega arith)
one_word (x ∷ []) v e = omega arith
one_word (x ∷ y ∷ ws) v e = absurd (omega arith)

pub no_word : (ws : List ℕ) → length ws ≡ 0 → number_of_words ws ≡ 0
unfolding number_of_words
no_word [] e = refl
no_word (x ∷ ws) e = absurd (omega arith)

pub number_of_first : (ws : List ℕ) (x : ℕ) → length ws ≤ 1 → 0 < length ws → x ≡ get_or ws 0 0 → number_of_words ws ≡ x
unfolding number_of_words
number_of_first [] x le some e = absurd (omega arith)
number_of_first (w ∷ []) x le some e = omega arith
number_of_first (w ∷ y ∷ ws) x le some e = absurd (omega arith)
