-- Numbers in hexadecimal digits.
use native.Mathlib.Numerals.{unary_clauses}
use Rattle.std.proofs.Common.{add-one, ◌≡◌, ℕ, zero, suc, ◌+◌, ◌-◌, ◌*◌, ◌/◌, ◌^◌, ◌<◌, ◌≤◌, List, [], ◌∷◌, length, get_or, drop, cond, ltb, leb, eqb, inl, inr, ◌&&◌, refl, sym, ◌∙◌, ap, arith, Some, None}
use Rattle.std.specs.Char.{digit_value}
use Rattle.std.proofs.lemmas.Bool.{cond-true, cond-false, lt-ltb, le-ltb, le-leb, lt-leb, cases_lt, eq-eqb, ne_eqb, and_from, and_right}
use Rattle.std.proofs.Math.Nat.{div-eq_of_lt, div-lt_iff_lt-mul}
use Rattle.std.proofs.Math.Pow.{pow_mono}
use Rattle.std.specs.Int.{bit_at}
use Rattle.std.proofs.lemmas.Nat.Bits.{same_from_bits, bit_at-zero, bit_at_above}
use Rattle.sim_base.specs.BitValue.{BitValue, bit_value, digit_after_copy}
use Rattle.std.proofs.lemmas.List.{drop_more, drop_all}
use Rattle.std.proofs.lemmas.Nat.{pow_pos}
use Rattle.sim_base.specs.Digits.{hexadecimal_after, hexadecimal_number}

after_cons : (n c : ℕ) (cs : List ℕ) → hexadecimal_after n (c ∷ cs) ≡ cond (ltb (digit_value c) 16) (hexadecimal_after (n * 16 + digit_value c) cs) None
unfolding hexadecimal_after
after_cons n c cs = refl

after_none : (n : ℕ) → hexadecimal_after n [] ≡ Some n
unfolding hexadecimal_after
after_none n = refl

pub number_empty : (text : List ℕ) → length text ≡ 0 → hexadecimal_number text ≡ None
unfolding hexadecimal_number
number_empty text e = cond-false (leb 1 (length text)) (hexadecimal_after 0 text) None (lt-leb 1 (length text) (omega arith))

pub number_some : (text : List ℕ) → 1 ≤ length text → hexadecimal_number text ≡ hexadecimal_after 0 text
unfolding hexadecimal_number
number_some text le = cond-true (leb 1 (length text)) (hexadecimal_after 0 text) None (le-leb 1 (length text) le)

pub after_more : (n i : ℕ) (text : List ℕ) → i < length text → digit_value (get_or text i 0) < 16 → hexadecimal_after n (drop i text) ≡ hexadecimal_after (n * 16 + digit_value (get_or text i 0)) (drop (i + 1) text)
after_more n i text inside lt =
    ap (hexadecimal_after n) (drop_more text i 0 inside) ∙ after_cons n (get_or text i 0) (drop (i + 1) text)
    ∙ cond-true (ltb (digit_value (get_or text i 0)) 16) (hexadecimal_after (n * 16 + digit_value (get_or text i 0)) (drop (i + 1) text)) None (lt-ltb (digit_value (get_or text i 0)) 16 lt)

pub after_stop : (n i : ℕ) (text : List ℕ) → i < length text → 16 ≤ digit_value (get_or text i 0) → hexadecimal_after n (drop i text) ≡ None
after_stop n i text inside le =
    ap (hexadecimal_after n) (drop_more text i 0 inside) ∙ after_cons n (get_or text i 0) (drop (i + 1) text)
    ∙ cond-false (ltb (digit_value (get_or text i 0)) 16) (hexadecimal_after (n * 16 + digit_value (get_or text i 0)) (drop (i + 1) text)) None (le-ltb (digit_value (get_or text i 0)) 16 le)

pub after_all : (n i : ℕ) (text : List ℕ) → length text ≤ i → hexadecimal_after n (drop i text) ≡ Some n
after_all n i text le = ap (hexadecimal_after n) (drop_all i text le) ∙ after_none n

pub power_fits : (i : ℕ) → i < 16 → 16 * 16 ^ i ≤ 2 ^ 64
power_fits i lt = powers i (15 - i) (omega arith)
  where
    powers : (i k : ℕ) → i + k ≡ 15 → 16 * 16 ^ i ≤ 2 ^ 64
    powers i zero e = omega (arith, ap (λ n. 16 * 16 ^ n) (let n : i ≡ 15 = omega arith in n))
    powers i (suc k) e = let m = powers (suc i) k (omega arith) in let s : 16 ^ suc i ≡ 16 ^ i * 16 = simp unary_clauses in omega arith

pub digit_below : (n i d : ℕ) → n < 16 ^ i → d < 16 → n * 16 + d < 16 ^ (i + 1)
digit_below n i d lt small = let s : 16 ^ (i + 1) ≡ 16 ^ i * 16 = rw add-one (simp unary_clauses) in omega arith

-- ---- numbers within a width

pub fits_word : (n w : ℕ) → n < 2 ^ 64 → 64 ≤ w → leb 64 w ≡ ltb n (2 ^ w)
fits_word n w lt le = let m : 2 ^ 64 ≤ 2 ^ w = pow_mono le in le-leb 64 w le ∙ sym (lt-ltb n (2 ^ w) (omega arith))

pub fits_none : (n w : ℕ) → eqb (n / 2 ^ w) 0 ≡ ltb n (2 ^ w)
fits_none n w = elim (cases_lt n (2 ^ w)) [
  | inl lt ↦ eq-eqb (n / 2 ^ w) 0 (div-eq_of_lt lt) ∙ sym (lt-ltb n (2 ^ w) lt)
  | inr le ↦
      (let above : 1 ≤ n / 2 ^ w = below n (2 ^ w) (pow_pos w) le in
      ne_eqb (n / 2 ^ w) 0 (λ e. absurd (omega arith)) ∙ sym (le-ltb n (2 ^ w) le))
]
  where
    below : (n d : ℕ) → 0 < d → d ≤ n → 1 ≤ n / d
    below n d pos le = elim (cases_lt (n / d) 1) [
      | inl lt ↦ absurd (let x : n < 1 * d = (div-lt_iff_lt-mul {k = d} {x = n} {y = 1} pos).0 lt in omega arith)
      | inr ge ↦ ge
    ]

-- the lowest 64 digits of a value that was 0
pub word_put : (n new : ℕ) → n < 2 ^ 64 → ((j : ℕ) → bit_at new j ≡ digit_after_copy 0 n 0 64 0 j) → new ≡ n
word_put n new lt bits = same_from_bits new n (λ j. bits j ∙ bit n j lt)
  where
    bit : (n j : ℕ) → n < 2 ^ 64 → digit_after_copy 0 n 0 64 0 j ≡ bit_at n j
    bit n j lt = elim (cases_lt j 64) [
      | inl low ↦
          cond-true (leb 0 j && ltb j (0 + 64)) (bit_at n (0 + (j - 0))) (bit_at 0 j) (and_from (leb 0 j) (ltb j (0 + 64)) (le-leb 0 j (omega arith)) (lt-ltb j (0 + 64) (omega arith)))
          ∙ ap (bit_at n) (let e : 0 + (j - 0) ≡ j = omega arith in e)
      | inr high ↦
          cond-false (leb 0 j && ltb j (0 + 64)) (bit_at n (0 + (j - 0))) (bit_at 0 j) (and_right (leb 0 j) (ltb j (0 + 64)) (le-ltb j (0 + 64) (omega arith)))
          ∙ bit_at-zero j ∙ sym (bit_at_above n 64 j lt high)
    ]

pub value_is : (v : BitValue) (width n : ℕ) → v.width ≡ width → v.number ≡ n → v ≡ bit_value width n
value_is v width n e f = ap (λ w. bit_value w v.number) e ∙ ap (bit_value width) f
