-- The digits of a number that is kept in words.
use Rattle.std.proofs.Common.{◌≡◌, ◌≢◌, ℕ, zero, suc, ◌+◌, ◌-◌, ◌*◌, ◌/◌, ◌%◌, ◌^◌, ◌<◌, ◌≤◌, List, [], ◌∷◌, length, get_or, set, refl, sym, ◌∙◌, ap, subst, arith, inl, inr, get_or-set_other, get_or-set_same, replicate}
use Rattle.std.proofs.Common.{bit_and, bit_or, w64, eqb, leb, ltb, ◌&&◌}
use Rattle.std.proofs.lemmas.Bool.{cases_lt, cases_eq, cond-true, cond-false, eq-eqb, ne_eqb, and_from, and_left, and_right, le-leb, lt-leb, lt-ltb, le-ltb}
use Rattle.std.proofs.lemmas.List.{length-replicate, set_past, get_or_read, get_or-replicate, get_or_past}
use Rattle.std.proofs.lemmas.Bool.Decides.{eqb_tells}
use Rattle.std.proofs.lemmas.Nat.{shr_split, mod_below, pow_pos, same_from_place}
use Rattle.std.proofs.lemmas.Nat.Bits.{shr_and_one, bit_at-lt, bit_at-zero, bit_at_cat_low, bit_at_cat_high, bit_at_above, same_from_bits, bit_at_set_same, bit_at_set_other, bit_at_clear_same, bit_at_clear_other}
use Rattle.std.specs.Int.{bit_at, bit_not}
use Rattle.sim_base.specs.BitValue.{number_of_words, digit_after_set, digit_after_copy, AreWords, digit_of}

tail_fits : (w : ℕ) (ws : List ℕ) → AreWords (w ∷ ws) → AreWords ws
tail_fits w ws h k = h (suc k)

pub bit_words : (ws : List ℕ) (i : ℕ) → AreWords ws → bit_at (number_of_words ws) i ≡ bit_at (get_or ws (i / 64) 0) (i % 64)
unfolding number_of_words
bit_words [] i h = bit_at-zero i ∙ sym (bit_at-zero (i % 64))
bit_words (w ∷ ws) i h = elim (cases_lt i 64) [
  | inl lt ↦
      (let q : i / 64 ≡ 0 = omega arith in
      let r : i % 64 ≡ i = omega arith in
      rw q (rw r (bit_at_cat_low (number_of_words ws) 64 w i lt)))
  | inr ge ↦
      (let q : i / 64 ≡ suc ((i - 64) / 64) = omega arith in
      let r : i % 64 ≡ (i - 64) % 64 = omega arith in
      rw q (rw r (bit_at_cat_high (number_of_words ws) 64 w i (h 0) ge ∙ bit_words ws (i - 64) (tail_fits w ws h))))
]

-- a number without digits from w on is below 2 to w
same_under : (w n : ℕ) → ((i : ℕ) → w ≤ i → bit_at n i ≡ 0) → (i : ℕ) → bit_at n i ≡ bit_at (n % 2 ^ w) i
same_under w n h i = elim (cases_lt i w) [
  | inl a ↦
      (let e : bit_at (n / 2 ^ w * 2 ^ w + n % 2 ^ w) i ≡ bit_at (n % 2 ^ w) i = bit_at_cat_low (n / 2 ^ w) w (n % 2 ^ w) i a in
      ap (λ m. bit_at m i) (sym (shr_split n w)) ∙ e)
  | inr b ↦ h i b ∙ sym (bit_at_above (n % 2 ^ w) w i (mod_below n (2 ^ w) (pow_pos w)) b)
]

pub below_from_bits : (w n : ℕ) → ((i : ℕ) → w ≤ i → bit_at n i ≡ 0) → n < 2 ^ w
below_from_bits w n h =
    let lt : n % 2 ^ w < 2 ^ w = mod_below n (2 ^ w) (pow_pos w) in
    let e : n ≡ n % 2 ^ w = same_from_bits n (n % 2 ^ w) (same_under w n h) in
    let P : ℕ → Type 0 = λ m. m < 2 ^ w in subst P (sym e) lt

pub written_same : (i v old : ℕ) → digit_after_set i v old i ≡ v
written_same i v old = cond-true (eqb i i) v (bit_at old i) (eq-eqb i i refl)

pub written_other : (i v old j : ℕ) → j ≢ i → digit_after_set i v old j ≡ bit_at old j
written_other i v old j ne = cond-false (eqb j i) v (bit_at old j) (ne_eqb j i ne)

pub fit_set : (ws : List ℕ) (k w : ℕ) → AreWords ws → w < 2 ^ 64 → AreWords (set ws k w)
fit_set ws k w h lt j = elim (cases_eq j k) [
  | inl e ↦ elim (cases_lt k (length ws)) [
    | inl a ↦ (let f : get_or (set ws k w) k 0 ≡ w = get_or-set_same ws k w 0 a in rw e (rw f lt))
    | inr b ↦ (let f : set ws k w ≡ ws = set_past ws k w b in rw f (h j))
  ]
  | inr ne ↦ (let f : get_or (set ws k w) j 0 ≡ get_or ws j 0 = get_or-set_other ws k j w 0 ne in rw f (h j))
]

-- a word with one other digit gives a number with one other digit
pub written_words : (ws : List ℕ) (i v w : ℕ) → AreWords ws → w < 2 ^ 64 → i / 64 < length ws → ((j : ℕ) → j < 64 → bit_at w j ≡ digit_after_set (i % 64) v (get_or ws (i / 64) 0) j) → (j : ℕ) → bit_at (number_of_words (set ws (i / 64) w)) j ≡ digit_after_set i v (number_of_words ws) j
written_words ws i v w fit lt inside one j =
    bit_words (set ws (i / 64) w) j (fit_set ws (i / 64) w fit lt) ∙
    elim (cases_eq j i) [
      | inl e ↦
          (let f : get_or (set ws (i / 64) w) (i / 64) 0 ≡ w = get_or-set_same ws (i / 64) w 0 inside in
          rw e (rw f (one (i % 64) (omega arith) ∙ written_same (i % 64) v (get_or ws (i / 64) 0) ∙ sym (written_same i v (number_of_words ws)))))
      | inr ne ↦
          (elim (cases_eq (j / 64) (i / 64)) [
            | inl e ↦
                (let f : get_or (set ws (i / 64) w) (i / 64) 0 ≡ w = get_or-set_same ws (i / 64) w 0 inside in
                let apart : j % 64 ≢ i % 64 = omega arith in
                rw e (rw f (one (j % 64) (omega arith) ∙ written_other (i % 64) v (get_or ws (i / 64) 0) (j % 64) apart))
                ∙ ap (λ k. bit_at (get_or ws k 0) (j % 64)) (sym e)
                ∙ sym (bit_words ws j fit)
                ∙ sym (written_other i v (number_of_words ws) j ne))
            | inr other ↦
                (let f : get_or (set ws (i / 64) w) (j / 64) 0 ≡ get_or ws (j / 64) 0 = get_or-set_other ws (i / 64) (j / 64) w 0 other in
                rw f (sym (bit_words ws j fit) ∙ sym (written_other i v (number_of_words ws) j ne)))
          ])
    ]

-- a write inside the width keeps the number below
pub written_below : (w i v old new : ℕ) → i < w → old < 2 ^ w → ((j : ℕ) → bit_at new j ≡ digit_after_set i v old j) → new < 2 ^ w
written_below w i v old new lt below bits =
    below_from_bits w new (λ j h. bits j ∙ written_other i v old j (omega arith) ∙ bit_at_above old w j below h)

-- the word with the digit set, and cleared
pub set_digit : (n k j : ℕ) → k < 64 → bit_at (bit_or n (1 * 2 ^ k % 2 ^ 64)) j ≡ digit_after_set k 1 n j
set_digit n k j lt = elim (cases_eq j k) [
  | inl e ↦ rw e (bit_at_set_same w64 n k lt ∙ sym (written_same k 1 n))
  | inr ne ↦ bit_at_set_other w64 n k lt j ne ∙ sym (written_other k 1 n j ne)
]

pub clear_digit : (n k j : ℕ) → k < 64 → j < 64 → bit_at (bit_and n (bit_not w64 (1 * 2 ^ k % 2 ^ 64))) j ≡ digit_after_set k 0 n j
clear_digit n k j lt in' = elim (cases_eq j k) [
  | inl e ↦ rw e (bit_at_clear_same w64 n k lt ∙ sym (written_same k 0 n))
  | inr ne ↦ bit_at_clear_other w64 n k lt j in' ne ∙ sym (written_other k 0 n j ne)
]

-- equal numbers have equal words
pub same_words : (xs ys : List ℕ) → AreWords xs → AreWords ys → length xs ≡ length ys → number_of_words xs ≡ number_of_words ys → xs ≡ ys
unfolding number_of_words
same_words [] [] f g l e = refl
same_words [] (y ∷ ys) f g l e = absurd (omega arith)
same_words (x ∷ xs) [] f g l e = absurd (omega arith)
same_words (x ∷ xs) (y ∷ ys) f g l e =
    let p : (number_of_words xs ≡ number_of_words ys) × (x ≡ y) = same_from_place (number_of_words xs) x (number_of_words ys) y (2 ^ 64) (f 0) (g 0) e in
    let t : xs ≡ ys = same_words xs ys (tail_fits x xs f) (tail_fits y ys g) (omega arith) p.0 in
    cc (t, p.1)

pub number_of_zeros : (n : ℕ) → number_of_words (replicate n 0) ≡ 0
unfolding number_of_words
number_of_zeros zero = refl
number_of_zeros (suc n) = let e : number_of_words (replicate n 0) ≡ 0 = number_of_zeros n in omega arith

-- a digit as it is read
digit_of_test : (x i : ℕ) → digit_of (eqb (bit_and (x / 2 ^ i) 1) 1) ≡ bit_at x i
digit_of_test x i =
    rw (shr_and_one x i)
    (let lt : bit_at x i < 2 = bit_at-lt x i in
    elim (eqb_tells (bit_at x i) 1) [
      | inl t ↦ cond-true (eqb (bit_at x i) 1) 1 0 t.0 ∙ sym t.1
      | inr f ↦ cond-false (eqb (bit_at x i) 1) 1 0 f.0 ∙ (let ne : bit_at x i ≢ 1 = f.1 in omega arith)
    ])

pub digit_read : (ws : List ℕ) (i x : ℕ) → AreWords ws → i / 64 < length ws → x ≡ get_or ws (i / 64) x → digit_of (eqb (bit_and (x / 2 ^ (i % 64)) 1) 1) ≡ bit_at (number_of_words ws) i
digit_read ws i x fit inside e =
    digit_of_test x (i % 64) ∙ ap (λ y. bit_at y (i % 64)) (get_or_read ws (i / 64) x inside e 0) ∙ sym (bit_words ws i fit)

zero_of_zeros : (n k : ℕ) → get_or (replicate {A = ℕ} n 0) k 0 ≡ 0
zero_of_zeros n k = elim (cases_lt k n) [
  | inl a ↦ get_or-replicate {A = ℕ} n k 0 0 a
  | inr b ↦ (let l : length (replicate {A = ℕ} n 0) ≡ n = length-replicate {A = ℕ} n 0 in get_or_past (replicate {A = ℕ} n 0) k 0 (omega arith))
]

pub fit_zeros : (n : ℕ) → AreWords (replicate n 0)
fit_zeros n k = let e : get_or (replicate {A = ℕ} n 0) k 0 ≡ 0 = zero_of_zeros n k in omega (arith, e)

pub copied_in : (at from from_at n old j : ℕ) → at ≤ j → j < at + n → digit_after_copy at from from_at n old j ≡ bit_at from (from_at + (j - at))
copied_in at from from_at n old j a b =
    cond-true (leb at j && ltb j (at + n)) (bit_at from (from_at + (j - at))) (bit_at old j) (and_from (leb at j) (ltb j (at + n)) (le-leb at j a) (lt-ltb j (at + n) b))

pub copied_below : (at from from_at n old j : ℕ) → j < at → digit_after_copy at from from_at n old j ≡ bit_at old j
copied_below at from from_at n old j a =
    cond-false (leb at j && ltb j (at + n)) (bit_at from (from_at + (j - at))) (bit_at old j) (and_left (leb at j) (ltb j (at + n)) (lt-leb at j a))

pub copied_above : (at from from_at n old j : ℕ) → at + n ≤ j → digit_after_copy at from from_at n old j ≡ bit_at old j
copied_above at from from_at n old j a =
    cond-false (leb at j && ltb j (at + n)) (bit_at from (from_at + (j - at))) (bit_at old j) (and_right (leb at j) (ltb j (at + n)) (le-ltb j (at + n) a))

pub copied_none : (at from from_at old j : ℕ) → digit_after_copy at from from_at 0 old j ≡ bit_at old j
copied_none at from from_at old j = elim (cases_lt j at) [
  | inl a ↦ copied_below at from from_at 0 old j a
  | inr b ↦ copied_above at from from_at 0 old j (omega arith)
]

copied_same : (at from from_at k old j : ℕ) → j ≢ at + k → digit_after_copy at from from_at k old j ≡ digit_after_copy at from from_at (k + 1) old j
copied_same at from from_at k old j ne = elim (cases_lt j at) [
  | inl a ↦ copied_below at from from_at k old j a ∙ sym (copied_below at from from_at (k + 1) old j a)
  | inr b ↦ (elim (cases_lt j (at + k)) [
    | inl d ↦ copied_in at from from_at k old j b d ∙ sym (copied_in at from from_at (k + 1) old j b (omega arith))
    | inr e ↦ copied_above at from from_at k old j e ∙ sym (copied_above at from from_at (k + 1) old j (omega arith))
  ])
]

-- one more digit is digit_after_copy
pub copied_more : (at from from_at k old mid new : ℕ) → ((j : ℕ) → bit_at mid j ≡ digit_after_copy at from from_at k old j) → ((j : ℕ) → bit_at new j ≡ digit_after_set (at + k) (bit_at from (from_at + k)) mid j) → (j : ℕ) → bit_at new j ≡ digit_after_copy at from from_at (k + 1) old j
copied_more at from from_at k old mid new before step j = elim (cases_eq j (at + k)) [
  | inl e ↦
      (let d : j - at ≡ k = omega arith in
      step j ∙ ap (λ i. digit_after_set (at + k) (bit_at from (from_at + k)) mid i) e ∙ written_same (at + k) (bit_at from (from_at + k)) mid
      ∙ ap (λ i. bit_at from (from_at + i)) (sym d) ∙ sym (copied_in at from from_at (k + 1) old j (omega arith) (omega arith)))
  | inr ne ↦ step j ∙ written_other (at + k) (bit_at from (from_at + k)) mid j ne ∙ before j ∙ copied_same at from from_at k old j ne
]
