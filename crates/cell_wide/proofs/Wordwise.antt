-- Values of one width, written word by word.
use Rattle.std.proofs.Common.{◌≡◌, ℕ, ◌+◌, ◌-◌, ◌*◌, ◌/◌, ◌%◌, ◌^◌, ◌<◌, ◌≤◌, List, get_or, refl, sym, ◌∙◌, ap, subst, arith, bit_or, bit_xor, lit<, inl, inr}
use Rattle.std.specs.Prelude.{◌==◌, slice_index_or}
use lib.Bits.{and_lt}
use lib.Pow.{lt_of_le_ones}
use Rattle.std.proofs.lemmas.Bool.{eq-eqb, ne_eqb}
use Rattle.std.specs.Int.{bit_at}
use Rattle.std.proofs.Math.Nat.{mod-eq_of_lt, pow-le-pow_right}
use Rattle.std.proofs.Math.Nat.{sub-le}
use Rattle.std.proofs.lemmas.Bool.Decides.{eqb_tells}
use Rattle.std.proofs.lemmas.Nat.{mod-pow-add, shr_split, shr_high, shr_below, mod_low, mod_below, pow_pos, pow-add, same_from_place, and_block, or_block, xor_block, le_or_l, le_or_r, or_lt, xor_lt}
use Rattle.std.proofs.lemmas.Nat.Bits.{same_from_bits, same_from_bits_below, bit_at_xor, bit_at-lt, bit_at-zero}
use Rattle.std.specs.Int.Bits.{or_zero_l}
use Rattle.sim_base.specs.BitValue.{number_of_words, AreWords}
use Rattle.sim_base.proofs.Words.{bit_words}
use Rattle.sim_base.proofs.Field.{bit_at_mod, bit_at_shr}
use Rattle.circuit.specs.declared.cell.Op.{Op}
use Rattle.circuit.specs.declared.cell.Op.TheVariants as op
use Rattle.cell_wide.specs.Words.{digitwise}
use Rattle.cell_wide.proofs.Digits.{complement}

-- ---- words

-- the word at a place, as digits of the number
pub word_at_place : (ws : List ℕ) (number place : ℕ) → AreWords ws → number_of_words ws ≡ number → slice_index_or ws place 0 ≡ number / 2 ^ (64 * place) % 2 ^ 64
word_at_place ws number place fit is =
    same_from_bits_below 64 (slice_index_or ws place 0) (number / 2 ^ (64 * place) % 2 ^ 64) (fit place) (mod_below (number / 2 ^ (64 * place)) (2 ^ 64) (pow_pos 64)) (λ j low.
    let q : (64 * place + j) / 64 ≡ place = omega arith in
    let r : (64 * place + j) % 64 ≡ j = omega arith in
    sym (bit_at_mod (number / 2 ^ (64 * place)) 64 j low ∙ bit_at_shr number (64 * place) j ∙ ap (λ n. bit_at n (64 * place + j)) (sym is) ∙ bit_words ws (64 * place + j) fit
    ∙ ap (λ k. bit_at (get_or ws k 0) ((64 * place + j) % 64)) q ∙ ap (bit_at (get_or ws place 0)) r))

-- ---- digits that differ

pub no_difference : (a b : ℕ) → bit_xor a b ≡ 0 → a ≡ b
no_difference a b e = same_from_bits a b (λ j.
    let x : (bit_at a j + bit_at b j) % 2 ≡ 0 = sym (bit_at_xor a b j) ∙ ap (λ n. bit_at n j) e ∙ bit_at-zero j in
    omega (arith, x, bit_at-lt a j, bit_at-lt b j))

pub difference_none : (a b : ℕ) → a ≡ b → bit_xor a b ≡ 0
difference_none a b e = same_from_bits (bit_xor a b) 0 (λ j.
    let x : bit_at a j ≡ bit_at b j = ap (λ n. bit_at n j) e in
    let y : (bit_at a j + bit_at b j) % 2 ≡ 0 = omega (arith, x) in
    bit_at_xor a b j ∙ y ∙ sym (bit_at-zero j))

-- ---- comparing

-- `changed` has the digits in which the words of two numbers below this place differ
pub record IsDiffering (number old place changed : ℕ) : Type 0 where
  pub unchanged : changed ≡ 0 → old % 2 ^ (64 * place) ≡ number % 2 ^ (64 * place)
  pub same : old % 2 ^ (64 * place) ≡ number % 2 ^ (64 * place) → changed ≡ 0

-- the digits below the next place
split : (x place : ℕ) → x % 2 ^ (64 * (place + 1)) ≡ x / 2 ^ (64 * place) % 2 ^ 64 * 2 ^ (64 * place) + x % 2 ^ (64 * place)
split x place = let k : 64 * (place + 1) ≡ 64 + 64 * place = omega arith in ap (λ n. x % 2 ^ n) k ∙ mod-pow-add x 64 (64 * place)

low_lt : (x place : ℕ) → x % 2 ^ (64 * place) < 2 ^ (64 * place)
low_lt x place = mod_below x (2 ^ (64 * place)) (pow_pos (64 * place))

pub one_compared : (number old place changed before word : ℕ) → IsDiffering number old place changed → before ≡ old / 2 ^ (64 * place) % 2 ^ 64 → word ≡ number / 2 ^ (64 * place) % 2 ^ 64 → IsDiffering number old (place + 1) (bit_or changed (bit_xor before word))
one_compared number old place changed before word i was is = record {
  unchanged = λ e.
      let c : changed ≡ 0 = omega (arith, e, le_or_l changed (bit_xor before word)) in
      let x : bit_xor before word ≡ 0 = omega (arith, e, le_or_r changed (bit_xor before word)) in
      let same : old / 2 ^ (64 * place) % 2 ^ 64 ≡ number / 2 ^ (64 * place) % 2 ^ 64 = sym was ∙ no_difference before word x ∙ is in
      split old place ∙ ap (λ y. y * 2 ^ (64 * place) + old % 2 ^ (64 * place)) same ∙ ap (λ y. number / 2 ^ (64 * place) % 2 ^ 64 * 2 ^ (64 * place) + y) (i.unchanged c) ∙ sym (split number place);
  same = λ e.
      let both = same_from_place (old / 2 ^ (64 * place) % 2 ^ 64) (old % 2 ^ (64 * place)) (number / 2 ^ (64 * place) % 2 ^ 64) (number % 2 ^ (64 * place)) (2 ^ (64 * place)) (low_lt old place) (low_lt number place) (sym (split old place) ∙ e ∙ split number place) in
      ap (λ c. bit_or c (bit_xor before word)) (i.same both.1) ∙ or_zero_l (bit_xor before word) ∙ difference_none before word (was ∙ both.0 ∙ sym is);
}

pub all_compared : (number old w place changed : ℕ) → IsDiffering number old place changed → old < 2 ^ w → number < 2 ^ w → w ≤ 64 * place → (changed == 0) ≡ (old == number)
all_compared number old w place changed i below fits le =
    let p : 2 ^ w ≤ 2 ^ (64 * place) = pow-le-pow_right {n = 2} (lit< tt) {i = w} {j = 64 * place} le in
    let whole : old % 2 ^ (64 * place) ≡ old = mod-eq_of_lt (omega (arith, below, p)) in
    let all : number % 2 ^ (64 * place) ≡ number = mod-eq_of_lt (omega (arith, fits, p)) in
    tests changed old number (λ e. sym whole ∙ i.unchanged e ∙ all) (λ e. i.same (whole ∙ e ∙ sym all))
  where
    tests : (c a b : ℕ) → (c ≡ 0 → a ≡ b) → (a ≡ b → c ≡ 0) → (c == 0) ≡ (a == b)
    tests c a b f g = elim (eqb_tells c 0) [
      | inl e ↦ e.0 ∙ sym (eq-eqb a b (f e.1))
      | inr e ↦ e.0 ∙ sym (ne_eqb a b (λ is. e.1 (g is)))
    ]

-- ---- digit by digit

pub digitwise_below : (o : Op) (w a b : ℕ) → a < 2 ^ w → b < 2 ^ w → digitwise o w a b < 2 ^ w
digitwise_below op.And w a b l h = and_lt w a b l h
digitwise_below op.Or w a b l h = or_lt w a b l h
digitwise_below op.Xor w a b l h = xor_lt w a b l h
digitwise_below op.Xnor w a b l h = lt_of_le_ones w (sub-le (2 ^ w - 1) (bit_xor a b))
digitwise_below op.Not w a b l h = lt_of_le_ones w (sub-le (2 ^ w - 1) a)
digitwise_below _ w a b l h = l

-- of digits in two blocks
digitwise_blocks : (o : Op) (n v a b r s : ℕ) → a < 2 ^ v → b < 2 ^ v → r < 2 ^ n → s < 2 ^ n → digitwise o (n + v) (a * 2 ^ n + r) (b * 2 ^ n + s) ≡ digitwise o v a b * 2 ^ n + digitwise o n r s
digitwise_blocks op.And n v a b r s la lb lr ls = and_block n a b r s lr ls
digitwise_blocks op.Or n v a b r s la lb lr ls = or_block n a b r s lr ls
digitwise_blocks op.Xor n v a b r s la lb lr ls = xor_block n a b r s lr ls
digitwise_blocks op.Xnor n v a b r s la lb lr ls =
    ap (λ x. (2 ^ (n + v) - 1) - x) (xor_block n a b r s lr ls) ∙ ap (λ x. (x - 1) - (bit_xor a b * 2 ^ n + bit_xor r s)) (pow-add 2 n v) ∙ complement (2 ^ n) (2 ^ v) (bit_xor a b) (bit_xor r s) (xor_lt v a b la lb) (xor_lt n r s lr ls)
digitwise_blocks op.Not n v a b r s la lb lr ls =
    ap (λ x. (x - 1) - (a * 2 ^ n + r)) (pow-add 2 n v) ∙ complement (2 ^ n) (2 ^ v) a r la lr
digitwise_blocks _ n v a b r s la lb lr ls = refl

module _ (o : Op) (n w a b : ℕ) (le : n ≤ w) (la : a < 2 ^ w) (lb : b < 2 ^ w) where
  high_below : (x : ℕ) → x < 2 ^ w → x / 2 ^ n < 2 ^ (w - n)
  high_below x lt = let e : w ≡ w - n + n = omega (arith, le) in shr_below x (w - n) n (subst (λ k. x < 2 ^ k) e lt)

  low_below : (x : ℕ) → x % 2 ^ n < 2 ^ n
  low_below x = mod_below x (2 ^ n) (pow_pos n)

  in_blocks : digitwise o w a b ≡ digitwise o (w - n) (a / 2 ^ n) (b / 2 ^ n) * 2 ^ n + digitwise o n (a % 2 ^ n) (b % 2 ^ n)
  in_blocks =
      let e : w ≡ n + (w - n) = omega (arith, le) in
      ap (λ k. digitwise o k a b) e ∙ ap (λ x. digitwise o (n + (w - n)) x b) (sym (shr_split a n)) ∙ ap (λ x. digitwise o (n + (w - n)) (a / 2 ^ n * 2 ^ n + a % 2 ^ n) x) (sym (shr_split b n))
      ∙ digitwise_blocks o n (w - n) (a / 2 ^ n) (b / 2 ^ n) (a % 2 ^ n) (b % 2 ^ n) (high_below a la) (high_below b lb) (low_below a) (low_below b)

  -- the lowest digits, and those above
  low_digitwise : digitwise o w a b % 2 ^ n ≡ digitwise o n (a % 2 ^ n) (b % 2 ^ n)
  low_digitwise =
      ap (λ x. x % 2 ^ n) in_blocks ∙ mod_low (digitwise o (w - n) (a / 2 ^ n) (b / 2 ^ n)) n (digitwise o n (a % 2 ^ n) (b % 2 ^ n)) (digitwise_below o n (a % 2 ^ n) (b % 2 ^ n) (low_below a) (low_below b))

  high_digitwise : digitwise o w a b / 2 ^ n ≡ digitwise o (w - n) (a / 2 ^ n) (b / 2 ^ n)
  high_digitwise =
      ap (λ x. x / 2 ^ n) in_blocks ∙ shr_high (digitwise o (w - n) (a / 2 ^ n) (b / 2 ^ n)) n (digitwise o n (a % 2 ^ n) (b % 2 ^ n)) (digitwise_below o n (a % 2 ^ n) (b % 2 ^ n) (low_below a) (low_below b))

-- what is left of a number from a place on
pub rest_below : (x w at n : ℕ) → x < 2 ^ w → at + n ≡ w → x / 2 ^ at % 2 ^ 64 < 2 ^ n
rest_below x w at n lt is =
    let e : w ≡ n + at = omega (arith, is) in
    let h : x / 2 ^ at < 2 ^ n = shr_below x n at (subst (λ k. x < 2 ^ k) e lt) in
    under (x / 2 ^ at / 2 ^ 64 * 2 ^ 64) (x / 2 ^ at % 2 ^ 64) (x / 2 ^ at) (2 ^ n) (shr_split (x / 2 ^ at) 64) h
  where
    under : (q a b c : ℕ) → q + a ≡ b → b < c → a < c
    under q a b c e lt = omega (arith, e, lt)

-- the word at a place: a whole one
pub whole_word : (o : Op) (w at a b x y : ℕ) → at + 64 ≤ w → a < 2 ^ w → b < 2 ^ w → x ≡ a / 2 ^ at % 2 ^ 64 → y ≡ b / 2 ^ at % 2 ^ 64 → digitwise o 64 x y ≡ digitwise o w a b / 2 ^ at % 2 ^ 64
whole_word o w at a b x y le la lb e f =
    let fits : at ≤ w = omega (arith, le) in
    let more : 64 ≤ w - at = omega (arith, le) in
    ap (λ z. digitwise o 64 z y) e ∙ ap (digitwise o 64 (a / 2 ^ at % 2 ^ 64)) f
    ∙ sym (ap (λ z. z % 2 ^ 64) (high_digitwise o at w a b fits la lb) ∙ low_digitwise o 64 (w - at) (a / 2 ^ at) (b / 2 ^ at) more (high_below o at w a b fits la lb a la) (high_below o at w a b fits la lb b lb))

-- or the last one, which may have fewer digits
pub last_word : (o : Op) (w at n a b x y : ℕ) → at + n ≡ w → n ≤ 64 → a < 2 ^ w → b < 2 ^ w → x ≡ a / 2 ^ at % 2 ^ 64 → y ≡ b / 2 ^ at % 2 ^ 64 → digitwise o n x y ≡ digitwise o w a b / 2 ^ at % 2 ^ 64
last_word o w at n a b x y is small la lb e f =
    let fits : at ≤ w = omega (arith, is) in
    let k : w - at ≡ n = omega (arith, is) in
    let p : 2 ^ n ≤ 2 ^ 64 = pow-le-pow_right {n = 2} (lit< tt) {i = n} {j = 64} small in
    let ha : a / 2 ^ at < 2 ^ n = subst (λ j. a / 2 ^ at < 2 ^ j) k (high_below o at w a b fits la lb a la) in
    let hb : b / 2 ^ at < 2 ^ n = subst (λ j. b / 2 ^ at < 2 ^ j) k (high_below o at w a b fits la lb b lb) in
    let lt : digitwise o n (a / 2 ^ at) (b / 2 ^ at) < 2 ^ 64 = under (digitwise o n (a / 2 ^ at) (b / 2 ^ at)) (2 ^ n) (2 ^ 64) (digitwise_below o n (a / 2 ^ at) (b / 2 ^ at) ha hb) p in
    ap (λ z. digitwise o n z y) (e ∙ mod-eq_of_lt (under (a / 2 ^ at) (2 ^ n) (2 ^ 64) ha p)) ∙ ap (digitwise o n (a / 2 ^ at)) (f ∙ mod-eq_of_lt (under (b / 2 ^ at) (2 ^ n) (2 ^ 64) hb p))
    ∙ sym (ap (λ z. z % 2 ^ 64) (high_digitwise o at w a b fits la lb ∙ ap (λ j. digitwise o j (a / 2 ^ at) (b / 2 ^ at)) k) ∙ mod-eq_of_lt lt)
  where
    under : (x m n : ℕ) → x < m → m ≤ n → x < n
    under x m n lt le = omega (arith, lt, le)
