-- Truth values of operands.
use Rattle.std.proofs.Common.{◌≡◌, ◌≢◌, ℕ, zero, suc, ◌+◌, ◌-◌, ◌*◌, ◌/◌, ◌%◌, ◌^◌, ◌<◌, ◌≤◌, min, sym, ◌∙◌, ap, arith, inl, inr, Bool, true, false, ◌&&◌, count_ones, lit<}
use Rattle.std.proofs.Math.Nat.{mod-eq_of_lt, pow-le-pow_right}
use Rattle.std.proofs.lemmas.Bool.{cases_lt, cases_eq, cases_Bool, cond-true, cond-false}
use Rattle.std.proofs.lemmas.Bool.Decides.{nat_tests}
use Rattle.std.proofs.lemmas.Int.{ints}
use Rattle.std.proofs.lemmas.Nat.{mod-pow-add, mod_below, pow_pos, pow-add, ones_cat, ones_le_self, zero_from_ones}
use Rattle.std.proofs.lemmas.Nat.Bits.{bit_at_above, bit_at_cat_high, bit_at_ones, bit_at-lt}
use Rattle.std.specs.Int.{bit_at}
use Rattle.std.specs.Prelude.{◌==◌, ℤ, pos, ◌-ℤ◌, int_le}
use Rattle.circuit.specs.Output.{modulo, operand, ones, truth}
use Rattle.cell_wide.specs.Words.{low_of_fill, low_of_chain}
use Rattle.cell_wide.proofs.Operands.{ones_low}

-- ---- ones

digit_count : (d : ℕ) → d < 2 → count_ones d ≡ d
digit_count zero lt = let e : count_ones 0 ≡ 0 = omega (arith, ones_le_self 0) in e
digit_count (suc zero) lt = elim (cases_eq (count_ones 1) 1) [
  | inl e ↦ e
  | inr ne ↦ (let z : count_ones 1 ≡ 0 = omega (arith, ones_le_self 1, ne) in let one : 1 ≡ 0 = zero_from_ones 1 z in absurd (omega (arith, one)))
]
digit_count (suc (suc d)) lt = absurd (omega (arith, lt))

pub ones_count : (w n : ℕ) → ones w n ≡ count_ones (n % 2 ^ w)
unfolding ones
ones_count zero n = let e : n % 2 ^ 0 ≡ 0 = omega arith in sym (ap count_ones e ∙ digit_count 0 (lit< tt))
ones_count (suc w) n =
    let one : suc w ≡ 1 + w = omega arith in
    let d : bit_at n w % 2 ≡ bit_at n w = mod-eq_of_lt (bit_at-lt n w) in
    sym (ap (λ k. count_ones (n % 2 ^ k)) one ∙ ap count_ones (mod-pow-add n 1 w) ∙ ones_cat w (n / 2 ^ w % 2 ^ 1) (n % 2 ^ w) (mod_below n (2 ^ w) (pow_pos w))
    ∙ ap (λ x. x + count_ones (n % 2 ^ w)) (digit_count (bit_at n w) (bit_at-lt n w)) ∙ ap (λ x. bit_at n w + x) (sym (ones_count w n)))

-- ---- equality of operands

-- more digits of the same operand stand for the same whole number
difference_same : (a b c d : ℕ) → a + d ≡ c + b → pos a -ℤ pos b ≡ pos c -ℤ pos d
difference_same a b c d e = omega (arith, ints)

pub one_more : (m w v : ℕ) → w ≤ m → (2 ^ (m - w) - 1) * 2 ^ w + v + 2 ^ w ≡ v + 2 ^ m
one_more m w v le =
    let e : m ≡ m - w + w = omega arith in
    parts (2 ^ (m - w)) (2 ^ w) (pow_pos (m - w)) ∙ ap (λ x. v + x) (sym (ap (λ k. 2 ^ k) e ∙ pow-add 2 (m - w) w))
  where
    parts : (a b : ℕ) → 0 < a → (a - 1) * b + v + b ≡ v + a * b
    parts zero b lt = absurd (omega (arith, lt))
    parts (suc a) b lt = let s : suc a * b ≡ a * b + b = omega arith in let k : suc a - 1 ≡ a = omega arith in rw (k, s) (omega arith)

is_one : (d : ℕ) → d ≡ 1 → (d == 1) ≡ true
is_one d e = grind (arith, nat_tests)

not_one : (d : ℕ) → d ≡ 0 → (d == 1) ≡ false
not_one d e = grind (arith, nat_tests)

from_one : (d : ℕ) → (d == 1) ≡ true → d ≡ 1
from_one d e = grind (arith, nat_tests)

below_power : (v w m : ℕ) → v < 2 ^ w → w ≤ m → v < 2 ^ m
below_power v w m lt le = let p : 2 ^ w ≤ 2 ^ m = pow-le-pow_right {n = 2} (lit< tt) {i = w} {j = m} le in omega (arith, lt, p)

negative_extended : (w m v : ℕ) → v < 2 ^ w → w ≤ m → (bit_at v (w - 1) == 1) ≡ true → operand true m (modulo m (pos v -ℤ pos (2 ^ w))) ≡ pos v -ℤ pos (2 ^ w)
negative_extended w m v lt le e =
    let mm : min m w ≡ w = omega arith in
    let n : modulo m (pos v -ℤ pos (2 ^ w)) ≡ (2 ^ (m - w) - 1) * 2 ^ w + v =
    sym (ones_low v w m lt) ∙ ap (λ k. (2 ^ (m - w) - 1) * 2 ^ k + v % 2 ^ k) mm ∙ ap (λ x. (2 ^ (m - w) - 1) * 2 ^ w + x) (mod-eq_of_lt lt) in
    let bit : bit_at ((2 ^ (m - w) - 1) * 2 ^ w + v) (m - 1) ≡ 1 = top in
    ap (operand true m) n ∙ cond-true (bit_at ((2 ^ (m - w) - 1) * 2 ^ w + v) (m - 1) == 1) (pos ((2 ^ (m - w) - 1) * 2 ^ w + v) -ℤ pos (2 ^ m)) (pos ((2 ^ (m - w) - 1) * 2 ^ w + v)) (is_one _ bit)
    ∙ difference_same ((2 ^ (m - w) - 1) * 2 ^ w + v) (2 ^ m) v (2 ^ w) (one_more m w v le)
  where
    top : bit_at ((2 ^ (m - w) - 1) * 2 ^ w + v) (m - 1) ≡ 1
    top = elim (cases_lt w m) [
      | inl a ↦
          bit_at_cat_high (2 ^ (m - w) - 1) w v (m - 1) lt (omega arith) ∙ bit_at_ones (m - w) (m - 1 - w) (omega arith)
      | inr b ↦
          (let same : m ≡ w = omega arith in
          let k : m - w ≡ 0 = omega arith in
          let z : (2 ^ 0 - 1) * 2 ^ w + v ≡ v = omega arith in
          ap (λ x. bit_at ((2 ^ x - 1) * 2 ^ w + v) (m - 1)) k ∙ ap (λ x. bit_at x (m - 1)) z ∙ ap (λ x. bit_at v (x - 1)) same ∙ from_one (bit_at v (w - 1)) e)
    ]

pub operand_extended : (signed : Bool) (w m v : ℕ) → v < 2 ^ w → w ≤ m → operand signed m (modulo m (operand signed w v)) ≡ operand signed w v
operand_extended false w m v lt le = ap pos (mod-eq_of_lt (below_power v w m lt le))
operand_extended true w m v lt le = elim (cases_Bool (bit_at v (w - 1) == 1)) [
  | inl e ↦
      (let z : operand true w v ≡ pos v -ℤ pos (2 ^ w) = cond-true (bit_at v (w - 1) == 1) (pos v -ℤ pos (2 ^ w)) (pos v) e in
      ap (λ x. operand true m (modulo m x)) z ∙ negative_extended w m v lt le e ∙ sym z)
  | inr e ↦
      (let z : operand true w v ≡ pos v = cond-false (bit_at v (w - 1) == 1) (pos v -ℤ pos (2 ^ w)) (pos v) e in
      ap (λ x. operand true m (modulo m x)) z ∙ ap (operand true m) (mod-eq_of_lt (below_power v w m lt le))
      ∙ cond-false (bit_at v (m - 1) == 1) (pos v -ℤ pos (2 ^ m)) (pos v) (still e) ∙ sym z)
]
  where
    still : (bit_at v (w - 1) == 1) ≡ false → (bit_at v (m - 1) == 1) ≡ false
    still e = elim (cases_lt w m) [
      | inl a ↦ not_one (bit_at v (m - 1)) (bit_at_above v w (m - 1) lt (omega arith))
      | inr b ↦ (let same : m ≡ w = omega arith in ap (λ x. (bit_at v (x - 1) == 1)) same ∙ e)
    ]

pub operands_equal : (signed : Bool) (w u m v x : ℕ) → v < 2 ^ w → x < 2 ^ u → w ≤ m → u ≤ m → (modulo m (operand signed w v) == modulo m (operand signed u x)) ≡ (int_le (operand signed w v) (operand signed u x) && int_le (operand signed u x) (operand signed w v))
operands_equal signed w u m v x lv lx lw lu = elim (cases_eq (modulo m (operand signed w v)) (modulo m (operand signed u x))) [
  | inl e ↦
      (let same : operand signed w v ≡ operand signed u x = sym (operand_extended signed w m v lv lw) ∙ ap (operand signed m) e ∙ operand_extended signed u m x lx lu in
      is_same (modulo m (operand signed w v)) (modulo m (operand signed u x)) e ∙ sym (both (operand signed w v) (operand signed u x) same))
  | inr ne ↦ is_other (modulo m (operand signed w v)) (modulo m (operand signed u x)) ne ∙ sym (apart (operand signed w v) (operand signed u x) (λ same. ne (ap (modulo m) same)))
]
  where
    is_same : (a b : ℕ) → a ≡ b → (a == b) ≡ true
    is_same a b e = grind (arith, nat_tests)

    is_other : (a b : ℕ) → a ≢ b → (a == b) ≡ false
    is_other a b e = grind (arith, nat_tests)

    both : (a b : ℤ) → a ≡ b → (int_le a b && int_le b a) ≡ true
    both a b e = grind (arith, ints)

    apart : (a b : ℤ) → a ≢ b → (int_le a b && int_le b a) ≡ false
    apart a b e = grind (arith, ints)

-- ---- a truth value as a number

pub truth_number : (t : Bool) (w : ℕ) → low_of_chain (low_of_fill t) 1 (low_of_fill false) w ≡ modulo w (truth t)
truth_number false w =
    let z : 0 * 2 ^ min w 1 + 0 ≡ 0 = omega arith in z ∙ sym (mod-eq_of_lt (pow_pos w))
truth_number true zero = omega arith
truth_number true (suc w) =
    let m : min (suc w) 1 ≡ 1 = omega arith in
    let p : 2 ^ 1 ≤ 2 ^ suc w = pow-le-pow_right {n = 2} (lit< tt) {i = 1} {j = suc w} (omega arith) in
    let z : 0 * 2 ^ 1 + (2 ^ 1 - 1) ≡ 1 = omega arith in
    ap (λ k. 0 * 2 ^ k + (2 ^ k - 1)) m ∙ z ∙ sym (mod-eq_of_lt (omega (arith, p)))
