-- Numbers from their digits.
use Rattle.std.proofs.Common.{◌≡◌, ℕ, zero, suc, ◌+◌, ◌-◌, ◌*◌, ◌/◌, ◌%◌, ◌^◌, ◌<◌, ◌≤◌, sym, ◌∙◌, ap, arith, refl}
use Rattle.std.proofs.Math.Nat.{mod-eq_of_lt}
use Rattle.std.specs.Int.{bit_at}
use Rattle.std.proofs.lemmas.Nat.{mod-pow-add, shr-shr, pow-add, mod_low, mod_below, pow_pos}
use Rattle.circuit.specs.Signal.{gathered}

pub gathered_same : (w : ℕ) (d e : ℕ → ℕ) → ((j : ℕ) → j < w → d j ≡ e j) → gathered d w ≡ gathered e w
unfolding gathered
gathered_same zero d e h = refl
gathered_same (suc w) d e h =
    let t : gathered d w ≡ gathered e w = gathered_same w d e (λ j lt. h j (omega arith)) in
    let a : d w ≡ e w = h w (omega arith) in cc (t, a)

pub gathered_zero : (w : ℕ) (d : ℕ → ℕ) → ((j : ℕ) → d j ≡ 0) → gathered d w ≡ 0
unfolding gathered
gathered_zero zero d h = refl
gathered_zero (suc w) d h =
    let t : gathered d w ≡ 0 = gathered_zero w d h in
    rw (h w) (rw t (omega arith))

mul_below : (a w b : ℕ) → a < 2 → b < w → a * w + b < 2 * w
mul_below zero w b lt h = omega arith
mul_below (suc zero) w b lt h = omega arith
mul_below (suc (suc a)) w b lt h = absurd (omega (arith, lt))

pub gathered_below : (w : ℕ) (d : ℕ → ℕ) → ((j : ℕ) → d j < 2) → gathered d w < 2 ^ w
unfolding gathered
gathered_below zero d h = omega arith
gathered_below (suc w) d h =
    let t : gathered d w < 2 ^ w = gathered_below w d h in
    let one : suc w ≡ 1 + w = omega arith in
    let e : 2 ^ suc w ≡ 2 * 2 ^ w = ap (λ n. 2 ^ n) one ∙ pow-add 2 1 w in
    rw e (mul_below (d w) (2 ^ w) (gathered d w) (h w) t)

-- some digits of a number, as the number that they make
pub field_gathered : (x at w : ℕ) → x / 2 ^ at % 2 ^ w ≡ gathered (λ j. bit_at x (at + j)) w
unfolding gathered
field_gathered x at zero = omega arith
field_gathered x at (suc w) =
    let e : suc w ≡ 1 + w = omega arith in
    ap (λ v. x / 2 ^ at % 2 ^ v) e ∙ mod-pow-add (x / 2 ^ at) 1 w
    ∙ ap (λ m. (m % 2 ^ 1) * 2 ^ w + x / 2 ^ at % 2 ^ w) (shr-shr x at w)
    ∙ ap (λ g. bit_at x (at + w) * 2 ^ w + g) (field_gathered x at w)

pub whole_field : (x w : ℕ) → x < 2 ^ w → x / 2 ^ 0 % 2 ^ w ≡ x
whole_field x w lt = let e : x / 2 ^ 0 ≡ x = omega arith in ap (λ n. n % 2 ^ w) e ∙ mod-eq_of_lt lt

-- a number is what its digits make
pub number_gathered : (x w : ℕ) → x < 2 ^ w → gathered (λ j. bit_at x (0 + j)) w ≡ x
number_gathered x w lt = sym (field_gathered x 0 w) ∙ whole_field x w lt

-- the low digits of the low 64
pub low_of_low : (n w : ℕ) → w ≤ 64 → n % 2 ^ 64 % 2 ^ w ≡ n % 2 ^ w
low_of_low n w le =
    let e : 64 ≡ (64 - w) + w = omega arith in
    let s : n % 2 ^ 64 ≡ (n / 2 ^ w % 2 ^ (64 - w)) * 2 ^ w + n % 2 ^ w = ap (λ k. n % 2 ^ k) e ∙ mod-pow-add n (64 - w) w in
    ap (λ m. m % 2 ^ w) s ∙ mod_low (n / 2 ^ w % 2 ^ (64 - w)) w (n % 2 ^ w) (mod_below n (2 ^ w) (pow_pos w))
