-- Numbers from their digits.
use Rattle.std.proofs.Common.{◌≡◌, ℕ, zero, suc, ◌+◌, ◌-◌, ◌*◌, ◌%◌, ◌^◌, ◌<◌, sym, ◌∙◌, ap, arith, inl, inr}
use Rattle.std.specs.Int.{bit_at}
use Rattle.std.proofs.lemmas.Bool.{cases_lt}
use Rattle.std.proofs.lemmas.Nat.{pow-add}
use Rattle.std.proofs.lemmas.Nat.Bits.{bit_at_cat_low, bit_at_cat_high, bit_at_lowest}
use Rattle.circuit.specs.Signal.{gathered}

mul_below : (a w b : ℕ) → a < 2 → b < w → a * w + b < 2 * w
mul_below zero w b lt h = omega arith
mul_below (suc zero) w b lt h = omega arith
mul_below (suc (suc a)) w b lt h = absurd (omega (arith, lt))

-- digits below 2 make a number below 2 to their number
pub gathered_below : (w : ℕ) (d : ℕ → ℕ) → ((j : ℕ) → d j < 2) → gathered d w < 2 ^ w
unfolding gathered
gathered_below zero d h = omega arith
gathered_below (suc w) d h =
    let t : gathered d w < 2 ^ w = gathered_below w d h in
    let one : suc w ≡ 1 + w = omega arith in
    let e : 2 ^ suc w ≡ 2 * 2 ^ w = ap (λ n. 2 ^ n) one ∙ pow-add 2 1 w in
    rw e (mul_below (d w) (2 ^ w) (gathered d w) (h w) t)

-- and each is a digit of that number
pub gathered_bit : (w : ℕ) (d : ℕ → ℕ) → ((j : ℕ) → d j < 2) → (i : ℕ) → i < w → bit_at (gathered d w) i ≡ d i
unfolding gathered
gathered_bit zero d h i lt = absurd (omega arith)
gathered_bit (suc w) d h i lt = elim (cases_lt i w) [
  | inl low ↦ bit_at_cat_low (d w) w (gathered d w) i low ∙ gathered_bit w d h i low
  | inr high ↦
      (let z : i - w ≡ 0 = omega arith in
      let e : i ≡ w = omega arith in
      let one : d w % 2 ≡ d w = omega (arith, h w) in
      bit_at_cat_high (d w) w (gathered d w) i (gathered_below w d h) high ∙ ap (bit_at (d w)) z ∙ bit_at_lowest (d w) ∙ one ∙ ap d (sym e))
]
