-- Numbers of which the high digits are 0.
use Rattle.std.proofs.Common.{◌≡◌, ◌≢◌, ℕ, zero, suc, ◌+◌, ◌*◌, ◌/◌, ◌%◌, ◌^◌, ◌<◌, ◌≤◌, refl, sym, ◌∙◌, ap, arith}
use Rattle.std.specs.Prelude.{Some, None, Option, nat_lt, if◌then◌else◌}
use Rattle.std.proofs.lemmas.Bool.{cond-true, cond-false, lt-ltb, le-ltb}
use Rattle.std.proofs.lemmas.Nat.{shr_split, pow-add, pow_pos, mod_below}
use Rattle.std.proofs.Math.Nat.{pow-le-pow_right}

-- what is left from `at` on is a high part of the number, and below there are no digits but those of the word
pub record HighPart (number left at word : ℕ) : Type 0 where
  pub whole : number ≡ left * 2 ^ at + word
  pub below : word < 2 ^ 64
  pub passed : 64 ≤ at

pub first_part : (number : ℕ) → HighPart number (number / 2 ^ 64) 64 (number % 2 ^ 64)
first_part number = record { whole = sym (shr_split number 64); below = mod_below number (2 ^ 64) (pow_pos 64); passed = omega arith }

pub next_part : (number left at word : ℕ) → HighPart number left at word → left % 2 ^ 64 ≡ 0 → HighPart number (left / 2 ^ 64) (at + 64) word
next_part number left at word h e =
    let s : left / 2 ^ 64 * 2 ^ 64 + left % 2 ^ 64 ≡ left = shr_split left 64 in
    let t : left / 2 ^ 64 * 2 ^ 64 ≡ left = omega arith in
    let p : 2 ^ (at + 64) ≡ 2 ^ 64 * 2 ^ at = ap (λ n. 2 ^ n) (omega arith) ∙ pow-add 2 64 at in
    let q : left / 2 ^ 64 * 2 ^ (at + 64) ≡ left * 2 ^ at = ap (λ n. left / 2 ^ 64 * n) p ∙ times (left / 2 ^ 64) (2 ^ 64) (2 ^ at) ∙ ap (λ n. n * 2 ^ at) t in
    record { whole = omega (arith, h.whole, q); below = h.below; passed = omega (arith, h.passed) }
  where
    times : (a b c : ℕ) → a * (b * c) ≡ a * b * c
    times a b c = grind arith

times_at_least : (left power : ℕ) → left ≢ 0 → power ≤ left * power
times_at_least zero power h = absurd (h refl)
times_at_least (suc left) power h = omega arith

pub high_digits : (number left at word : ℕ) → HighPart number left at word → left ≢ 0 → 2 ^ at ≤ number
high_digits number left at word h ne = omega (arith, h.whole, times_at_least left (2 ^ at) ne)

pub not_below : (number left at word : ℕ) → HighPart number left at word → left % 2 ^ 64 ≢ 0 → 2 ^ 64 ≤ number
not_below number left at word h ne =
    let some : left ≢ 0 = λ e. ne (ap (λ n. n % 2 ^ 64) e) in
    let p : 2 ^ 64 ≤ 2 ^ at = pow-le-pow_right (omega arith) h.passed in
    let q : 2 ^ at ≤ number = high_digits number left at word h some in
    omega (arith, p, q)

pub no_more : (number left at word width : ℕ) → HighPart number left at word → number < 2 ^ width → width ≤ at → number ≡ word
no_more number zero at word width h lt le = omega (arith, h.whole)
no_more number (suc left) at word width h lt le =
    let p : 2 ^ width ≤ 2 ^ at = pow-le-pow_right (omega arith) le in
    let q : 2 ^ at ≤ number = high_digits number (suc left) at word h (λ e. omega (arith, e)) in
    absurd (omega (arith, p, q, lt))

-- the number of an address, if it is below 2 ^ 64
abbrev pub small : ℕ → Option ℕ
small n = if nat_lt n (2 ^ 64) then Some n else None

pub small_none : (n : ℕ) → 2 ^ 64 ≤ n → small n ≡ None
small_none n le = cond-false (nat_lt n (2 ^ 64)) (Some n) None (le-ltb n (2 ^ 64) le)

pub small_some : (n word : ℕ) → n ≡ word → word < 2 ^ 64 → small n ≡ Some word
small_some n word e lt = let under : n < 2 ^ 64 = omega arith in cond-true (nat_lt n (2 ^ 64)) (Some n) None (lt-ltb n (2 ^ 64) under) ∙ ap (λ m. Some m) e
