-- Numbers by their digits.
use Rattle.std.proofs.Common.{◌≡◌, ℕ, ◌+◌, ◌*◌, ◌/◌, ◌%◌, ◌^◌, ◌<◌, ◌≤◌, sym, ◌∙◌, ap, subst, arith, inl, inr, min}
use Rattle.std.specs.Int.{bit_at}
use Rattle.std.proofs.lemmas.Bool.Decides.{nat_tests}
use Rattle.std.proofs.lemmas.Nat.{mod-pow-add}
use Rattle.std.proofs.lemmas.Nat.Bits.{same_from_bits_below}
use Rattle.std.proofs.lemmas.Bool.{cases_lt}
use Rattle.std.proofs.Math.Nat.{mod-eq_of_lt, div-one}
use Rattle.sim_base.specs.BitValue.{BitValue, bit_value, digit_after_copy}

-- the digits from `at` on are zeros too
pub number_more : (d n at part : ℕ) → d % 2 ^ at ≡ n → d / 2 ^ at % 2 ^ part ≡ 0 → d % 2 ^ (at + part) ≡ n
number_more d n at part low high =
    let swap : at + part ≡ part + at = omega arith in
    ap (λ (x : ℕ). d % 2 ^ x) swap ∙ mod-pow-add d part at ∙ ap (λ (x : ℕ). x * 2 ^ at + d % 2 ^ at) high ∙ (let z : 0 * 2 ^ at + d % 2 ^ at ≡ d % 2 ^ at = omega arith in z) ∙ low

-- all digits were read
pub number_all : (d n at width : ℕ) → d < 2 ^ width → width ≤ at → at ≤ width → d % 2 ^ at ≡ n → d ≡ n
number_all d n at width fits le ge low =
    let e : at ≡ width = omega (arith, le, ge) in
    sym (mod-eq_of_lt (subst (λ (x : ℕ). d < 2 ^ x) (sym e) fits)) ∙ low

fits_low : (d n width low : ℕ) → d < 2 ^ width → n < 2 ^ 32 → low ≡ min width 64 → d ≡ n → d < 2 ^ low
fits_low d n width low fits small e same = elim (cases_lt width 64) [
  | inl lt ↦ (let w : width ≡ low = omega (arith, lt, e) in subst (λ (x : ℕ). d < 2 ^ x) w fits)
  | inr ge ↦ (let w : 64 ≡ low = omega (arith, ge, e) in subst (λ (x : ℕ). d < 2 ^ x) w (omega (arith, small, same)))
]

-- the lowest word of a small number is the number
pub number_low : (d n width low f : ℕ) → d < 2 ^ width → n < 2 ^ 32 → low ≡ min width 64 → f ≡ d / 2 ^ 0 % 2 ^ low → d ≡ n → f ≡ n
number_low d n width low f fits small e is same =
    is ∙ ap (λ (x : ℕ). x % 2 ^ low) (div-one d) ∙ mod-eq_of_lt (fits_low d n width low fits small e same) ∙ same

-- and is what stands in it
pub number_first : (d n low f : ℕ) → f ≡ d / 2 ^ 0 % 2 ^ low → f ≡ n → d % 2 ^ low ≡ n
number_first d n low f is e = ap (λ (x : ℕ). x % 2 ^ low) (sym (div-one d)) ∙ sym is ∙ e
