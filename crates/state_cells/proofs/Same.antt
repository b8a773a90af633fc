-- Values of bits that are the same.
use Rattle.std.proofs.Common.{◌≡◌, ℕ, ◌+◌, ◌-◌, ◌^◌, ◌<◌, sym, ◌∙◌, ap, subst, arith, inl, inr}
use Rattle.std.proofs.lemmas.Bool.{cases_lt}
use Rattle.std.proofs.lemmas.Nat.Bits.{same_from_bits, bit_at_above}
use Rattle.std.specs.Int.{bit_at}
use Rattle.sim_base.specs.BitValue.{BitValue, bit_value, digit_after_copy}
use Rattle.sim_base.proofs.Words.{copied_in}

pub same_value : (x y : BitValue) → x.width ≡ y.width → x.number ≡ y.number → x ≡ y
same_value x y e f = ap (λ w. bit_value w x.number) e ∙ ap (λ n. bit_value y.width n) f

-- a copy of all digits
pub copied_all : (w v old new : ℕ) → new < 2 ^ w → v < 2 ^ w → ((j : ℕ) → bit_at new j ≡ digit_after_copy 0 v 0 w old j) → new ≡ v
copied_all w v old new below fits bits = same_from_bits new v (λ j. elim (cases_lt j w) [
  | inl a ↦ (let z : 0 + (j - 0) ≡ j = omega arith in bits j ∙ copied_in 0 v 0 w old j (omega arith) (omega arith) ∙ ap (bit_at v) z)
  | inr b ↦ bit_at_above new w j below b ∙ sym (bit_at_above v w j fits b)
])

-- a copy of all digits of a value
pub copied_value : (w : ℕ) (from : BitValue) (old : ℕ) (new : BitValue) → w ≡ from.width → new.width ≡ from.width → new.number < 2 ^ new.width → from.number < 2 ^ from.width
    → ((j : ℕ) → bit_at new.number j ≡ digit_after_copy 0 from.number 0 w old j) → new ≡ from
copied_value w from old new width same below fits bits =
    let P : ℕ → Type 0 = λ n. new.number < 2 ^ n in
    let Q : ℕ → Type 0 = λ n. (j : ℕ) → bit_at new.number j ≡ digit_after_copy 0 from.number 0 n old j in
    same_value new from same (copied_all from.width from.number old new.number (subst P same below) fits (subst Q width bits))
