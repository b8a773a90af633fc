-- A value that is written part by part, the least part first.
use Rattle.std.proofs.Common.{◌≡◌, ℕ, ◌+◌, ◌-◌, ◌/◌, ◌%◌, ◌^◌, ◌<◌, ◌≤◌, sym, ◌∙◌, ap, subst, arith, inl, inr}
use Rattle.std.proofs.lemmas.Bool.{cases_lt}
use Rattle.std.proofs.lemmas.Nat.Bits.{same_from_bits, bit_at_above}
use Rattle.std.specs.Int.{bit_at}
use Rattle.sim_base.specs.BitValue.{BitValue, bit_value, digit_after_copy}
use Rattle.sim_base.proofs.Words.{copied_in, copied_below, copied_above}
use Rattle.sim_base.proofs.Field.{bit_at_mod, bit_at_shr}
use Rattle.state_cells.proofs.Same.{same_value}

-- the digits below `at` are those of the target, and the others still the old ones
pub record Placed (target old at now : ℕ) : Type 0 where
  pub low : (j : ℕ) → j < at → bit_at now j ≡ bit_at target j
  pub high : (j : ℕ) → at ≤ j → bit_at now j ≡ bit_at old j

pub field_digit : (n at w j : ℕ) → j < w → bit_at (n / 2 ^ at % 2 ^ w) j ≡ bit_at n (at + j)
field_digit n at w j lt = bit_at_mod (n / 2 ^ at) w j lt ∙ bit_at_shr n at j

-- a part more is written
pub placed_further : (target old at n word now next : ℕ) → Placed target old at now
    → ((j : ℕ) → bit_at next j ≡ digit_after_copy at word 0 n now j)
    → ((j : ℕ) → j < n → bit_at word j ≡ bit_at target (at + j))
    → Placed target old (at + n) next
placed_further target old at n word now next w copied part = record {
  low = λ j lt. elim (cases_lt j at) [
    | inl a ↦ copied j ∙ copied_below at word 0 n now j a ∙ w.low j a
    | inr b ↦
        (let z : 0 + (j - at) ≡ j - at = omega arith in
        let e : at + (j - at) ≡ j = omega arith in
        copied j ∙ copied_in at word 0 n now j b lt ∙ ap (bit_at word) z ∙ part (j - at) (omega arith) ∙ ap (bit_at target) e)
  ];
  high = λ j le. copied j ∙ copied_above at word 0 n now j le ∙ w.high j (omega arith);
}

-- all is written
pub placed_whole : (value : BitValue) (target old width at : ℕ) → value.width ≡ width → value.number < 2 ^ value.width → target < 2 ^ width → width ≤ at → Placed target old at value.number → value ≡ bit_value width target
placed_whole value target old width at same below fits le w =
    let P : ℕ → Type 0 = λ n. value.number < 2 ^ n in
    let under : value.number < 2 ^ width = subst P same below in
    same_value value (bit_value width target) same (same_from_bits value.number target (λ j. elim (cases_lt j width) [
      | inl a ↦ w.low j (omega arith)
      | inr b ↦ bit_at_above value.number width j under b ∙ sym (bit_at_above target width j fits b)
    ]))
