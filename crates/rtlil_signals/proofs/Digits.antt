-- Numbers by their bits.
use Rattle.std.proofs.Common.{◌≡◌, ℕ, suc, zero, ◌+◌, ◌-◌, ◌*◌, ◌/◌, ◌%◌, ◌^◌, ◌<◌, ◌≤◌, List, ◌∷◌, length, get_or, drop, min, refl, sym, ap, ◌∙◌, arith, inl, inr, length-drop}
use Rattle.std.specs.Int.{bit_at}
use Rattle.std.proofs.lemmas.Bool.Decides.{nat_tests}
use Rattle.std.proofs.lemmas.Bool.{cases_lt}
use Rattle.std.proofs.lemmas.List.{at_drop_all, at_drop_more}
use Rattle.std.proofs.lemmas.Nat.{mod_below, mul-add-lt, pow-add, pow_pos}
use Rattle.std.proofs.lemmas.Nat.Bits.{bit_at-zero, bit_at_above, bit_at_cat_low, bit_at_cat_high, same_from_bits}
use Rattle.sim_base.specs.BitValue.{digit_after_copy}
use Rattle.sim_base.proofs.Field.{bit_at_mod, bit_at_shr}
use Rattle.rtlil_signals.specs.Values.{bytes_number}

-- ---- bits that are copied

copied : (n at there j : ℕ) → j < there → digit_after_copy 0 n at there 0 j ≡ bit_at n (at + j)
copied n at there j lt = let z : at + (j - 0) ≡ at + j = omega arith in grind (arith, nat_tests, ap (bit_at n) z)

uncopied : (n at there j : ℕ) → there ≤ j → digit_after_copy 0 n at there 0 j ≡ 0
uncopied n at there j le = grind (arith, nat_tests, bit_at-zero j)

part_bit : (n at width j : ℕ) → j < width → bit_at (n / 2 ^ at % 2 ^ width) j ≡ bit_at n (at + j)
part_bit n at width j lt = bit_at_mod (n / 2 ^ at) width j lt ∙ bit_at_shr n at j

part_above : (n at width j : ℕ) → width ≤ j → bit_at (n / 2 ^ at % 2 ^ width) j ≡ 0
part_above n at width j le = bit_at_above (n / 2 ^ at % 2 ^ width) width j (mod_below (n / 2 ^ at) (2 ^ width) (pow_pos width)) le

-- as many bits as are there
pub copied_part : (n k at width from there new : ℕ) → n < 2 ^ k → from ≡ min at k → there ≡ min (k - from) width → ((j : ℕ) → bit_at new j ≡ digit_after_copy 0 n from there 0 j) → new ≡ n / 2 ^ at % 2 ^ width
copied_part n k at width from there new below is some bits = same_from_bits new (n / 2 ^ at % 2 ^ width) (λ j. elim (cases_lt j there) [
  | inl lt ↦
      (let inside : j < width = omega arith in
      let begin : from + j ≡ at + j = omega arith in
      bits j ∙ copied n from there j lt ∙ ap (bit_at n) begin ∙ sym (part_bit n at width j inside))
  | inr le ↦ bits j ∙ uncopied n from there j le ∙ sym (elim (cases_lt j width) [
    | inl lt ↦ (let out : k ≤ at + j = omega arith in part_bit n at width j lt ∙ bit_at_above n k (at + j) below out)
    | inr out ↦ part_above n at width j out
  ])
])

-- ---- bytes

below_byte : (b old at j : ℕ) → j < at → digit_after_copy at b 0 8 old j ≡ bit_at old j
below_byte b old at j lt = grind (arith, nat_tests)

in_byte : (b old at j : ℕ) → at ≤ j → j < at + 8 → digit_after_copy at b 0 8 old j ≡ bit_at b (j - at)
in_byte b old at j le lt = let z : 0 + (j - at) ≡ j - at = omega arith in grind (arith, nat_tests, ap (bit_at b) z)

above_byte : (b old at j : ℕ) → at + 8 ≤ j → digit_after_copy at b 0 8 old j ≡ bit_at old j
above_byte b old at j le = grind (arith, nat_tests)

-- a byte that is written above a number
pub byte_above : (b old at new : ℕ) → b < 2 ^ 8 → old < 2 ^ at → ((j : ℕ) → bit_at new j ≡ digit_after_copy at b 0 8 old j) → new ≡ b * 2 ^ at + old
byte_above b old at new small below bits = same_from_bits new (b * 2 ^ at + old) (λ j. elim (cases_lt j at) [
  | inl lt ↦ bits j ∙ below_byte b old at j lt ∙ sym (bit_at_cat_low b at old j lt)
  | inr le ↦ elim (cases_lt j (at + 8)) [
    | inl lt ↦ bits j ∙ in_byte b old at j le lt ∙ sym (bit_at_cat_high b at old j below le)
    | inr out ↦
        (let far : 8 ≤ j - at = omega arith in
        bits j ∙ above_byte b old at j out ∙ bit_at_above old at j below le ∙ sym (bit_at_cat_high b at old j below le ∙ bit_at_above b 8 (j - at) small far))
  ]
])

pub bytes_none : (bytes : List ℕ) → 0 ≡ bytes_number (drop (length bytes - 0) bytes)
unfolding bytes_number
bytes_none bytes = let end : length bytes ≤ length bytes - 0 = omega arith in sym (at_drop_all bytes_number bytes (length bytes - 0) end)

-- a byte above a number of so many bits
pub byte_below : (b old at next : ℕ) → b < 2 ^ 8 → old < 2 ^ at → next ≡ at + 8 → b * 2 ^ at + old < 2 ^ next
byte_below b old at next small below e =
    let wide : 2 ^ next ≡ 2 ^ at * 2 ^ 8 = ap (λ k. 2 ^ k) e ∙ pow-add 2 at 8 in
    rw wide (mul-add-lt b (2 ^ at) old (2 ^ 8) small below)

pub bytes_more : (bytes : List ℕ) (done : ℕ) → done < length bytes → bytes_number (drop (length bytes - (done + 1)) bytes) ≡ get_or bytes (length bytes - 1 - done) 0 * 2 ^ (8 * done) + bytes_number (drop (length bytes - done) bytes)
unfolding bytes_number
bytes_more bytes done lt =
    let i = length bytes - 1 - done in
    let first : length bytes - (done + 1) ≡ i = omega arith in
    let next : i + 1 ≡ length bytes - done = omega arith in
    let inside : i < length bytes = omega arith in
    let size : length (drop (length bytes - done) bytes) ≡ done = simp length-drop (omega arith) in
    ap (λ k. bytes_number (drop k bytes)) first ∙ at_drop_more bytes_number bytes i 0 inside
    ∙ ap (λ k. get_or bytes i 0 * 2 ^ (8 * length (drop k bytes)) + bytes_number (drop k bytes)) next
    ∙ ap (λ k. get_or bytes i 0 * 2 ^ (8 * k) + bytes_number (drop (length bytes - done) bytes)) size
