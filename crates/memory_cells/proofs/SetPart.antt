-- One row of many is another one.
use Rattle.std.proofs.Common.{◌≡◌, ◌≢◌, ℕ, ◌+◌, ◌-◌, ◌*◌, ◌/◌, ◌%◌, ◌^◌, ◌<◌, ◌≤◌, get_or, set, sym, ◌∙◌, ap, arith, inl, inr}
use Rattle.std.proofs.lemmas.Bool.{cases_lt, cases_eq}
use Rattle.std.proofs.lemmas.Grind.{same_number_lists}
use Rattle.std.proofs.lemmas.List.{length-set, get_or-set_same, get_or-set_other}
use Rattle.std.proofs.lemmas.Nat.{mod_below, pow_pos, same_from_place}
use Rattle.std.proofs.lemmas.Nat.Bits.{same_from_bits_below}
use Rattle.std.specs.Int.{bit_at}
use Rattle.sim_base.specs.BitValue.{digit_after_copy}
use Rattle.sim_base.proofs.Words.{copied_in, copied_below, copied_above}
use Rattle.sim_base.specs.Parts.{parts}
use Rattle.memory_cells.proofs.Placed.{field_digit}
use Rattle.sim_base.proofs.Parts.{length-parts, part_at}

-- a digit of another row stays
other_digit : (old new place w row i j : ℕ) → ((k : ℕ) → bit_at new k ≡ digit_after_copy (place * w) row 0 w old k) → i ≢ place → j < w → bit_at new (i * w + j) ≡ bit_at old (i * w + j)
other_digit old new place w row i j bits ne lt = elim (cases_lt (i * w + j) (place * w)) [
  | inl a ↦ bits (i * w + j) ∙ copied_below (place * w) row 0 w old (i * w + j) a
  | inr b ↦ (elim (cases_lt (i * w + j) (place * w + w)) [
    | inl d ↦
        (let k = i * w + j - place * w in
        let e : i * w + j ≡ place * w + k = omega arith in
        absurd (ne (same_from_place i j place k w lt (omega arith) e).0))
    | inr g ↦ bits (i * w + j) ∙ copied_above (place * w) row 0 w old (i * w + j) g
  ])
]

same_part : (old new at w : ℕ) → ((j : ℕ) → j < w → bit_at new (at + j) ≡ bit_at old (at + j)) → new / 2 ^ at % 2 ^ w ≡ old / 2 ^ at % 2 ^ w
same_part old new at w same =
    same_from_bits_below w (new / 2 ^ at % 2 ^ w) (old / 2 ^ at % 2 ^ w) (mod_below (new / 2 ^ at) (2 ^ w) (pow_pos w)) (mod_below (old / 2 ^ at) (2 ^ w) (pow_pos w))
    (λ j lt. field_digit new at w j lt ∙ same j lt ∙ sym (field_digit old at w j lt))

own_part : (old new at w row : ℕ) → row < 2 ^ w → ((k : ℕ) → bit_at new k ≡ digit_after_copy at row 0 w old k) → new / 2 ^ at % 2 ^ w ≡ row
own_part old new at w row below bits =
    same_from_bits_below w (new / 2 ^ at % 2 ^ w) row (mod_below (new / 2 ^ at) (2 ^ w) (pow_pos w)) below
    (λ j lt. let z : 0 + (at + j - at) ≡ j = omega arith in field_digit new at w j lt ∙ bits (at + j) ∙ copied_in at row 0 w old (at + j) (omega arith) (omega arith) ∙ ap (bit_at row) z)

-- the rows after one was put
pub parts_set : (size w old new place row : ℕ) → place < size → row < 2 ^ w → ((k : ℕ) → bit_at new k ≡ digit_after_copy (place * w) row 0 w old k) → parts w size new ≡ set (parts w size old) place row
parts_set size w old new place row there below bits =
    same_number_lists (parts w size new) (set (parts w size old) place row) (length-parts w size new ∙ sym (length-parts w size old) ∙ sym (length-set (parts w size old) place row))
    (λ i in'. let lt : i < size = omega (arith, length-parts w size new) in
    part_at w size new i lt ∙ elim (cases_eq i place) [
      | inl e ↦
          (ap (λ k. new / 2 ^ (k * w) % 2 ^ w) e ∙ own_part old new (place * w) w row below bits
          ∙ sym (get_or-set_same (parts w size old) place row 0 (omega (arith, length-parts w size old)))
          ∙ ap (λ k. get_or (set (parts w size old) place row) k 0) (sym e))
      | inr ne ↦
          (same_part old new (i * w) w (λ j in-row. other_digit old new place w row i j bits ne in-row)
          ∙ sym (part_at w size old i lt) ∙ sym (get_or-set_other (parts w size old) place i row 0 ne))
    ])
