-- The parts of a number, as the rows of a memory.
use Rattle.std.proofs.Common.{◌≡◌, ℕ, ◌+◌, ◌*◌, ◌/◌, ◌%◌, ◌^◌, ◌<◌, ◌≤◌, length, get_or, sym, ◌∙◌, ap, subst, arith}
use Rattle.std.proofs.Math.Nat.{mul-le-mul_right}
use Rattle.std.specs.Int.{bit_at}
use Rattle.sim_base.specs.BitValue.{BitValue, bit_value, digit_after_copy}
use Rattle.sim_base.proofs.Parts.{length-parts, part_at, part_is}
use Rattle.sim_base.specs.Parts.{parts}
use Rattle.circuit.specs.declared.memory.Mem.{Mem}
use Rattle.memory_cells.specs.Rows.{AreRowsOf, RowValues}

-- a row lies inside the rows
pub row_inside : (i size width total : ℕ) → i < size → total ≡ size * width → i * width + width ≤ total
row_inside i size width total lt e =
    let h : (i + 1) * width ≤ size * width = mul-le-mul_right width (omega arith) in
    omega (arith, h, e)

-- the digits that are copied from a place on
pub copied_field : (from at old : ℕ) (w : ℕ) (new : BitValue) (width : ℕ) → new.width ≡ width → w ≡ width → new.number < 2 ^ new.width
    → ((j : ℕ) → bit_at new.number j ≡ digit_after_copy 0 from at w old j) → new ≡ bit_value width (from / 2 ^ at % 2 ^ width)
copied_field from at old w new width same e below bits =
    part_is from at width old new same below (subst (λ (n : ℕ). (j : ℕ) → bit_at new.number j ≡ digit_after_copy 0 from at n old j) e bits)

-- what is seen of rows that are kept in one number
pub record SeenAt (i size width number : ℕ) (seen : RowValues) : Type 0 where
  pub there : i < size
  pub wide : seen.width ≡ width
  pub row : get_or seen.rows i 0 ≡ number / 2 ^ (i * width) % 2 ^ width

pub seen_at : (i size width number : ℕ) (seen : RowValues) → (let view : RowValues = record { width = width; rows = parts width size number } in view) ≡ seen → i < length seen.rows → SeenAt i size width number seen
seen_at i size width number seen e lt =
    let there : i < size = omega (arith, length-parts width size number, ap (λ (r : RowValues). length r.rows) e) in
    record {
      there = there;
      wide = sym (ap (λ (r : RowValues). r.width) e);
      row = sym (ap (λ (r : RowValues). get_or r.rows i 0) e) ∙ part_at width size number i there;
    }

-- rows that are kept in one number, of a memory
pub record KeptAs (m : Mem) (size width number : ℕ) (seen : RowValues) : Type 0 where
  pub wide : width ≡ m.width
  pub many : size ≡ m.size
  pub total : size * width ≡ m.size * m.width
  pub rows : parts m.width m.size number ≡ seen.rows
  pub same : (n : ℕ) → parts width size n ≡ parts m.width m.size n

pub kept_as : (m : Mem) (size width number : ℕ) (seen : RowValues) → (let view : RowValues = record { width = width; rows = parts width size number } in view) ≡ seen → AreRowsOf m seen → KeptAs m size width number seen
kept_as m size width number seen e fits =
    let wide : width ≡ m.width = ap (λ (r : RowValues). r.width) e ∙ fits.width in
    let many : size ≡ m.size = sym (length-parts width size number) ∙ ap (λ (r : RowValues). length r.rows) e ∙ fits.size in
    let same : (n : ℕ) → parts width size n ≡ parts m.width m.size n = λ n. ap (λ w. parts w size n) wide ∙ ap (λ s. parts m.width s n) many in
    record {
      wide = wide;
      many = many;
      total = ap (λ w. size * w) wide ∙ ap (λ s. s * m.width) many;
      rows = sym (same number) ∙ ap (λ (r : RowValues). r.rows) e;
      same = same;
    }
