-- Words of which each bit says whether the word below is not 0, after a word is written.
use Rattle.std.proofs.Common.{◌≡◌, ◌≢◌, ℕ, ◌+◌, ◌-◌, ◌*◌, ◌/◌, ◌%◌, ◌<◌, ◌≤◌, List, length, get_or, set, not, ◌==◌, Bool, true, false, refl, sym, ◌∙◌, ap, arith, inl, inr, get_or-set_other, get_or-set_same}
use Rattle.std.proofs.Math.Bool.{beq}
use Rattle.std.proofs.lemmas.Bool.{cases_eq, eq-eqb, ne_eqb}
use Rattle.std.specs.Int.{bit_at}
use Rattle.sim_base.specs.BitValue.{digit_of, digit_after_set}
use Rattle.sim_base.proofs.Words.{written_same, written_other}
use Rattle.dirty_set.specs.Tree.{some_digit, IsSummedBut, IsSummed}

pub some_is : (w : ℕ) → w ≢ 0 → some_digit w ≡ 1
some_is w ne = ap (λ b. digit_of (not b)) (ne_eqb w 0 ne)

pub none_is : (w : ℕ) → w ≡ 0 → some_digit w ≡ 0
none_is w e = ap (λ b. digit_of (not b)) (eq-eqb w 0 e)

pub none_from : (w : ℕ) → some_digit w ≡ 0 → w ≡ 0
none_from w e = elim (cases_eq w 0) [
  | inl z ↦ z
  | inr ne ↦ (let s : some_digit w ≡ 1 = some_is w ne in absurd (omega (arith, s, e)))
]

pub some_from : (w : ℕ) → some_digit w ≡ 1 → w ≢ 0
some_from w e z = let s : some_digit w ≡ 0 = none_is w z in absurd (omega (arith, s, e))

-- the word at a leaf is another
module _ (words : List ℕ) (first place word : ℕ) (leaf : first ≤ place) (inside : place < length words) (summed : IsSummed first words) where
  put_other : (except k : ℕ) → (place ≢ except → some_digit word ≡ some_digit (get_or words place 0)) → k ≢ except → some_digit (get_or (set words place word) k 0) ≡ some_digit (get_or words k 0)
  put_other except k same ne = elim (cases_eq k place) [
    | inl e ↦
        (let f : get_or (set words place word) place 0 ≡ word = get_or-set_same words place word 0 inside in
        ap (λ i. some_digit (get_or (set words place word) i 0)) e ∙ ap some_digit f ∙ same (λ z. ne (e ∙ z)) ∙ ap (λ i. some_digit (get_or words i 0)) (sym e))
    | inr other ↦ ap some_digit (get_or-set_other words place k word 0 other)
  ]

  pub put_summed : (except : ℕ) → (place ≢ except → some_digit word ≡ some_digit (get_or words place 0)) → IsSummedBut except first (set words place word)
  put_summed except same p j lt in' ne =
      ap (λ x. bit_at x j) (get_or-set_other words place p word 0 (omega arith))
      ∙ summed p j lt in' (omega arith)
      ∙ sym (put_other except (64 * p + 1 + j) same ne)

-- the bit for the word at a place is mended
module _ (words : List ℕ) (first place word : ℕ) (inside : place < length words) (below : 0 < place) (summed : IsSummedBut place first words) (one : (j : ℕ) → j < 64 → bit_at word j ≡ digit_after_set ((place - 1) % 64) (some_digit (get_or words place 0)) (get_or words ((place - 1) / 64) 0) j) where
  there : get_or (set words ((place - 1) / 64) word) ((place - 1) / 64) 0 ≡ word
  there = get_or-set_same words ((place - 1) / 64) word 0 (omega arith)

  mended_other : (except k : ℕ) → ((place - 1) / 64 ≢ except → some_digit word ≡ some_digit (get_or words ((place - 1) / 64) 0)) → k ≢ except → some_digit (get_or (set words ((place - 1) / 64) word) k 0) ≡ some_digit (get_or words k 0)
  mended_other except k same ne = elim (cases_eq k ((place - 1) / 64)) [
    | inl e ↦ ap (λ i. some_digit (get_or (set words ((place - 1) / 64) word) i 0)) e ∙ ap some_digit there ∙ same (λ z. ne (e ∙ z)) ∙ ap (λ i. some_digit (get_or words i 0)) (sym e)
    | inr other ↦ ap some_digit (get_or-set_other words ((place - 1) / 64) k word 0 other)
  ]

  mended_bit : (p j : ℕ) → p < first → j < 64 → bit_at (get_or (set words ((place - 1) / 64) word) p 0) j ≡ some_digit (get_or words (64 * p + 1 + j) 0)
  mended_bit p j lt in' = elim (cases_eq p ((place - 1) / 64)) [
    | inl e ↦
        (ap (λ i. bit_at (get_or (set words ((place - 1) / 64) word) i 0) j) e ∙ ap (λ x. bit_at x j) there ∙ one j in'
        ∙ elim (cases_eq j ((place - 1) % 64)) [
          | inl f ↦
              (let g : 64 * p + 1 + j ≡ place = omega arith in
              ap (digit_after_set ((place - 1) % 64) (some_digit (get_or words place 0)) (get_or words ((place - 1) / 64) 0)) f
              ∙ written_same ((place - 1) % 64) (some_digit (get_or words place 0)) (get_or words ((place - 1) / 64) 0)
              ∙ ap (λ i. some_digit (get_or words i 0)) (sym g))
          | inr ne ↦
              written_other ((place - 1) % 64) (some_digit (get_or words place 0)) (get_or words ((place - 1) / 64) 0) j ne
              ∙ ap (λ i. bit_at (get_or words i 0) j) (sym e)
              ∙ summed p j lt in' (omega arith)
        ])
    | inr other ↦
        ap (λ x. bit_at x j) (get_or-set_other words ((place - 1) / 64) p word 0 other)
        ∙ summed p j lt in' (omega arith)
  ]

  pub mended : (except : ℕ) → ((place - 1) / 64 ≢ except → some_digit word ≡ some_digit (get_or words ((place - 1) / 64) 0)) → IsSummedBut except first (set words ((place - 1) / 64) word)
  mended except same p j lt in' ne = mended_bit p j lt in' ∙ sym (mended_other except (64 * p + 1 + j) same ne)

-- tests of two words tell whether one of them alone is 0
pub same_some : (a b : ℕ) → ((a == 0) ≡ (b == 0)) → some_digit b ≡ some_digit a
same_some a b e = ap (λ t. digit_of (not t)) (sym e)

pub same_from_beq : (x y : Bool) → beq x y ≡ true → x ≡ y
same_from_beq true true e = refl
same_from_beq true false e = sym e
same_from_beq false true e = e
same_from_beq false false e = refl
