-- A value that is written word by word, from the least on.
use Rattle.std.proofs.Common.{◌≡◌, ℕ, ◌+◌, ◌-◌, ◌*◌, ◌/◌, ◌%◌, ◌^◌, ◌<◌, ◌≤◌, Bool, false, not, ◌||◌, ◌==◌, List, length, min, refl, sym, ◌∙◌, ap, subst, arith, inl, inr}
use Rattle.std.proofs.lemmas.Bool.{cases_lt}
use Rattle.std.proofs.lemmas.Nat.{mod_below, pow_pos}
use Rattle.std.proofs.lemmas.Nat.Bits.{bit_at_above, same_from_bits, same_from_bits_below}
use Rattle.std.proofs.Math.Nat.{pow-le-pow_right}
use Rattle.std.specs.Int.{bit_at}
use Rattle.sim_base.specs.BitValue.{BitValue}
use Rattle.sim_base.specs.Values.{width_at, number_at, with_number, IsPut}
use Rattle.sim_base.proofs.Words.{copied_in, copied_above}
use Rattle.sim_base.proofs.Field.{bit_at_mod, bit_at_shr}
use Rattle.sim_base.proofs.Written.{IsCopied, copied_nothing, copied_there, copied_width, eqb_flip, more_word}

-- the words of the first `done` digits of a number are written; only the last has fewer digits than 64
pub record IsFilling (old new : List BitValue) (n from width done : ℕ) (changed : Bool) : Type 0 where
  pub most : done ≤ width
  pub whole : done < width → done % 64 ≡ 0
  pub copied : IsCopied old new n 0 from 0 (64 * ((done + 63) / 64)) changed

pub filling_none : (values : List BitValue) (n from width : ℕ) → IsFilling values values n from width 0 false
filling_none values n from width = record {
  most = omega arith;
  whole = λ lt. refl;
  copied = copied_nothing values n 0 from 0;
}

-- the next word
pub filling_more : (old mid new : List BitValue) (n from width done m v : ℕ) (a b : Bool) → IsFilling old mid n from width done a → done < width → m ≡ min (width - done) 64 → IsCopied mid new n (64 * (done / 64)) v 0 64 b → v ≡ from / 2 ^ done % 2 ^ 64
    → IsFilling old new n from width (done + m) (a || b)
filling_more old mid new n from width done m v a b f lt e c part =
    let z : done % 64 ≡ 0 = f.whole lt in
    let here : 64 * ((done + 63) / 64) ≡ done = omega (arith, z) in
    let there : 64 * (done / 64) ≡ done = omega (arith, z) in
    let next : done + 64 ≡ 64 * ((done + m + 63) / 64) = omega (arith, z, e, lt) in
    record {
      most = omega (arith, e, lt);
      whole = λ more. omega (arith, z, e, more);
      copied = subst (λ k. IsCopied old new n 0 from 0 k (a || b)) next
          (more_word old mid new n from done 64 v a b (subst (λ k. IsCopied old mid n 0 from 0 k a) here f.copied) (subst (λ k. IsCopied mid new n k v 0 64 b) there c) part);
    }

pub filling_there : (old new : List BitValue) (n from width done : ℕ) (a : Bool) → IsFilling old new n from width done a → n < length old → n < length new
filling_there old new n from width done a f lt = copied_there old new n 0 from 0 (64 * ((done + 63) / 64)) a f.copied lt

pub filling_width : (old new : List BitValue) (n from width done : ℕ) (a : Bool) → IsFilling old new n from width done a → width_at new n ≡ width_at old n
filling_width old new n from width done a f = copied_width old new n 0 from 0 (64 * ((done + 63) / 64)) a f.copied

-- the next word fits
pub filling_below : (old new : List BitValue) (n from width done m v : ℕ) (a : Bool) → IsFilling old new n from width done a → done < width → m ≡ min (width - done) 64 → width ≡ width_at old n → v < 2 ^ m → (64 * (done / 64) < width_at new n) × (v < 2 ^ (width_at new n - 64 * (done / 64)))
filling_below old new n from width done m v a f lt e w below =
    let z : done % 64 ≡ 0 = f.whole lt in
    let there : 64 * (done / 64) ≡ done = omega (arith, z) in
    let same : width_at new n ≡ width = filling_width old new n from width done a f ∙ sym w in
    let le : m ≤ width_at new n - 64 * (done / 64) = omega (arith, e, there, same) in
    let p : 2 ^ m ≤ 2 ^ (width_at new n - 64 * (done / 64)) = pow-le-pow_right {n = 2} (omega arith) {i = m} {j = width_at new n - 64 * (done / 64)} le in
    (omega (arith, there, same, lt), omega (arith, below, p))

-- all words
pub filling_all : (old new : List BitValue) (n from width done : ℕ) (a : Bool) → IsFilling old new n from width done a → width ≤ done → width ≡ width_at old n → number_at old n < 2 ^ width_at old n → from < 2 ^ width → IsPut n from old new a
filling_all old new n from width done a f end w low fits =
    let k : ℕ = 64 * ((done + 63) / 64) in
    let le : width ≤ k = omega (arith, end) in
    let p : 2 ^ width ≤ 2 ^ k = pow-le-pow_right {n = 2} (omega arith) {i = width} {j = k} le in
    let old_low : number_at old n < 2 ^ k = (let l : number_at old n < 2 ^ width = subst (λ x. number_at old n < 2 ^ x) (sym w) low in omega (arith, l, p)) in
    let from_low : from < 2 ^ k = omega (arith, fits, p) in
    let number : number_at new n ≡ from = same_from_bits (number_at new n) from (λ j. f.copied.bits j ∙ elim (cases_lt j k) [
      | inl lt ↦ copied_in 0 from 0 k (number_at old n) j (omega arith) (omega (arith, lt)) ∙ ap (bit_at from) (let z : 0 + (j - 0) ≡ j = omega arith in z)
      | inr ge ↦ copied_above 0 from 0 k (number_at old n) j (omega (arith, ge)) ∙ bit_at_above (number_at old n) k j old_low ge ∙ sym (bit_at_above from k j from_low ge)
    ]) in
    record {
      value = f.copied.value ∙ ap (λ x. with_number old n x) number;
      told = f.copied.changed ∙ ap not (eqb_flip (number_at new n) (number_at old n)) ∙ ap (λ x. not (number_at old n == x)) number;
    }

-- the digits of a word, of which the last has fewer, are those of the number that is cut
pub word_part : (s width done n : ℕ) → done < width → n ≡ min (width - done) 64 → s / 2 ^ done % 2 ^ n ≡ s % 2 ^ width / 2 ^ done % 2 ^ 64
word_part s width done n lt e =
    let le : n ≤ 64 = omega (arith, e) in
    let p : 2 ^ n ≤ 2 ^ 64 = pow-le-pow_right {n = 2} (omega arith) {i = n} {j = 64} le in
    let small : s / 2 ^ done % 2 ^ n < 2 ^ n = mod_below (s / 2 ^ done) (2 ^ n) (pow_pos n) in
    same_from_bits_below 64 (s / 2 ^ done % 2 ^ n) (s % 2 ^ width / 2 ^ done % 2 ^ 64) (omega (arith, small, p)) (mod_below (s % 2 ^ width / 2 ^ done) (2 ^ 64) (pow_pos 64))
    (λ j in'. elim (cases_lt j n) [
      | inl a ↦
          bit_at_mod (s / 2 ^ done) n j a ∙ bit_at_shr s done j
          ∙ sym (bit_at_mod (s % 2 ^ width / 2 ^ done) 64 j in' ∙ bit_at_shr (s % 2 ^ width) done j ∙ bit_at_mod s width (done + j) (omega (arith, a, e, lt)))
      | inr b ↦
          bit_at_above (s / 2 ^ done % 2 ^ n) n j small b
          ∙ sym (bit_at_mod (s % 2 ^ width / 2 ^ done) 64 j in' ∙ bit_at_shr (s % 2 ^ width) done j ∙ bit_at_above (s % 2 ^ width) width (done + j) (mod_below s (2 ^ width) (pow_pos width)) (omega (arith, b, e, in', lt)))
    ])
