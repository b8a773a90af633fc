-- Digits that are written to one value of several.
use Rattle.std.proofs.Common.{◌≡◌, ℕ, zero, suc, ◌+◌, ◌/◌, ◌%◌, ◌^◌, ◌*◌, ◌-◌, ◌<◌, ◌≤◌, Bool, false, not, ◌||◌, ◌==◌, List, [], ◌∷◌, length, get_or, set, refl, sym, ◌∙◌, ap, subst, arith, inl, inr}
use Rattle.std.proofs.lemmas.Bool.{ne_eqb, eq-eqb}
use Rattle.std.proofs.lemmas.Bool.Decides.{eqb_tells}
use Rattle.std.proofs.lemmas.List.{length-set}
use Rattle.std.proofs.lemmas.Nat.{mod_below, pow_pos}
use Rattle.std.proofs.lemmas.Nat.Bits.{same_from_bits_below}
use Rattle.std.specs.Int.{bit_at}
use Rattle.sim_base.specs.BitValue.{BitValue, bit_value, number_of_words, digit_after_copy}
use Rattle.sim_base.proofs.Field.{bit_at_mod, bit_at_shr}
use Rattle.sim_base.proofs.Words.{copied_in, copied_none}
use Rattle.sim_base.proofs.Copies.{copied_word, copied_number_below, copied_join, placed_word, placed_below}
use Rattle.sim_base.proofs.Told.{told_none, told_more, told_word}
use Rattle.sim_base.specs.Values.{widths, width_at, number_at, words_of, first_word, values_of, with_number, IsLaidOut, IsPut}
use Rattle.sim_base.proofs.Blocks.{block}
use Rattle.sim_base.proofs.Held.{width_is, place_is, below, number_of_block, length_of_block, fit_block, word_of_block, word_inside, set_view, set_laid, numbers_set, widths_kept}

-- k digits of `from` were written to value n, and it is told whether its number changed
pub record IsCopied (old new : List BitValue) (n at from from_at k : ℕ) (told : Bool) : Type 0 where
  pub value : new ≡ set old n (bit_value (width_at old n) (number_at new n))
  pub bits : (j : ℕ) → bit_at (number_at new n) j ≡ digit_after_copy at from from_at k (number_at old n) j
  pub changed : told ≡ not (number_at new n == number_at old n)

pub set_own : (values : List BitValue) (n : ℕ) → values ≡ set values n (bit_value (width_at values n) (number_at values n))
set_own [] n = refl
set_own (v ∷ values) zero = refl
set_own (v ∷ values) (suc n) = ap (λ (l : List BitValue). v ∷ l) (set_own values n)

set_twice : (values : List BitValue) (n : ℕ) (x y : BitValue) → set (set values n x) n y ≡ set values n y
set_twice [] n x y = refl
set_twice (v ∷ values) zero x y = refl
set_twice (v ∷ values) (suc n) x y = ap (λ (l : List BitValue). v ∷ l) (set_twice values n x y)

-- no digits
pub copied_nothing : (values : List BitValue) (n at from from_at : ℕ) → IsCopied values values n at from from_at 0 false
copied_nothing values n at from from_at = record {
  value = set_own values n;
  bits = λ j. sym (copied_none at from from_at (number_at values n) j);
  changed = told_none (number_at values n);
}

-- digits after digits
pub copied_more : (old mid new : List BitValue) (n at from from_at k m v : ℕ) (a b : Bool) → IsCopied old mid n at from from_at k a → IsCopied mid new n (at + k) v 0 m b → ((i : ℕ) → i < m → bit_at v i ≡ bit_at from (from_at + k + i)) → IsCopied old new n at from from_at (k + m) (a || b)
copied_more old mid new n at from from_at k m v a b first second same = record {
  value = second.value
      ∙ ap (λ w. set mid n (bit_value w (number_at new n))) (ap (λ (l : List BitValue). width_at l n) first.value ∙ ap (λ (l : List ℕ). get_or l n 0) (widths_kept old n (number_at mid n)))
      ∙ ap (λ (l : List BitValue). set l n (bit_value (width_at old n) (number_at new n))) first.value
      ∙ set_twice old n (bit_value (width_at old n) (number_at mid n)) (bit_value (width_at old n) (number_at new n));
  bits = copied_join at from from_at k m (number_at old n) (number_at mid n) (number_at new n) v first.bits second.bits same;
  changed = told_more at from from_at k m (number_at old n) (number_at mid n) (number_at new n) v a b first.bits second.bits first.changed second.changed;
}

-- the value stays where it is, with its width
pub copied_there : (old new : List BitValue) (n at from from_at k : ℕ) (told : Bool) → IsCopied old new n at from from_at k told → n < length old → n < length new
copied_there old new n at from from_at k told c lt =
    let l : length new ≡ length old = ap (λ (l : List BitValue). length l) c.value ∙ length-set old n (bit_value (width_at old n) (number_at new n)) in omega (arith, l, lt)

pub copied_width : (old new : List BitValue) (n at from from_at k : ℕ) (told : Bool) → IsCopied old new n at from from_at k told → width_at new n ≡ width_at old n
copied_width old new n at from from_at k told c = ap (λ (l : List BitValue). width_at l n) c.value ∙ ap (λ (l : List ℕ). get_or l n 0) (widths_kept old n (number_at new n))

-- the next digits of a number, of which the first k were written
pub more_bits : (old mid new : List BitValue) (n from k m v : ℕ) (a b : Bool) → IsCopied old mid n 0 from 0 k a → IsCopied mid new n k v 0 m b → ((i : ℕ) → i < m → bit_at v i ≡ bit_at from (k + i)) → IsCopied old new n 0 from 0 (k + m) (a || b)
more_bits old mid new n from k m v a b first second same =
    copied_more old mid new n 0 from 0 k m v a b first (subst (λ at. IsCopied mid new n at v 0 m b) (let z : k ≡ 0 + k = omega arith in z) second)
    (λ i lt. same i lt ∙ ap (bit_at from) (let z : k + i ≡ 0 + k + i = omega arith in z))

pub more_word : (old mid new : List BitValue) (n from k m v : ℕ) (a b : Bool) → IsCopied old mid n 0 from 0 k a → IsCopied mid new n k v 0 m b → v ≡ from / 2 ^ k % 2 ^ m → IsCopied old new n 0 from 0 (k + m) (a || b)
more_word old mid new n from k m v a b first second e =
    more_bits old mid new n from k m v a b first second (λ i lt. ap (λ x. bit_at x i) e ∙ bit_at_mod (from / 2 ^ k) m i lt ∙ bit_at_shr from k i)

pub digit_inside : (words ws places : List ℕ) (values : List BitValue) (n i p at k : ℕ) (laid : IsLaidOut words ws places) (view : values_of ws words ≡ values) (lt : n < length values) → p ≡ first_word (widths values) n → i ≡ p + at / 64 → 0 < k → at + k ≤ width_at values n → i < length words
digit_inside words ws places values n i p at k laid view lt e f some inside =
    let w = width_is words ws places values n laid view lt in
    let q = place_is words ws places values n laid view lt p e in
    let d : at / 64 < words_of (get_or ws n 0) = omega (arith, w, inside, some) in
    word_inside words ws places values n laid view lt i (at / 64) (omega (arith, q, f)) d

-- a word of a value is replaced, and its digits are known
module _ (words ws places : List ℕ) (values : List BitValue) (n i k at v m word : ℕ) (laid : IsLaidOut words ws places) (view : values_of ws words ≡ values) (lt : n < length values) (e : i ≡ first_word ws n + k) (in' : k < words_of (get_or ws n 0)) (fits : word < 2 ^ 64) (bits : (j : ℕ) → bit_at (number_of_words (set (block ws words n) k word)) j ≡ digit_after_copy at v 0 m (number_at values n) j) where
  in_block : k < length (block ws words n)
  in_block = omega (arith, in', length_of_block words ws places values n laid view lt)

  number_new : number_at (values_of ws (set words i word)) n ≡ number_of_words (set (block ws words n) k word)
  number_new =
      ap (λ (l : List BitValue). number_at l n) (set_view words ws places values n laid view lt i k word e in')
      ∙ numbers_set values n n (width_at values n) (number_of_words (set (block ws words n) k word)) lt refl

  pub word_copied : (told : Bool) → ((old : ℕ) → get_or words i 0 ≡ old → told ≡ not (old == word)) → IsCopied values (values_of ws (set words i word)) n at v 0 m told
  word_copied told t = record {
    value = set_view words ws places values n laid view lt i k word e in' ∙ ap (λ m. set values n (bit_value (width_at values n) m)) (sym number_new);
    bits = λ j. ap (λ m. bit_at m j) number_new ∙ bits j;
    changed = t (get_or (block ws words n) k 0) (sym (word_of_block words ws places values n laid view lt i k e in'))
        ∙ ap not (told_word (block ws words n) k word (fit_block words ws places values n laid view lt) fits in_block
        ∙ ap (λ m. m == number_of_words (block ws words n)) (sym number_new)
        ∙ ap (λ m. number_at (values_of ws (set words i word)) n == m) (sym (number_of_block words ws places values n laid view lt)));
  }

-- digits inside one word
module _ (words ws places : List ℕ) (values : List BitValue) (n i at k v word r : ℕ) (laid : IsLaidOut words ws places) (view : values_of ws words ≡ values) (lt : n < length values) (e : i ≡ first_word ws n + at / 64) (some : 0 < k) (small : at % 64 + k ≤ 64) (inside : at + k ≤ width_at values n) (fits : word < 2 ^ 64) (read : r ≡ get_or words i 0) (one : (j : ℕ) → j < 64 → bit_at word j ≡ digit_after_copy (at % 64) v 0 k r j) where
  pub word_in : at / 64 < words_of (get_or ws n 0)
  word_in = omega (arith, width_is words ws places values n laid view lt, inside, some)

  bits_block : (j : ℕ) → bit_at (number_of_words (set (block ws words n) (at / 64) word)) j ≡ digit_after_copy at v 0 k (number_at values n) j
  bits_block j =
      copied_word (block ws words n) at k v word (fit_block words ws places values n laid view lt) fits (omega (arith, word_in, length_of_block words ws places values n laid view lt)) small
      (λ h small. one h small ∙ ap (λ x. digit_after_copy (at % 64) v 0 k x h) (read ∙ sym (word_of_block words ws places values n laid view lt i (at / 64) e word_in))) j
      ∙ ap (λ x. digit_after_copy at v 0 k x j) (sym (number_of_block words ws places values n laid view lt))

  pub digits_laid : IsLaidOut (set words i word) ws places
  digits_laid =
      set_laid words ws places values n laid view lt i (at / 64) word e word_in fits
      (copied_number_below (width_at values n) at v 0 k (number_at values n) (number_of_words (set (block ws words n) (at / 64) word)) inside (below words ws places values n laid view lt) bits_block)

  pub digits_copied : (told : Bool) → ((old : ℕ) → get_or words i 0 ≡ old → told ≡ not (old == word)) → IsCopied values (values_of ws (set words i word)) n at v 0 k told
  digits_copied = word_copied words ws places values n i (at / 64) at v k word laid view lt e word_in fits bits_block

-- a whole word
module _ (words ws places : List ℕ) (values : List BitValue) (n i p k word : ℕ) (laid : IsLaidOut words ws places) (view : values_of ws words ≡ values) (lt : n < length values) (e : p ≡ first_word (widths values) n) (f : i ≡ p + k) (inside : 64 * k < width_at values n) (low : word < 2 ^ (width_at values n - 64 * k)) (fits : word < 2 ^ 64) where
  place : i ≡ first_word ws n + k
  place = omega (arith, f, place_is words ws places values n laid view lt p e)

  word_in' : k < words_of (get_or ws n 0)
  word_in' = omega (arith, width_is words ws places values n laid view lt, inside)

  pub whole_inside : i < length words
  whole_inside = word_inside words ws places values n laid view lt i k place word_in'

  bits_whole : (j : ℕ) → bit_at (number_of_words (set (block ws words n) k word)) j ≡ digit_after_copy (64 * k) word 0 64 (number_at values n) j
  bits_whole j =
      placed_word (block ws words n) k word (fit_block words ws places values n laid view lt) fits (omega (arith, word_in', length_of_block words ws places values n laid view lt)) j
      ∙ ap (λ x. digit_after_copy (64 * k) word 0 64 x j) (sym (number_of_block words ws places values n laid view lt))

  pub whole_laid : IsLaidOut (set words i word) ws places
  whole_laid =
      set_laid words ws places values n laid view lt i k word place word_in' fits
      (placed_below (width_at values n) k word (number_at values n) (number_of_words (set (block ws words n) k word)) low (below words ws places values n laid view lt) bits_whole inside)

  pub whole_copied : (told : Bool) → ((old : ℕ) → get_or words i 0 ≡ old → told ≡ not (old == word)) → IsCopied values (values_of ws (set words i word)) n (64 * k) word 0 64 told
  whole_copied = word_copied words ws places values n i k (64 * k) word 64 word laid view lt place word_in' fits bits_whole

pub eqb_flip : (a b : ℕ) → (a == b) ≡ (b == a)
eqb_flip a b = elim (eqb_tells a b) [
  | inl t ↦ t.0 ∙ sym (eq-eqb b a (sym t.1))
  | inr f ↦ f.0 ∙ sym (ne_eqb b a (λ e. f.1 (sym e)))
]

-- the number is there already
pub put_same : (values : List BitValue) (n number : ℕ) → number_at values n ≡ number → IsPut n number values values false
put_same values n number e = record {
  value = set_own values n ∙ ap (with_number values n) e;
  told = ap not (sym (eq-eqb (number_at values n) number e));
}

-- all digits were written
pub all_copied : (old new : List BitValue) (n from k m : ℕ) (told : Bool) → IsCopied old new n 0 from 0 k told → k ≡ width_at old n → number_at old n < 2 ^ width_at old n → m ≡ from % 2 ^ k → IsPut n m old new told
all_copied old new n from k m told c w low e =
    let fits : number_at old n < 2 ^ k = subst (λ x. number_at old n < 2 ^ x) (sym w) low in
    let below : number_at new n < 2 ^ k = copied_number_below k 0 from 0 k (number_at old n) (number_at new n) (omega arith) fits c.bits in
    let number : number_at new n ≡ from % 2 ^ k =
    same_from_bits_below k (number_at new n) (from % 2 ^ k) below (mod_below from (2 ^ k) (pow_pos k))
    (λ j lt. c.bits j ∙ copied_in 0 from 0 k (number_at old n) j (omega arith) (omega arith) ∙ ap (bit_at from) (let z : 0 + (j - 0) ≡ j = omega arith in z) ∙ sym (bit_at_mod from k j lt)) in
    record {
      value = c.value ∙ ap (λ x. with_number old n x) (number ∙ sym e);
      told = c.changed ∙ ap not (eqb_flip (number_at new n) (number_at old n)) ∙ ap (λ x. not (number_at old n == x)) (number ∙ sym e);
    }
