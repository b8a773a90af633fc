-- The values of a row, put one after another.
use Rattle.std.proofs.Common.{◌≡◌, ℕ, zero, suc, ◌+◌, ◌<◌, ◌≤◌, List, [], ◌∷◌, length, get_or, map, set, refl, sym, ◌∙◌, ap, arith, inl, inr}
use Rattle.std.proofs.lemmas.Bool.{cases_eq}
use Rattle.std.proofs.lemmas.List.{get_or-map, get_or-set_same, get_or-set_other, length-map, same_lists, get_or_default}
use Rattle.sim_base.specs.BitValue.{BitValue, bit_value}
use Rattle.sim_base.specs.Values.{numbers, widths}
use Rattle.stimulus_text.specs.Numbers.{number_of}
use Rattle.stimulus_text.specs.declared.value.Value.{Value}

pub widths_set : (xs : List BitValue) (i n : ℕ) (x : BitValue) → x ≡ get_or xs i x → widths (set xs i (bit_value x.width n)) ≡ widths xs
widths_set [] i n x e = refl
widths_set (y ∷ ys) zero n x e = ap (λ z. z.width ∷ widths ys) e
widths_set (y ∷ ys) (suc i) n x e = ap (λ ws. y.width ∷ ws) (widths_set ys i n x e)

numbers_set : (xs : List BitValue) (i : ℕ) (v : BitValue) → numbers (set xs i v) ≡ set (numbers xs) i v.number
numbers_set [] i v = refl
numbers_set (y ∷ ys) zero v = refl
numbers_set (y ∷ ys) (suc i) v = ap (λ ns. y.number ∷ ns) (numbers_set ys i v)

pub width_here : (xs : List BitValue) (i : ℕ) (x : BitValue) → i < length xs → x ≡ get_or xs i x → get_or (widths xs) i 0 ≡ x.width
width_here xs i x lt e = get_or-map (λ v. v.width) xs i x 0 lt ∙ ap (λ v. v.width) (sym e)

-- the value in the column of an input
pub value_here : (values : List Value) (columns : List ℕ) (i : ℕ) (v : Value) → i < length columns → get_or columns i 0 < length values → v ≡ get_or values (get_or columns i 0) v → get_or (map (λ column. get_or (map number_of values) column 0) columns) i 0 ≡ number_of v
value_here values columns i v inside there e =
    get_or-map (λ column. get_or (map number_of values) column 0) columns i 0 0 inside
    ∙ get_or-map number_of values (get_or columns i 0) v 0 there ∙ ap number_of (sym e)

pub numbers_more : (xs : List BitValue) (i : ℕ) (v : BitValue) (target : List ℕ) → i < length xs → ((k : ℕ) → k < i → get_or (numbers xs) k 0 ≡ get_or target k 0) → get_or target i 0 ≡ v.number → (k : ℕ) → k < i + 1 → get_or (numbers (set xs i v)) k 0 ≡ get_or target k 0
numbers_more xs i v target inside before here k lt = elim (cases_eq k i) [
  | inl same ↦
      ap (λ (ns : List ℕ). get_or ns k 0) (numbers_set xs i v) ∙ ap (λ j. get_or (set (numbers xs) i v.number) j 0) same
      ∙ get_or-set_same (numbers xs) i v.number 0 (omega (arith, length-map xs (λ v. v.number))) ∙ sym here ∙ ap (λ j. get_or target j 0) (sym same)
  | inr other ↦
      ap (λ (ns : List ℕ). get_or ns k 0) (numbers_set xs i v) ∙ get_or-set_other (numbers xs) i k v.number 0 other ∙ before k (omega arith)
]

pub numbers_all : (xs : List BitValue) (n : ℕ) (target : List ℕ) → length xs ≡ length target → length target ≤ n → ((k : ℕ) → k < n → get_or (numbers xs) k 0 ≡ get_or target k 0) → numbers xs ≡ target
numbers_all xs n target long over same = same_lists (numbers xs) target (length-map xs (λ v. v.number) ∙ long) (λ k d lt. defaults (numbers xs) target k d lt (omega (arith, length-map xs (λ v. v.number))) (same k (omega (arith, length-map xs (λ v. v.number)))))
  where
    defaults : (a b : List ℕ) (k d : ℕ) → k < length a → k < length b → get_or a k 0 ≡ get_or b k 0 → get_or a k d ≡ get_or b k d
    defaults a b k d la lb e = get_or_default a k d 0 la ∙ e ∙ get_or_default b k 0 d lb
