-- The way from the root down to the first leaf that is not 0.
use Rattle.std.proofs.Common.{◌≡◌, ◌≢◌, ℕ, zero, suc, ◌+◌, ◌-◌, ◌*◌, ◌/◌, ◌%◌, ◌^◌, ◌<◌, ◌≤◌, List, length, get_or, refl, sym, ◌∙◌, ap, arith, inl, inr, w64}
use Rattle.std.proofs.lemmas.Bool.{cases_lt}
use Rattle.std.proofs.lemmas.List.{get_or_past}
use Rattle.std.proofs.lemmas.Nat.Bits.{bit_at-zero, bit_at-trailing_zeros}
use Rattle.std.specs.Int.{bit_at, trailing_zeros}
use Rattle.dirty_set.specs.Tree.{first_place, some_digit, IsSummed}
use Rattle.dirty_set.proofs.Summed.{none_from, some_from}

-- the first word of a level that is not 0
pub record IsLeastAt (level place : ℕ) (words : List ℕ) : Type 0 where
  pub from : first_place level ≤ place
  pub until : place < 64 * first_place level + 1
  pub some : get_or words place 0 ≢ 0
  pub least : (q : ℕ) → first_place level ≤ q → q < place → get_or words q 0 ≡ 0

pub first_step : (level : ℕ) → first_place (suc level) ≡ 64 * first_place level + 1
unfolding first_place
first_step level = refl

pub first_zero : first_place 0 ≡ 0
unfolding first_place
first_zero = refl

first_rises : (a b : ℕ) → a ≤ b → first_place a ≤ first_place b
first_rises a zero le = let z : a ≡ 0 = omega arith in rw z (omega arith)
first_rises a (suc b) le = elim (cases_lt a (suc b)) [
  | inl lt ↦ (let h = first_rises a b (omega arith) in omega (arith, h, first_step b))
  | inr ge ↦ (let e : a ≡ suc b = omega arith in rw e (omega arith))
]

pub some_inside : (words : List ℕ) (place : ℕ) → get_or words place 0 ≢ 0 → place < length words
some_inside words place ne = elim (cases_lt place (length words)) [
  | inl lt ↦ lt
  | inr ge ↦ absurd (ne (get_or_past words place 0 ge))
]

pub root_is_least : (words : List ℕ) → get_or words 0 0 ≢ 0 → IsLeastAt 0 0 words
root_is_least words ne = record {
  from = omega (arith, first_zero);
  until = omega arith;
  some = ne;
  least = λ q a b. absurd (omega arith);
}

pub lowest : (x : ℕ) → x ≢ 0 → x < 2 ^ 64 → (trailing_zeros w64 x < 64) × (bit_at x (trailing_zeros w64 x) ≡ 1) × ((i : ℕ) → i < trailing_zeros w64 x → bit_at x i ≡ 0)
lowest x ne fits = bit_at-trailing_zeros w64 x (omega arith) fits

-- one level down
module _ (words : List ℕ) (depth level place t : ℕ) (above : level < depth) (summed : IsSummed (first_place depth) words) (is : IsLeastAt level place words) (in' : t < 64) (set' : bit_at (get_or words place 0) t ≡ 1) (clear : (i : ℕ) → i < t → bit_at (get_or words place 0) i ≡ 0) where
  inner : place < first_place depth
  inner = let r = first_rises (suc level) depth (omega arith) in let u = is.until in omega (arith, r, u, first_step level)

  bit_before : (p j : ℕ) → first_place level ≤ p → 64 * p + 1 + j < 64 * place + 1 + t → j < 64 → bit_at (get_or words p 0) j ≡ 0
  bit_before p j from before low = elim (cases_lt p place) [
    | inl lt ↦ ap (λ x. bit_at x j) (is.least p from lt) ∙ bit_at-zero j
    | inr ge ↦ (let e : p ≡ place = omega arith in ap (λ q. bit_at (get_or words q 0) j) e ∙ clear j (omega arith))
  ]

  least_below : (q : ℕ) → first_place (suc level) ≤ q → q < 64 * place + 1 + t → get_or words q 0 ≡ 0
  least_below q from before =
      let s = first_step level in
      let e : 64 * ((q - 1) / 64) + 1 + (q - 1) % 64 ≡ q = omega (arith, s, from) in
      let b : bit_at (get_or words ((q - 1) / 64) 0) ((q - 1) % 64) ≡ 0 = bit_before ((q - 1) / 64) ((q - 1) % 64) (omega (arith, s, from)) (omega (arith, e, before)) (omega arith) in
      let u = inner in
      let d = summed ((q - 1) / 64) ((q - 1) % 64) (omega (arith, u, before, in')) (omega arith) (omega arith) in
      none_from (get_or words q 0) (ap (λ i. some_digit (get_or words i 0)) (sym e) ∙ sym d ∙ b)

  pub one_down : IsLeastAt (suc level) (64 * place + 1 + t) words
  one_down =
      let s = first_step level in
      let f = is.from in
      let u = is.until in
      record {
        from = omega (arith, s, f);
        until = omega (arith, s, u, in');
        some = some_from (get_or words (64 * place + 1 + t) 0) (sym (summed place t inner in' (omega arith)) ∙ set');
        least = least_below;
      }
