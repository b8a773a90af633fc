-- Ones among the digits of a number.
use Rattle.std.proofs.Common.{◌≡◌, ◌≢◌, ℕ, zero, suc, ◌+◌, ◌-◌, ◌*◌, ◌%◌, ◌^◌, ◌<◌, ◌≤◌, refl, sym, ◌∙◌, ap, arith, inl, inr, true, false, count_ones, bit_xor, bit_and, w64}
use Rattle.std.specs.Prelude.{◌==◌}
use Rattle.std.specs.Int.{bit_at, trailing_zeros}
use Rattle.std.proofs.lemmas.Bool.{cases_lt, cond-true, cond-false}
use Rattle.std.proofs.lemmas.Bool.Decides.{nat_tests}
use Rattle.std.proofs.lemmas.Nat.{pow_pos, ones_cat, and_mask}
use Rattle.std.proofs.lemmas.Nat.Bits.{bit_at-zero, bit_at_above, bit_at_cat_low, bit_at_cat_high, bit_at-trailing_zeros}
use Rattle.circuit.specs.Output.{lowest_from}
use Rattle.cell_wide.specs.Words.{Passes}
use Rattle.cell_wide.proofs.Written.{low_more, more_passed}

-- ---- how many

-- `odd` is the parity of the ones among the `at` lowest digits
pub record IsCounting (low next : ℕ → ℕ) (width at odd : ℕ) : Type 0 where
  pub most : at ≤ width
  pub passed : Passes low at (low at) next
  pub parity : odd ≡ count_ones (low at) % 2

xor_digit : (a b : ℕ) → a < 2 → b < 2 → bit_xor a b ≡ (a + b) % 2
xor_digit zero zero l k = refl
xor_digit zero (suc zero) l k = refl
xor_digit (suc zero) zero l k = refl
xor_digit (suc zero) (suc zero) l k = refl
xor_digit zero (suc (suc b)) l k = absurd (omega (arith, k))
xor_digit (suc zero) (suc (suc b)) l k = absurd (omega (arith, k))
xor_digit (suc (suc a)) b l k = absurd (omega (arith, l))

pub counted : (low next behind : ℕ → ℕ) (width at odd n word : ℕ) → IsCounting low next width at odd → Passes next n word behind → word ≡ next n → at + n ≤ width → low at < 2 ^ at → IsCounting low behind width (at + n) (bit_xor odd (bit_and (count_ones word) 1))
counted low next behind width at odd n word i q e le lt =
    let one : bit_and (count_ones word) 1 ≡ count_ones word % 2 = and_mask (count_ones word) 1 in
    let all : count_ones (low (at + n)) ≡ count_ones word + count_ones (low at) = ap count_ones (low_more low next behind at n word i.passed q e) ∙ ones_cat at word (low at) lt in
    record {
      most = le;
      passed = more_passed low next behind at n word i.passed q e;
      parity = ap (bit_xor odd) one ∙ xor_digit odd (count_ones word % 2) (omega (arith, i.parity)) (omega arith) ∙ omega (arith, i.parity, all);
    }

-- ---- the lowest one

-- none stands among the `at` lowest digits
pub record IsSearching (low next : ℕ → ℕ) (width at : ℕ) : Type 0 where
  pub most : at ≤ width
  pub passed : Passes low at (low at) next
  pub none : low at ≡ 0

pub lowest_is : (bits i n r : ℕ) → i ≤ r → r < i + bits → ((j : ℕ) → i ≤ j → j < r → bit_at n j ≡ 0) → bit_at n r ≡ 1 → lowest_from bits i n ≡ r
unfolding lowest_from
lowest_is zero i n r a b h e = absurd (omega arith)
lowest_is (suc bits) i n r a b h e = elim (cases_lt i r) [
  | inl lt ↦
      (let z : bit_at n i ≡ 0 = h i (omega arith) lt in
      cond-false (bit_at n i == 1) i (lowest_from bits (suc i) n) (not_one (bit_at n i) z) ∙ lowest_is bits (suc i) n r (omega arith) (omega arith) (λ j le l. h j (omega arith) l) e)
  | inr ge ↦
      (let same : i ≡ r = omega arith in
      cond-true (bit_at n i == 1) i (lowest_from bits (suc i) n) (is_one (bit_at n i) (ap (bit_at n) same ∙ e)) ∙ same)
]
  where
    not_one : (d : ℕ) → d ≡ 0 → (d == 1) ≡ false
    not_one d e = grind (arith, nat_tests)

    is_one : (d : ℕ) → d ≡ 1 → (d == 1) ≡ true
    is_one d e = grind (arith, nat_tests)

pub lowest_none : (bits i n : ℕ) → ((j : ℕ) → bit_at n j ≡ 0) → lowest_from bits i n ≡ i + bits
unfolding lowest_from
lowest_none zero i n h = omega arith
lowest_none (suc bits) i n h =
    let z : (bit_at n i == 1) ≡ false = not_one (bit_at n i) (h i) in
    let e : suc i + bits ≡ i + suc bits = omega arith in
    cond-false (bit_at n i == 1) i (lowest_from bits (suc i) n) z ∙ lowest_none bits (suc i) n h ∙ e
  where
    not_one : (d : ℕ) → d ≡ 0 → (d == 1) ≡ false
    not_one d e = grind (arith, nat_tests)

pub found_inside : (n word : ℕ) → word < 2 ^ n → word ≢ 0 → word < 2 ^ 64 → trailing_zeros w64 word < n
found_inside n word lt some fits = let t = bit_at-trailing_zeros w64 word (omega (arith, some)) fits in below (trailing_zeros w64 word) t.1
  where
    below : (t : ℕ) → bit_at word t ≡ 1 → t < n
    below t one = elim (cases_lt t n) [
      | inl d ↦ d
      | inr d ↦ (let z : bit_at word t ≡ 0 = bit_at_above word n t lt d in absurd (omega (arith, z, one)))
    ]

module _ (low next behind : ℕ → ℕ) (width at n word : ℕ) (q : Passes next n word behind) (e : word ≡ next n) (le : at + n ≤ width) where
  pub searched : IsSearching low next width at → word ≡ 0 → IsSearching low behind width (at + n)
  searched i z = record {
    most = le;
    passed = more_passed low next behind at n word i.passed q e;
    none = low_more low next behind at n word i.passed q e ∙ ap (λ x. x * 2 ^ at + low at) z ∙ ap (λ x. 0 * 2 ^ at + x) i.none ∙ (let k : 0 * 2 ^ at + 0 ≡ 0 = omega arith in k);
  }

  pub found : IsSearching low next width at → ((w : ℕ) → behind w < 2 ^ w) → word < 2 ^ n → word ≢ 0 → word < 2 ^ 64 → lowest_from width 0 (low width) ≡ at + trailing_zeros w64 word
  found i below lt some fits =
      let t = bit_at-trailing_zeros w64 word (omega (arith, some)) fits in
      let rest : width ≡ at + n + (width - (at + n)) = omega (arith, le) in
      let whole : low (at + n) ≡ word * 2 ^ at + 0 = low_more low next behind at n word i.passed q e ∙ ap (λ x. word * 2 ^ at + x) i.none in
      let all : low width ≡ behind (width - (at + n)) * 2 ^ (at + n) + (word * 2 ^ at + 0) =
      ap low rest ∙ more_passed low next behind at n word i.passed q e (width - (at + n)) ∙ ap (λ x. behind (width - (at + n)) * 2 ^ (at + n) + x) whole in
      let inside : trailing_zeros w64 word < n = found_inside n word lt some fits in
      lowest_is width 0 (low width) (at + trailing_zeros w64 word) (omega arith) (omega (arith, inside, le))
      (λ j a b. ap (λ x. bit_at x j) all ∙ bit_at_cat_low (behind (width - (at + n))) (at + n) (word * 2 ^ at + 0) j (omega (arith, b, inside))
      ∙ elim (cases_lt j at) [
        | inl d ↦ bit_at_cat_low word at 0 j d ∙ bit_at-zero j
        | inr d ↦ bit_at_cat_high word at 0 j (pow_pos at) d ∙ t.2 (j - at) (omega (arith, b, d))
      ])
      (ap (λ x. bit_at x (at + trailing_zeros w64 word)) all ∙ bit_at_cat_low (behind (width - (at + n))) (at + n) (word * 2 ^ at + 0) (at + trailing_zeros w64 word) (omega (arith, inside))
      ∙ bit_at_cat_high word at 0 (at + trailing_zeros w64 word) (pow_pos at) (omega arith)
      ∙ (let k : at + trailing_zeros w64 word - at ≡ trailing_zeros w64 word = omega arith in ap (bit_at word) k) ∙ t.1)

pub found_none : (low next : ℕ → ℕ) (width at : ℕ) → IsSearching low next width at → width ≤ at → lowest_from width 0 (low width) ≡ width
found_none low next width at i le =
    let k : at ≡ width = omega (arith, i.most) in
    ap (lowest_from width 0) (ap low (sym k) ∙ i.none) ∙ lowest_none width 0 0 (λ j. bit_at-zero j) ∙ (let z : 0 + width ≡ width = omega arith in z)
