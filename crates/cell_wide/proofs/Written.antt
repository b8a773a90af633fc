-- Digits that are written into a value, and compared, from the least on.
use Rattle.std.proofs.Common.{◌≡◌, ◌≢◌, ℕ, ◌+◌, ◌-◌, ◌*◌, ◌/◌, ◌%◌, ◌^◌, ◌<◌, ◌≤◌, min, sym, ◌∙◌, ap, arith, true, false}
use Rattle.std.specs.Prelude.{◌==◌}
use Rattle.std.proofs.Math.Nat.{mod-eq_of_lt}
use Rattle.std.proofs.lemmas.Bool.Decides.{nat_tests}
use Rattle.std.proofs.lemmas.Nat.{pow-add, shr_high, mod_low, same_from_place}
use Rattle.sim_base.proofs.Filling.{word_part}
use Rattle.cell_wide.specs.Words.{Passes}

-- ---- reading on

module _ (low next behind : ℕ → ℕ) (at n word : ℕ) (p : Passes low at (low at) next) (q : Passes next n word behind) (e : word ≡ next n) where
  pub low_more : low (at + n) ≡ word * 2 ^ at + low at
  low_more = p n ∙ ap (λ x. x * 2 ^ at + low at) (sym e)

  pub more_passed : Passes low (at + n) (low (at + n)) behind
  more_passed w =
      let k : at + n + w ≡ at + (n + w) = omega arith in
      ap low k ∙ p (n + w) ∙ ap (λ x. x * 2 ^ at + low at) (q w) ∙ parts (behind w) (2 ^ at) (2 ^ n) word (low at)
      ∙ ap (λ x. behind w * x + (word * 2 ^ at + low at)) (sym (pow-add 2 at n)) ∙ ap (λ x. behind w * 2 ^ (at + n) + x) (sym low_more)
    where
      parts : (h a b x y : ℕ) → (h * b + x) * a + y ≡ h * (a * b) + (x * a + y)
      parts h a b x y = omega arith

-- ---- writing

-- nothing is read yet
pub starts : (low : ℕ → ℕ) → low 0 < 2 ^ 0 → Passes low 0 (low 0) low
starts low lt w =
    let z : 0 + w ≡ w = omega arith in
    ap low z ∙ omega (arith, lt)

-- the next digits are a word of the number
pub part_written : (low next behind : ℕ → ℕ) (width at n word : ℕ) → Passes low at (low at) next → Passes next n word behind → low at < 2 ^ at → word < 2 ^ n → low width < 2 ^ width → at < width → n ≡ min (width - at) 64 → word ≡ low width / 2 ^ at % 2 ^ 64
part_written low next behind width at n word p q below lt fits more e =
    let k : width ≡ at + (width - at) = omega (arith, more) in
    let r : width - at ≡ n + (width - at - n) = omega (arith, e) in
    let a : low width / 2 ^ at ≡ next (width - at) = ap (λ w. low w / 2 ^ at) k ∙ ap (λ x. x / 2 ^ at) (p (width - at)) ∙ shr_high (next (width - at)) at (low at) below in
    let b : next (width - at) % 2 ^ n ≡ word = ap (λ w. next w % 2 ^ n) r ∙ ap (λ x. x % 2 ^ n) (q (width - at - n)) ∙ mod_low (behind (width - at - n)) n word lt in
    sym (ap (λ x. x % 2 ^ n) a ∙ b) ∙ word_part (low width) width at n more e ∙ ap (λ x. x / 2 ^ at % 2 ^ 64) (mod-eq_of_lt fits)

-- ---- comparing

-- the `at` lowest digits are the same
pub record IsComparing (low next high behind : ℕ → ℕ) (width at : ℕ) : Type 0 where
  pub most : at ≤ width
  pub passed : Passes low at (low at) next
  pub other : Passes high at (high at) behind
  pub equal : low at ≡ high at

module _ (low next last high behind end : ℕ → ℕ) (width at n r s : ℕ) (i : IsComparing low next high behind width at) (p : Passes next n r last) (q : Passes behind n s end) (e : r ≡ next n) (f : s ≡ behind n) where
  pub compared : at + n ≤ width → r ≡ s → IsComparing low last high end width (at + n)
  compared le same = record {
    most = le;
    passed = more_passed low next last at n r i.passed p e;
    other = more_passed high behind end at n s i.other q f;
    equal = low_more low next last at n r i.passed p e ∙ ap (λ x. x * 2 ^ at + low at) same ∙ ap (λ x. s * 2 ^ at + x) i.equal ∙ sym (low_more high behind end at n s i.other q f);
  }

  -- a difference stays one
  pub differs : ((w : ℕ) → low w < 2 ^ w) → ((w : ℕ) → high w < 2 ^ w) → ((w : ℕ) → last w < 2 ^ w) → ((w : ℕ) → end w < 2 ^ w) → r < 2 ^ n → s < 2 ^ n → at + n ≤ width → r ≢ s → false ≡ (low width == high width)
  differs lb hb ab eb rb sb le other = apart (low width) (high width) (λ is. other (
      let rest : width ≡ at + n + (width - (at + n)) = omega (arith, le) in
      let a : low width ≡ last (width - (at + n)) * 2 ^ (at + n) + low (at + n) = ap low rest ∙ more_passed low next last at n r i.passed p e (width - (at + n)) in
      let b : high width ≡ end (width - (at + n)) * 2 ^ (at + n) + high (at + n) = ap high rest ∙ more_passed high behind end at n s i.other q f (width - (at + n)) in
      let t = same_from_place (last (width - (at + n))) (low (at + n)) (end (width - (at + n))) (high (at + n)) (2 ^ (at + n)) (lb (at + n)) (hb (at + n)) (sym a ∙ is ∙ b) in
      (same_from_place r (low at) s (high at) (2 ^ at) (lb at) (hb at) (sym (low_more low next last at n r i.passed p e) ∙ t.1 ∙ low_more high behind end at n s i.other q f)).0))
    where
      apart : (c d : ℕ) → c ≢ d → false ≡ (c == d)
      apart c d h = grind (arith, nat_tests)

pub all_compared : (low next high behind : ℕ → ℕ) (width at : ℕ) → IsComparing low next high behind width at → width ≤ at → true ≡ (low width == high width)
all_compared low next high behind width at i le =
    let k : at ≡ width = omega (arith, i.most) in
    together (low width) (high width) (ap low (sym k) ∙ i.equal ∙ ap high k)
  where
    together : (c d : ℕ) → c ≡ d → true ≡ (c == d)
    together c d h = grind (arith, nat_tests)
