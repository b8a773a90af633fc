-- The sample at each place of blocks that stand one behind another, and that times rise.
use Rattle.std.proofs.Common.{◌≡◌, ℕ, zero, suc, ◌+◌, ◌-◌, ◌*◌, ◌/◌, ◌%◌, ◌<◌, ◌≤◌, List, [], ◌∷◌, length, get_or, take, ltb, refl, sym, ◌∙◌, ap, subst, arith, inl, inr, Some}
use Rattle.std.specs.Prelude.{slice_get}
use Rattle.std.proofs.Math.Nat.{div-lt_iff_lt-mul, mod-lt, mul-le-mul_right}
use Rattle.std.proofs.lemmas.Bool.{cases_lt, cond-true, cond-false, lt-ltb, le-ltb}
use Rattle.std.proofs.lemmas.Nat.{div-add-mod'}
use Rattle.stimulus_blocks.specs.Rows.{BlockRow, no_row}
use Rattle.stimulus_blocks.specs.Blocks.{IsBlock, later, length_in, length_of, sample_at, sample_of, samples_in, samples_of}
use Rattle.stimulus_blocks.specs.declared.block.Block.{Block}

pub get_read : {X : Type 0} (xs : List X) (i : ℕ) (d : X) → i < length xs → slice_get xs i ≡ Some (get_or xs i d)
get_read [] i d lt = absurd (omega arith)
get_read (x ∷ xs) zero d lt = refl
get_read (x ∷ xs) (suc i) d lt = get_read xs i d (omega arith)

sample_here : (b : Block) (bs : List Block) (k : ℕ) → k < samples_of b → sample_at (b ∷ bs) k ≡ sample_of b k
unfolding sample_at
sample_here b bs k lt = cond-true (ltb k (samples_of b)) (sample_of b k) (later (length_of b) (sample_at bs (k - samples_of b))) (lt-ltb k (samples_of b) lt)

sample_behind : (b : Block) (bs : List Block) (k : ℕ) → samples_of b ≤ k → sample_at (b ∷ bs) k ≡ later (length_of b) (sample_at bs (k - samples_of b))
unfolding sample_at
sample_behind b bs k le = cond-false (ltb k (samples_of b)) (sample_of b k) (later (length_of b) (sample_at bs (k - samples_of b))) (le-ltb k (samples_of b) le)

later_none : (x : BlockRow) → x ≡ later 0 x
later_none x = ap (λ o. record x { offset = o }) (let e : x.offset ≡ 0 + x.offset = omega arith in e)

later_twice : (m n : ℕ) (x : BlockRow) → later m (later n x) ≡ later (m + n) x
later_twice m n x = ap (λ o. record x { offset = o }) (let e : m + (n + x.offset) ≡ m + n + x.offset = omega arith in e)

-- sample k is one of the block at a place
pub found : (bs : List Block) (n k : ℕ) (d : Block) → n < length bs → samples_in (take n bs) ≤ k → k < samples_in (take (n + 1) bs) → sample_at bs k ≡ later (length_in (take n bs)) (sample_of (get_or bs n d) (k - samples_in (take n bs)))
found [] n k d there first last = absurd (omega arith)
found (b ∷ bs) zero k d there first last =
    let z : k - 0 ≡ k = omega arith in
    sample_here b bs k (omega (arith, last)) ∙ later_none (sample_of b k) ∙ ap (λ j. later 0 (sample_of b j)) (sym z)
found (b ∷ bs) (suc n) k d there first last =
    let more : suc n + 1 ≡ suc (n + 1) = omega arith in
    let behind : k < samples_of b + samples_in (take (n + 1) bs) = subst (λ m. k < samples_in (take m (b ∷ bs))) more last in
    let rest = found bs n (k - samples_of b) d (omega arith) (omega (arith, first)) (omega (arith, behind, first)) in
    let same : k - samples_of b - samples_in (take n bs) ≡ k - (samples_of b + samples_in (take n bs)) = omega arith in
    sample_behind b bs k (omega (arith, first)) ∙ ap (later (length_of b)) rest
    ∙ later_twice (length_of b) (length_in (take n bs)) (sample_of (get_or bs n d) (k - samples_of b - samples_in (take n bs)))
    ∙ ap (λ j. later (length_of b + length_in (take n bs)) (sample_of (get_or bs n d) j)) same

pub last_there : (bs : List Block) (n k : ℕ) (d : Block) → n < length bs → samples_in (take n bs) ≤ k → k < samples_in (take (n + 1) bs) → k - samples_in (take n bs) < samples_of (get_or bs n d)
last_there [] n k d there first last = absurd (omega arith)
last_there (b ∷ bs) zero k d there first last = omega (arith, last)
last_there (b ∷ bs) (suc n) k d there first last =
    let more : suc n + 1 ≡ suc (n + 1) = omega arith in
    let behind : k < samples_of b + samples_in (take (n + 1) bs) = subst (λ m. k < samples_in (take m (b ∷ bs))) more last in
    let rest = last_there bs n (k - samples_of b) d (omega arith) (omega (arith, first)) (omega (arith, behind, first)) in
    omega arith

-- ---- the times of a block

row_before : (widths : List ℕ) (b : Block) (i : ℕ) → IsBlock widths b → i < length b.rows → (get_or b.rows i no_row).offset < b.period
row_before widths b i good lt = good.rows.before i (get_or b.rows i no_row) (get_read b.rows i no_row lt)

pub block_end : (widths : List ℕ) (b : Block) (k : ℕ) → IsBlock widths b → k < samples_of b → (sample_of b k).offset < length_of b
block_end widths b k good lt =
    let n : ℕ = length b.rows in
    let inside : k % length b.rows < length b.rows = mod-lt k good.some in
    let early : (get_or b.rows (k % length b.rows) no_row).offset < b.period = row_before widths b (k % length b.rows) good inside in
    let q : k / length b.rows < b.repeats = (div-lt_iff_lt-mul {k = length b.rows} {x = k} {y = b.repeats} good.some).1 lt in
    let m : (k / length b.rows + 1) * b.period ≤ b.repeats * b.period = mul-le-mul_right b.period (omega arith) in
    omega arith

block_rise : (widths : List ℕ) (b : Block) (i j : ℕ) → IsBlock widths b → i < j → (sample_of b i).offset < (sample_of b j).offset
block_rise widths b i j good lt =
    let n : ℕ = length b.rows in
    let i_in : i % length b.rows < length b.rows = mod-lt i good.some in
    let j_in : j % length b.rows < length b.rows = mod-lt j good.some in
    let i_is : i / length b.rows * length b.rows + i % length b.rows ≡ i = div-add-mod' i (length b.rows) in
    let j_is : j / length b.rows * length b.rows + j % length b.rows ≡ j = div-add-mod' j (length b.rows) in
    let i_early : (get_or b.rows (i % length b.rows) no_row).offset < b.period = row_before widths b (i % length b.rows) good i_in in
    elim (cases_lt (i / length b.rows) (j / length b.rows)) [
      | inl less ↦
          (let m : (i / length b.rows + 1) * b.period ≤ j / length b.rows * b.period = mul-le-mul_right b.period (omega arith) in omega arith)
      | inr more ↦ elim (cases_lt (j / length b.rows) (i / length b.rows)) [
        | inl less ↦
            absurd (let m : (j / length b.rows + 1) * length b.rows ≤ i / length b.rows * length b.rows = mul-le-mul_right (length b.rows) (omega arith) in omega arith)
        | inr same ↦
            (let q : i / length b.rows ≡ j / length b.rows = omega arith in
            let r : i % length b.rows < j % length b.rows = omega (arith, ap (λ x. x * length b.rows) q) in
            let up : (get_or b.rows (i % length b.rows) no_row).offset < (get_or b.rows (j % length b.rows) no_row).offset =
            good.rows.rise (i % length b.rows) (j % length b.rows) (get_or b.rows (i % length b.rows) no_row) (get_or b.rows (j % length b.rows) no_row) r (get_read b.rows (i % length b.rows) no_row i_in) (get_read b.rows (j % length b.rows) no_row j_in) in
            omega (arith, ap (λ x. x * b.period) q))
      ]
    ]

-- ---- the times of blocks one behind another

abbrev AreBlocks : List ℕ → List Block → Type 0
AreBlocks widths bs = (n : ℕ) (b : Block) → slice_get bs n ≡ Some b → IsBlock widths b

pub course_end : (widths : List ℕ) (bs : List Block) (k : ℕ) → ((n : ℕ) (b : Block) → slice_get bs n ≡ Some b → IsBlock widths b) → k < samples_in bs → (sample_at bs k).offset < length_in bs
course_end widths [] k good lt = absurd (omega arith)
course_end widths (b ∷ bs) k good lt = elim (cases_lt k (samples_of b)) [
  | inl here ↦
      (let e : (sample_at (b ∷ bs) k).offset ≡ (sample_of b k).offset = ap (λ x. x.offset) (sample_here b bs k here) in
      let l = block_end widths b k (good 0 b refl) here in omega arith)
  | inr behind ↦
      (let e : (sample_at (b ∷ bs) k).offset ≡ length_of b + (sample_at bs (k - samples_of b)).offset = ap (λ x. x.offset) (sample_behind b bs k behind) in
      let l = course_end widths bs (k - samples_of b) (λ n c at. good (suc n) c at) (omega arith) in omega arith)
]

pub course_rise : (widths : List ℕ) (bs : List Block) (i j : ℕ) → ((n : ℕ) (b : Block) → slice_get bs n ≡ Some b → IsBlock widths b) → i < j → j < samples_in bs → (sample_at bs i).offset < (sample_at bs j).offset
course_rise widths [] i j good lt there = absurd (omega arith)
course_rise widths (b ∷ bs) i j good lt there = elim (cases_lt j (samples_of b)) [
  | inl here ↦
      (let e : (sample_at (b ∷ bs) i).offset ≡ (sample_of b i).offset = ap (λ x. x.offset) (sample_here b bs i (omega arith)) in
      let f : (sample_at (b ∷ bs) j).offset ≡ (sample_of b j).offset = ap (λ x. x.offset) (sample_here b bs j here) in
      let l = block_rise widths b i j (good 0 b refl) lt in omega arith)
  | inr behind ↦
      (let f : (sample_at (b ∷ bs) j).offset ≡ length_of b + (sample_at bs (j - samples_of b)).offset = ap (λ x. x.offset) (sample_behind b bs j behind) in
      elim (cases_lt i (samples_of b)) [
        | inl here ↦
            (let e : (sample_at (b ∷ bs) i).offset ≡ (sample_of b i).offset = ap (λ x. x.offset) (sample_here b bs i here) in
            let l = block_end widths b i (good 0 b refl) here in omega arith)
        | inr both ↦
            (let e : (sample_at (b ∷ bs) i).offset ≡ length_of b + (sample_at bs (i - samples_of b)).offset = ap (λ x. x.offset) (sample_behind b bs i both) in
            let l = course_rise widths bs (i - samples_of b) (j - samples_of b) (λ n c at. good (suc n) c at) (omega arith) (omega arith) in omega arith)
      ])
]

-- ---- the first of some blocks

pub samples_taken : (bs : List Block) (n : ℕ) → samples_in (take n bs) ≤ samples_in bs
samples_taken [] n = omega (arith, nothing n)
  where
    nothing : (n : ℕ) → samples_in (take n []) ≡ 0
    nothing zero = refl
    nothing (suc n) = refl
samples_taken (b ∷ bs) zero = omega arith
samples_taken (b ∷ bs) (suc n) = omega (arith, samples_taken bs n)

pub samples_more : (bs : List Block) (n : ℕ) (d : Block) → n < length bs → samples_in (take (n + 1) bs) ≡ samples_in (take n bs) + samples_of (get_or bs n d)
samples_more [] n d lt = absurd (omega arith)
samples_more (b ∷ bs) zero d lt = omega arith
samples_more (b ∷ bs) (suc n) d lt =
    let more : suc n + 1 ≡ suc (n + 1) = omega arith in
    ap (λ m. samples_in (take m (b ∷ bs))) more ∙ ap (λ m. samples_of b + m) (samples_more bs n d (omega arith)) ∙ (let e : samples_of b + (samples_in (take n bs) + samples_of (get_or bs n d)) ≡ samples_of b + samples_in (take n bs) + samples_of (get_or bs n d) = omega arith in e)

-- each block has a sample
pub some_samples : (widths : List ℕ) (bs : List Block) → ((n : ℕ) (b : Block) → slice_get bs n ≡ Some b → IsBlock widths b) → 0 < length bs → 1 ≤ samples_in bs
some_samples widths [] good lt = absurd (omega arith)
some_samples widths (b ∷ bs) good lt =
    let block = good 0 b refl in
    let m : 1 * length b.rows ≤ b.repeats * length b.rows = mul-le-mul_right (length b.rows) block.comes in
    omega (arith, block.some)
