-- How many samples there are until a time.
use Rattle.std.proofs.Common.{◌≡◌, ℕ, zero, suc, ◌+◌, ◌<◌, ◌≤◌, leb, refl, ◌∙◌, ap, arith, inl, inr, ◌↔◌}
use Rattle.std.proofs.lemmas.Bool.{cases_lt, cond-true, cond-false, le-leb, lt-leb}
use Rattle.circuit.specs.Rounds.{Row}
use Rattle.sim_base.specs.TimeText.{largest_time}
use Rattle.stimulus_blocks.specs.Blocks.{sample_at}
use Rattle.stimulus_blocks.specs.Courses.{Course, IsCourse, row_of, sample_count, samples_until}
use Rattle.stimulus_blocks.proofs.Samples.{course_end, course_rise}

until_more : (row : ℕ → Row) (m t : ℕ) → (row m).time ≤ t → samples_until row (suc m) t ≡ samples_until row m t + 1
unfolding samples_until
until_more row m t le = ap (λ n. samples_until row m t + n) (cond-true (leb (row m).time t) 1 0 (le-leb (row m).time t le))

until_same : (row : ℕ → Row) (m t : ℕ) → t < (row m).time → samples_until row (suc m) t ≡ samples_until row m t
unfolding samples_until
until_same row m t lt = ap (λ n. samples_until row m t + n) (cond-false (leb (row m).time t) 1 0 (lt-leb (row m).time t lt)) ∙ omega arith

until_none : (row : ℕ → Row) (t : ℕ) → samples_until row 0 t ≡ 0
unfolding samples_until
until_none row t = refl

-- where the first n samples are at or before a time and the others behind it
pub until_first : (row : ℕ → Row) (m n t : ℕ) → n ≤ m → ((k : ℕ) → k < n → (row k).time ≤ t) → ((k : ℕ) → n ≤ k → k < m → t < (row k).time) → samples_until row m t ≡ n
until_first row zero n t le before behind = until_none row t ∙ omega arith
until_first row (suc m) n t le before behind = elim (cases_lt m n) [
  | inl all ↦
      (let e : n ≡ m + 1 = omega arith in
      let first = until_first row m m t (omega arith) (λ k lt. before k (omega arith)) (λ k ge lt. absurd (omega arith)) in
      until_more row m t (before m all) ∙ omega arith)
  | inr some ↦ until_same row m t (behind m some (omega arith)) ∙ until_first row m n t some before (λ k ge lt. behind k ge (omega arith))
]

until_most : (row : ℕ → Row) (m t : ℕ) → samples_until row m t ≤ m
until_most row zero t = omega (arith, until_none row t)
until_most row (suc m) t = elim (cases_lt t (row m).time) [
  | inl lt ↦ omega (arith, until_same row m t lt, until_most row m t)
  | inr le ↦ omega (arith, until_more row m t le, until_most row m t)
]

-- where times rise
until_rising : (row : ℕ → Row) (m t : ℕ) → ((i j : ℕ) → i < j → j < m → (row i).time < (row j).time) → (k : ℕ) → k < m → (k < samples_until row m t) ↔ ((row k).time ≤ t)
until_rising row zero t rise k lt = absurd (omega arith)
until_rising row (suc m) t rise k lt = elim (cases_lt t (row m).time) [
  | inl late ↦
      (let same = until_same row m t late in
      let most = until_most row m t in
      elim (cases_lt k m) [
        | inl inside ↦
            (let rest = until_rising row m t (λ i j ij jm. rise i j ij (omega arith)) k inside in
            ((λ h. rest.0 (omega (arith, same, h))), (λ h. let r : k < samples_until row m t = rest.1 h in omega (arith, same, r))))
        | inr last ↦
            (let is : k ≡ m = omega arith in
            let at : (row k).time ≡ (row m).time = ap (λ i. (row i).time) is in
            ((λ h. absurd (omega (arith, same, most, h, is))), (λ h. absurd (omega (arith, at, late, h)))))
      ])
  | inr early ↦
      (let all = until_first row m m t (omega arith) (λ i im. let r = rise i m im (omega arith) in omega arith) (λ i ge im. absurd (omega arith)) in
      let more = until_more row m t early in (
        (λ h. elim (cases_lt k m) [
          | inl inside ↦ (let r = rise k m inside (omega arith) in omega arith)
          | inr last ↦ (let at : (row k).time ≡ (row m).time = ap (λ i. (row i).time) (let is : k ≡ m = omega arith in is) in omega arith)
        ]),
        (λ h. omega (arith, all, more)),
      ))
]

-- ---- of a course

time_is : (s : Course) (k : ℕ) → (row_of s k).time ≡ (sample_at s.blocks k).offset
unfolding row_of
time_is s k = refl

pub rises : (s : Course) → IsCourse s → (i j : ℕ) → i < j → j < sample_count s → (row_of s i).time < (row_of s j).time
rises s good i j lt there =
    let l = course_rise s.widths s.blocks i j good.blocks lt there in
    let e = time_is s i in let f = time_is s j in omega arith

pub ends : (s : Course) → IsCourse s → (k : ℕ) → k < sample_count s → (row_of s k).time ≤ largest_time
ends s good k there =
    let l = course_end s.widths s.blocks k good.blocks there in
    let e = time_is s k in let m = good.ends in omega arith

pub counts : (s : Course) → IsCourse s → (time k : ℕ) → k < sample_count s → (k < samples_until (row_of s) (sample_count s) time) ↔ ((row_of s k).time ≤ time)
counts s good time k there = until_rising (row_of s) (sample_count s) time (rises s good) k there

pub before_more : (s : Course) → IsCourse s → (middle t : ℕ) → middle < sample_count s → (row_of s middle).time ≤ t → (k : ℕ) → k < middle + 1 → (row_of s k).time ≤ t
before_more s good middle t there le k lt = elim (cases_lt k middle) [
  | inl less ↦ (let r = rises s good k middle less there in omega arith)
  | inr same ↦ (let e : (row_of s k).time ≡ (row_of s middle).time = ap (λ i. (row_of s i).time) (let is : k ≡ middle = omega arith in is) in omega arith)
]

pub behind_more : (s : Course) → IsCourse s → (middle t : ℕ) → t < (row_of s middle).time → (k : ℕ) → middle ≤ k → k < sample_count s → t < (row_of s k).time
behind_more s good middle t lt k le there = elim (cases_lt middle k) [
  | inl less ↦ (let r = rises s good middle k less there in omega arith)
  | inr same ↦ (let e : (row_of s k).time ≡ (row_of s middle).time = ap (λ i. (row_of s i).time) (let is : k ≡ middle = omega arith in is) in omega arith)
]
