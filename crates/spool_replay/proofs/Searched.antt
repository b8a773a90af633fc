-- Looking for the first sample at a time.
use Rattle.std.proofs.Common.{◌≡◌, ℕ, zero, suc, ◌+◌, ◌-◌, ◌*◌, ◌/◌, ◌^◌, ◌<◌, ◌≤◌, List, length, take, get_or, true, false, ltb, refl, sym, ap, ◌∙◌, subst, inl, inr, arith}
use Rattle.std.specs.List.{count_by}
use Rattle.std.specs.Int.{div_ceil}
use Rattle.std.proofs.Math.Nat.{pow-succ'}
use Rattle.std.proofs.lemmas.List.{length-map, take_all, get_or-map}
use Rattle.std.proofs.lemmas.List.Sums.{count_by_more_yes, count_by_more_no}
use Rattle.std.proofs.lemmas.Bool.{cases_lt, lt-ltb, le-ltb}
use Rattle.spool_format.specs.declared.sample.Sample.{Sample}
use Rattle.spool_format.specs.Records.{chunk_samples, chunk_words, times}
use Rattle.spool_format.specs.Reading.{sample_at}
use Rattle.spool_format.specs.Kept.{IsRun, Recording}
use Rattle.spool_format.proofs.KeptOn.{chunk_length, chunk_shaped}
use Rattle.spool_replay.specs.Standing.{words_of_chunk}
use Rattle.spool_replay.proofs.Playing.{IsNextAt, in_chunk, next_at}

-- ---- halving

abbrev pub IsHalved : ℕ → ℕ → ℕ → Type 0
IsHalved p taken size = (taken ≤ p) × (size < 2 ^ (p - taken))

half_of : (q size : ℕ) → 0 < size → size < 2 ^ q → (0 < q) × (size / 2 < 2 ^ (q - 1))
half_of zero size some h = absurd (omega arith)
half_of (suc q) size some h =
    let double : 2 ^ suc q ≡ 2 * 2 ^ q = pow-succ' 2 q in
    let one : suc q - 1 ≡ q = omega arith in
    let half : size / 2 < 2 ^ q = omega (arith, double) in
    (omega arith, subst (λ e. size / 2 < 2 ^ e) (sym one) half)

pub halved : (p taken size size2 taken2 : ℕ) → 0 < size → size2 ≤ size / 2 → taken2 ≡ taken + 1 → IsHalved p taken size → IsHalved p taken2 size2
halved p taken size size2 taken2 some less is h =
    let half = half_of (p - taken) size some h.1 in
    let left : p - taken - 1 ≡ p - taken2 = omega arith in
    let small : size2 < 2 ^ (p - taken - 1) = omega (arith, half.1) in
    (omega (arith, half.0), subst (λ e. size2 < 2 ^ e) left small)

-- ---- a chunk

-- the record behind those of so many samples of a chunk
pub behind_found : (r : Recording) (n found place : ℕ) (chunk ws : List ℕ) → IsRun r → 0 < found → found < length (chunk_samples r.samples n)
    → place ≡ length (chunk_words r.widths (take found (chunk_samples r.samples n))) → chunk ≡ chunk_words r.widths (chunk_samples r.samples n) → ws ≡ r.widths
    → IsNextAt ws chunk (sample_at (chunk_samples r.samples n) (found - 1)).words (sample_at r.samples (256 * n + found)) place (length (chunk_words r.widths (take (found + 1) (chunk_samples r.samples n))))
behind_found r n found place chunk ws run some more is_place is_chunk is_ws =
    let xs = chunk_samples r.samples n in
    let words = (sample_at xs (found - 1)).words in
    let i = found - 1 in
    let one : i + 1 ≡ found = omega arith in
    let two : i + 2 ≡ found + 1 = omega arith in
    let few = chunk_length r.samples n in
    let s : sample_at xs (i + 1) ≡ sample_at r.samples (256 * n + found) = ap (sample_at xs) one ∙ in_chunk r.samples n found (omega arith) in
    let end = length (chunk_words r.widths (take (found + 1) xs)) in
    subst (λ w. IsNextAt w chunk words (sample_at r.samples (256 * n + found)) place end) (sym is_ws)
    (subst (λ c. IsNextAt r.widths c words (sample_at r.samples (256 * n + found)) place end) (sym is_chunk)
    (subst (λ p. IsNextAt r.widths (chunk_words r.widths xs) words (sample_at r.samples (256 * n + found)) p end) (ap (λ k. length (chunk_words r.widths (take k xs))) one ∙ sym is_place)
    (subst (λ e. IsNextAt r.widths (chunk_words r.widths xs) words (sample_at r.samples (256 * n + found)) (length (chunk_words r.widths (take (i + 1) xs))) e)
    (ap (λ k. length (chunk_words r.widths (take k xs))) two)
    (subst (λ t. IsNextAt r.widths (chunk_words r.widths xs) words t (length (chunk_words r.widths (take (i + 1) xs))) (length (chunk_words r.widths (take (i + 2) xs)))) s
    (next_at r.widths xs i (omega arith) (chunk_shaped r run n))))))

-- where records are left, so are samples
pub left_found : (r : Recording) (n found place : ℕ) (chunk : List ℕ) → found ≤ length (chunk_samples r.samples n)
    → place ≡ length (chunk_words r.widths (take found (chunk_samples r.samples n))) → chunk ≡ chunk_words r.widths (chunk_samples r.samples n) → place < length chunk
    → found < length (chunk_samples r.samples n)
left_found r n found place chunk within is_place is_chunk more =
    let xs = chunk_samples r.samples n in
    elim (cases_lt found (length xs)) [
      | inl l ↦ l
      | inr all ↦ let whole : place ≡ length chunk = is_place ∙ ap (λ ys. length (chunk_words r.widths ys)) (take_all found xs all) ∙ sym (ap length is_chunk) in
          absurd (omega (arith, whole))
    ]

-- where none are left, no sample is
pub all_found : (r : Recording) (n found place : ℕ) (chunk : List ℕ) → IsRun r → 0 < found → found ≤ length (chunk_samples r.samples n)
    → place ≡ length (chunk_words r.widths (take found (chunk_samples r.samples n))) → chunk ≡ chunk_words r.widths (chunk_samples r.samples n) → length chunk ≤ place
    → (found ≡ length (chunk_samples r.samples n)) × (place ≡ length chunk)
all_found r n found place chunk run some within is_place is_chunk none =
    let xs = chunk_samples r.samples n in
    elim (cases_lt found (length xs)) [
      | inl more ↦ let there = behind_found r n found place chunk r.widths run some more is_place is_chunk refl in absurd (omega (arith, there.change.head))
      | inr all ↦ (omega arith, is_place ∙ ap (λ ys. length (chunk_words r.widths ys)) (take_all found xs all) ∙ sym (ap length is_chunk))
    ]

-- ---- how many are before a time

upwards : (ts : List ℕ) → ((k : ℕ) → k + 1 < length ts → get_or ts k 0 < get_or ts (k + 1) 0) → (d k : ℕ) → k + d < length ts → get_or ts k 0 ≤ get_or ts (k + d) 0
upwards ts rise zero k h = let at : k + 0 ≡ k = omega arith in omega (arith, ap (λ j. get_or ts j 0) at)
upwards ts rise (suc d) k h =
    let before = upwards ts rise d k (omega arith) in
    let at : k + suc d ≡ k + d + 1 = omega arith in
    let next = rise (k + d) (omega arith) in
    omega (arith, before, next, ap (λ j. get_or ts j 0) at)

counted_to : (ts : List ℕ) (t : ℕ) → ((k : ℕ) → k + 1 < length ts → get_or ts k 0 < get_or ts (k + 1) 0) → (r : ℕ) → r ≤ length ts → (0 < r → get_or ts (r - 1) 0 < t)
    → (k : ℕ) → k ≤ r → count_by (λ x. ltb x t) (take k ts) ≡ k
counted_to ts t rise r within before zero h = refl
counted_to ts t rise r within before (suc k) h =
    let rest = counted_to ts t rise r within before k (omega arith) in
    let on : suc k ≡ k + 1 = omega arith in
    let at : k + (r - 1 - k) ≡ r - 1 = omega arith in
    let up = upwards ts rise (r - 1 - k) k (omega arith) in
    let last = before (omega arith) in
    let is : ltb (get_or ts k 0) t ≡ true = lt-ltb (get_or ts k 0) t (omega (arith, up, last, ap (λ j. get_or ts j 0) at)) in
    ap (λ n. count_by (λ x. ltb x t) (take n ts)) on ∙ count_by_more_yes (λ x. ltb x t) ts k 0 (omega arith) is ∙ ap (λ n. n + 1) rest ∙ sym on

counted_on : (ts : List ℕ) (t : ℕ) → ((k : ℕ) → k + 1 < length ts → get_or ts k 0 < get_or ts (k + 1) 0) → (r : ℕ) → (r < length ts → t ≤ get_or ts r 0)
    → count_by (λ x. ltb x t) (take r ts) ≡ r → (d : ℕ) → r + d ≤ length ts → count_by (λ x. ltb x t) (take (r + d) ts) ≡ r
counted_on ts t rise r behind so zero h = let at : r + 0 ≡ r = omega arith in ap (λ n. count_by (λ x. ltb x t) (take n ts)) at ∙ so
counted_on ts t rise r behind so (suc d) h =
    let rest = counted_on ts t rise r behind so d (omega arith) in
    let on : r + suc d ≡ r + d + 1 = omega arith in
    let up = upwards ts rise d r (omega arith) in
    let first = behind (omega arith) in
    let no : ltb (get_or ts (r + d) 0) t ≡ false = le-ltb (get_or ts (r + d) 0) t (omega (arith, up, first)) in
    ap (λ n. count_by (λ x. ltb x t) (take n ts)) on ∙ count_by_more_no (λ x. ltb x t) ts (r + d) 0 (omega arith) no ∙ rest

counted : (ts : List ℕ) (t : ℕ) → ((k : ℕ) → k + 1 < length ts → get_or ts k 0 < get_or ts (k + 1) 0) → (r : ℕ) → r ≤ length ts → (0 < r → get_or ts (r - 1) 0 < t)
    → (r < length ts → t ≤ get_or ts r 0) → count_by (λ x. ltb x t) ts ≡ r
counted ts t rise r within before behind =
    let so = counted_to ts t rise r within before r (omega arith) in
    let all : r + (length ts - r) ≡ length ts = omega arith in
    ap (count_by (λ x. ltb x t)) (sym (take_all (r + (length ts - r)) ts (omega arith))) ∙ counted_on ts t rise r behind so (length ts - r) (omega arith)

time_of_sample : (xs : List Sample) (k : ℕ) → k < length xs → get_or (times xs) k 0 ≡ (sample_at xs k).time
time_of_sample xs k h = get_or-map (λ s. s.time) xs k _ 0 h

counted_samples : (r : Recording) (t : ℕ) → IsRun r → (k : ℕ) → k ≤ length r.samples → (0 < k → (sample_at r.samples (k - 1)).time < t)
    → (k < length r.samples → t ≤ (sample_at r.samples k).time) → count_by (λ x. ltb x t) (times r.samples) ≡ k
counted_samples r t run k within before behind =
    let long = length-map r.samples (λ s. s.time) in
    counted (times r.samples) t (λ j h. run.rising j (omega (arith, long))) k (omega (arith, long))
    (λ some. omega (arith, before some, time_of_sample r.samples (k - 1) (omega arith)))
    (λ more. let inside : k < length r.samples = omega (arith, long) in omega (arith, behind inside, time_of_sample r.samples k inside))

pub none_before : (r : Recording) (t chunks : ℕ) → IsRun r → chunks ≡ 0 → (chunks < div_ceil (length r.samples) 256 → t ≤ (sample_at r.samples (256 * chunks)).time)
    → 0 ≡ count_by (λ x. ltb x t) (times r.samples)
none_before r t chunks run is behind =
    let at : 256 * chunks ≡ 0 = omega arith in
    sym (counted_samples r t run 0 (omega arith) (λ h. absurd (omega arith))
    (λ more. omega (arith, behind (omega arith), ap (λ k. (sample_at r.samples k).time) at)))

pub first_number : (r : Recording) (t chunks found : ℕ) → IsRun r → 0 < chunks → chunks ≤ div_ceil (length r.samples) 256
    → (chunks < div_ceil (length r.samples) 256 → t ≤ (sample_at r.samples (256 * chunks)).time)
    → 0 < found → found ≤ length (chunk_samples r.samples (chunks - 1)) → (sample_at r.samples (256 * (chunks - 1) + (found - 1))).time < t
    → (found < length (chunk_samples r.samples (chunks - 1)) → t ≤ (sample_at r.samples (256 * (chunks - 1) + found)).time)
    → ((chunks - 1) * 256 + found ≡ count_by (λ x. ltb x t) (times r.samples)) × (words_of_chunk r ((chunks - 1) * 256 + found - 1) ≡ length (chunk_words r.widths (chunk_samples r.samples (chunks - 1))))
first_number r t chunks found run some within later one few before behind =
    let long = chunk_length r.samples (chunks - 1) in
    let k = (chunks - 1) * 256 + found in
    let last : 256 * (chunks - 1) + (found - 1) ≡ (chunks - 1) * 256 + found - 1 = omega arith in
    let here : 256 * (chunks - 1) + found ≡ (chunks - 1) * 256 + found = omega arith in
    let chunk : ((chunks - 1) * 256 + found - 1) / 256 ≡ chunks - 1 = omega (arith, long) in (
      sym (counted_samples r t run k (omega (arith, long)) (λ h. omega (arith, before, ap (λ j. (sample_at r.samples j).time) last))
          (λ more. elim (cases_lt found (length (chunk_samples r.samples (chunks - 1)))) [
            | inl left ↦ omega (arith, behind left, ap (λ j. (sample_at r.samples j).time) here)
            | inr all ↦
                let next : 256 * chunks ≡ (chunks - 1) * 256 + found = omega (arith, long) in
                omega (arith, later (omega (arith, long)), ap (λ j. (sample_at r.samples j).time) next)
          ])),
      ap (λ c. length (chunk_words r.widths (chunk_samples r.samples c))) chunk,
    )
