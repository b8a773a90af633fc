-- How many samples of a block there are until a time, counted by whole periods.
use Rattle.std.proofs.Common.{◌≡◌, ℕ, zero, suc, ◌+◌, ◌-◌, ◌*◌, ◌/◌, ◌%◌, ◌<◌, ◌≤◌, List, [], ◌∷◌, length, get_or, take, Bool, true, false, cond, leb, refl, sym, ◌∙◌, ap, arith, Some}
use Rattle.std.specs.Prelude.{slice_get}
use Rattle.std.specs.List.{count_by}
use Rattle.std.proofs.Math.Nat.{div-mul-le_self, mod-lt, mul-le-mul_right}
use Rattle.std.proofs.Math.Seq.{take-length}
use Rattle.std.proofs.lemmas.Bool.{le-leb}
use Rattle.std.proofs.lemmas.Bool.Decides.{nat_tests}
use Rattle.std.proofs.lemmas.List.Filters.{length-filter_more}
use Rattle.std.proofs.lemmas.List.Sums.{length-filter, sum_by-cons}
use Rattle.std.proofs.lemmas.Nat.{div-add-mod', div-mul-add, mod-mul-add}
use Rattle.flat_stimulus.specs.Block.{Block, IsBlock, no_row, row_of, sample_count}
use Rattle.flat_stimulus.specs.Until.{samples_until}
use Rattle.flat_stimulus.specs.declared.row.BlockRow.{BlockRow}

-- ---- counting

pub count_more : {X : Type 0} (p : X → Bool) (xs : List X) (i : ℕ) (d : X) → i < length xs → count_by p (take (i + 1) xs) ≡ count_by p (take i xs) + cond (p (get_or xs i d)) 1 0
count_more p xs i d inside =
    sym (length-filter p (take (i + 1) xs)) ∙ length-filter_more p xs i d inside ∙ ap (λ n. n + cond (p (get_or xs i d)) 1 0) (length-filter p (take i xs))

count_front : {X : Type 0} (p : X → Bool) (x : X) (xs : List X) → count_by p (x ∷ xs) ≡ cond (p x) 1 0 + count_by p xs
count_front p x xs = sum_by-cons (λ y. cond (p y) 1 0) x xs

count_all : {X : Type 0} (p : X → Bool) (xs : List X) → ((i : ℕ) (x : X) → slice_get xs i ≡ Some x → p x ≡ true) → count_by p xs ≡ length xs
count_all p [] all = refl
count_all p (x ∷ xs) all =
    let rest : count_by p xs ≡ length xs = count_all p xs (λ i y at. all (suc i) y at) in
    count_front p x xs ∙ ap (λ b. cond b 1 0 + count_by p xs) (all 0 x refl) ∙ omega (arith, rest)

count_none : {X : Type 0} (p : X → Bool) (xs : List X) → ((i : ℕ) (x : X) → slice_get xs i ≡ Some x → p x ≡ false) → count_by p xs ≡ 0
count_none p [] none = refl
count_none p (x ∷ xs) none =
    let rest : count_by p xs ≡ 0 = count_none p xs (λ i y at. none (suc i) y at) in
    count_front p x xs ∙ ap (λ b. cond b 1 0 + count_by p xs) (none 0 x refl) ∙ omega (arith, rest)

count_same : {X : Type 0} (p q : X → Bool) (xs : List X) → ((i : ℕ) (x : X) → slice_get xs i ≡ Some x → p x ≡ q x) → count_by p xs ≡ count_by q xs
count_same p q [] same = refl
count_same p q (x ∷ xs) same =
    count_front p x xs ∙ ap (λ b. cond b 1 0 + count_by p xs) (same 0 x refl)
    ∙ ap (λ n. cond (q x) 1 0 + n) (count_same p q xs (λ i y at. same (suc i) y at)) ∙ sym (count_front q x xs)

-- ---- the offsets of a period that begins before a time, and of others

early : (p period offset time : ℕ) → p < time / period → offset < period → leb (p * period + offset) time ≡ true
early p period offset time before inside =
    let ends : (p + 1) * period ≤ time / period * period = mul-le-mul_right period (omega arith) in
    let reached : time / period * period ≤ time = div-mul-le_self time period in
    le-leb (p * period + offset) time (omega arith)

late : (p period offset time : ℕ) → time / period < p → 0 < period → leb (p * period + offset) time ≡ false
late p period offset time after some =
    let begins : (time / period + 1) * period ≤ p * period = mul-le-mul_right period (omega arith) in
    let parts : time / period * period + time % period ≡ time = div-add-mod' time period in
    let rest : time % period < period = mod-lt time some in
    let above : time < p * period + offset = omega arith in
    grind (arith, nat_tests)

within : (period offset time : ℕ) → leb (time / period * period + offset) time ≡ leb offset (time % period)
within period offset time =
    let parts : time / period * period + time % period ≡ time = div-add-mod' time period in
    grind (arith, nat_tests)

-- ---- the samples of a block

is_until : Block → ℕ → ℕ → BlockRow → Bool
is_until b time p row = leb (p * b.period + row.offset) time

sample_time : (b : Block) (p i : ℕ) → i < length b.rows → (row_of b (p * length b.rows + i)).time ≡ p * b.period + (get_or b.rows i no_row).offset
sample_time b p i inside =
    ap (λ q. q * b.period + (get_or b.rows ((p * length b.rows + i) % length b.rows) no_row).offset) (div-mul-add p (length b.rows) i inside)
    ∙ ap (λ j. p * b.period + (get_or b.rows j no_row).offset) (mod-mul-add p (length b.rows) i inside)

-- the first rows of a period
part : (b : Block) (time p i : ℕ) → i ≤ length b.rows
    → samples_until (row_of b) (p * length b.rows + i) time ≡ samples_until (row_of b) (p * length b.rows) time + count_by (is_until b time p) (take i b.rows)
unfolding samples_until is_until
part b time p zero inside =
    let at : p * length b.rows + 0 ≡ p * length b.rows = omega arith in
    ap (λ k. samples_until (row_of b) k time) at ∙ omega arith
part b time p (suc i) inside =
    let n : ℕ = length b.rows in
    let before : ℕ = samples_until (row_of b) (p * length b.rows) time in
    let row : BlockRow = get_or b.rows i no_row in
    let at : p * length b.rows + suc i ≡ suc (p * length b.rows + i) = omega arith in
    let one : suc i ≡ i + 1 = omega arith in
    let first = part b time p i (omega arith) in
    let more = count_more (is_until b time p) b.rows i no_row (omega arith) in
    ap (λ k. samples_until (row_of b) k time) at
    ∙ ap (λ x. samples_until (row_of b) (p * length b.rows + i) time + cond (leb x time) 1 0) (sample_time b p i (omega arith))
    ∙ omega (arith, first, more)
    ∙ ap (λ j. samples_until (row_of b) (p * length b.rows) time + count_by (is_until b time p) (take j b.rows)) (sym one)

-- a whole period
whole : (b : Block) (time p : ℕ) → samples_until (row_of b) ((p + 1) * length b.rows) time ≡ samples_until (row_of b) (p * length b.rows) time + count_by (is_until b time p) b.rows
whole b time p =
    let at : (p + 1) * length b.rows ≡ p * length b.rows + length b.rows = grind arith in
    ap (λ k. samples_until (row_of b) k time) at ∙ part b time p (length b.rows) (omega arith)
    ∙ ap (λ rows. samples_until (row_of b) (p * length b.rows) time + count_by (is_until b time p) rows) (take-length b.rows)

-- periods that end before the time
periods_before : (b : Block) (time p : ℕ) → IsBlock b → p ≤ time / b.period → samples_until (row_of b) (p * length b.rows) time ≡ p * length b.rows
unfolding samples_until is_until
periods_before b time zero good before =
    let none : 0 * length b.rows ≡ 0 = omega arith in
    ap (λ k. samples_until (row_of b) k time) none ∙ sym none
periods_before b time (suc p) good before =
    let at : suc p * length b.rows ≡ (p + 1) * length b.rows = ap (λ k. k * length b.rows) (let one : suc p ≡ p + 1 = omega arith in one) in
    let sum : (p + 1) * length b.rows ≡ p * length b.rows + length b.rows = grind arith in
    let first = periods_before b time p good (omega arith) in
    let all = count_all (is_until b time p) b.rows (λ i row at. early p b.period row.offset time (omega arith) (good.before i row at)) in
    let step = whole b time p in
    ap (λ k. samples_until (row_of b) k time) at ∙ omega (arith, step, first, all, sum, at)

pub period_some : (b : Block) → IsBlock b → 0 < b.period
period_some b good = first_below b.rows b.period good.some good.before
  where
    first_below : (rows : List BlockRow) (period : ℕ) → 1 ≤ length rows → ((i : ℕ) (row : BlockRow) → slice_get rows i ≡ Some row → row.offset < period) → 0 < period
    first_below [] period some before = absurd (omega arith)
    first_below (row ∷ rows) period some before = omega (arith, before 0 row refl)

-- the period of the time, and those behind it
periods_after : (b : Block) (time d : ℕ) → IsBlock b
    → samples_until (row_of b) ((time / b.period + 1 + d) * length b.rows) time ≡ time / b.period * length b.rows + count_by (λ row. leb row.offset (time % b.period)) b.rows
unfolding is_until
periods_after b time zero good =
    let at : (time / b.period + 1 + 0) * length b.rows ≡ (time / b.period + 1) * length b.rows = ap (λ k. k * length b.rows) (let none : time / b.period + 1 + 0 ≡ time / b.period + 1 = omega arith in none) in
    let first = periods_before b time (time / b.period) good (omega arith) in
    ap (λ k. samples_until (row_of b) k time) at ∙ whole b time (time / b.period)
    ∙ ap (λ n. n + count_by (is_until b time (time / b.period)) b.rows) first
    ∙ ap (λ n. time / b.period * length b.rows + n) (count_same (is_until b time (time / b.period)) (λ row. leb row.offset (time % b.period)) b.rows (λ i row at. within b.period row.offset time))
periods_after b time (suc d) good =
    let p : ℕ = time / b.period + 1 + d in
    let at : (time / b.period + 1 + suc d) * length b.rows ≡ (time / b.period + 1 + d + 1) * length b.rows = ap (λ k. k * length b.rows) (let one : time / b.period + 1 + suc d ≡ time / b.period + 1 + d + 1 = omega arith in one) in
    let none = count_none (is_until b time (time / b.period + 1 + d)) b.rows (λ i row at. late (time / b.period + 1 + d) b.period row.offset time (omega arith) (period_some b good)) in
    let step = whole b time (time / b.period + 1 + d) in
    ap (λ k. samples_until (row_of b) k time) at ∙ step ∙ omega (arith, none) ∙ periods_after b time d good

-- the time is behind the last period
pub until_all : (b : Block) (time : ℕ) → IsBlock b → b.repeats ≤ time / b.period → samples_until (row_of b) (sample_count b) time ≡ sample_count b
until_all b time good behind = periods_before b time b.repeats good behind

-- the time is in one of the periods
pub until_part : (b : Block) (time : ℕ) → IsBlock b → time / b.period < b.repeats
    → samples_until (row_of b) (sample_count b) time ≡ time / b.period * length b.rows + count_by (λ row. leb row.offset (time % b.period)) b.rows
until_part b time good inside =
    let at : b.repeats ≡ time / b.period + 1 + (b.repeats - (time / b.period + 1)) = omega arith in
    ap (λ p. samples_until (row_of b) (p * length b.rows) time) at ∙ periods_after b time (b.repeats - (time / b.period + 1)) good
