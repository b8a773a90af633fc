-- The words of one value among those of all.
use Rattle.std.proofs.Common.{◌≡◌, ℕ, zero, suc, ◌+◌, ◌-◌, ◌<◌, ◌≤◌, List, [], ◌∷◌, length, map, take, drop, get_or, set, replicate, refl, sym, ◌∙◌, ap, arith}
use Rattle.std.proofs.lemmas.List.Sums.{sum_by-cons}
use Rattle.std.proofs.lemmas.List.{take-set-le, drop-set-lt, drop-set-add, drop-drop, take-replicate, drop-replicate}
use Rattle.std.proofs.Math.Seq.{take-set-lt}
use Rattle.sim_base.specs.BitValue.{BitValue, bit_value, zeros, number_of_words}
use Rattle.sim_base.proofs.Words.{number_of_zeros}
use Rattle.sim_base.specs.Values.{widths, number_at, words_of, first_word, room_of, values_of}

-- the words of value n
abbrev pub block : List ℕ → List ℕ → ℕ → List ℕ
block ws xs n = take (words_of (get_or ws n 0)) (drop (first_word ws n) xs)

pub length_of_values : (ws xs : List ℕ) → length (values_of ws xs) ≡ length ws
unfolding values_of
length_of_values [] xs = refl
length_of_values (w ∷ ws) xs = ap suc (length_of_values ws (drop (words_of w) xs))

pub widths_of_values : (ws xs : List ℕ) → widths (values_of ws xs) ≡ ws
unfolding values_of
widths_of_values [] xs = refl
widths_of_values (w ∷ ws) xs = ap (λ (l : List ℕ). w ∷ l) (widths_of_values ws (drop (words_of w) xs))

-- a value's words lie within
pub room_for : (ws : List ℕ) (n : ℕ) → n < length ws → first_word ws n + words_of (get_or ws n 0) ≤ room_of ws
unfolding first_word
room_for [] n lt = absurd (omega (arith, lt))
room_for (w ∷ ws) zero lt = omega (arith, sum_by-cons words_of w ws)
room_for (w ∷ ws) (suc n) lt =
    let e : first_word ws n + words_of (get_or ws n 0) ≤ room_of ws = room_for ws n (omega (arith, lt)) in
    omega (arith, sum_by-cons words_of w ws)

-- each value has a word
pub fewer : (ws : List ℕ) → length ws ≤ room_of ws
fewer [] = omega arith
fewer (w ∷ ws) = omega (arith, fewer ws, sum_by-cons words_of w ws)

-- the next place
pub place_step : (ws : List ℕ) (n : ℕ) → n < length ws → first_word ws (n + 1) ≡ first_word ws n + words_of (get_or ws n 0)
unfolding first_word
place_step [] n lt = absurd (omega (arith, lt))
place_step (w ∷ []) zero lt = omega arith
place_step (w ∷ v ∷ ws) zero lt = omega arith
place_step (w ∷ ws) (suc n) lt =
    let e : first_word ws (n + 1) ≡ first_word ws n + words_of (get_or ws n 0) = place_step ws n (omega (arith, lt)) in
    let z : suc n + 1 ≡ suc (n + 1) = omega arith in
    let s : words_of w + first_word ws (n + 1) ≡ words_of w + first_word ws n + words_of (get_or ws n 0) = omega (arith, e) in
    ap (first_word (w ∷ ws)) z ∙ s

pub place_end : (ws : List ℕ) → first_word ws (length ws) ≡ room_of ws
unfolding first_word
place_end [] = refl
place_end (w ∷ ws) = ap (λ n. words_of w + n) (place_end ws) ∙ sym (sum_by-cons words_of w ws)

pub place_start : (ws : List ℕ) → first_word ws 0 ≡ 0
unfolding first_word
place_start [] = refl
place_start (w ∷ ws) = refl

-- a value's number is that of its words
pub number_is : (ws xs : List ℕ) (n : ℕ) → n < length ws → number_at (values_of ws xs) n ≡ number_of_words (block ws xs n)
unfolding values_of first_word
number_is [] xs n lt = absurd (omega (arith, lt))
number_is (w ∷ ws) xs zero lt = refl
number_is (w ∷ ws) xs (suc n) lt =
    number_is ws (drop (words_of w) xs) n (omega (arith, lt))
    ∙ ap (λ (l : List ℕ). number_of_words (take (words_of (get_or ws n 0)) l)) (drop-drop (first_word ws n) (words_of w) xs)

-- a word of value n that is written changes this value alone
pub values_set : (ws xs : List ℕ) (n k v : ℕ) → n < length ws → k < words_of (get_or ws n 0) → values_of ws (set xs (first_word ws n + k) v) ≡ set (values_of ws xs) n (bit_value (get_or ws n 0) (number_of_words (set (block ws xs n) k v)))
unfolding values_of first_word
values_set [] xs n k v lt in' = absurd (omega (arith, lt))
values_set (w ∷ ws) xs zero k v lt in' =
    let z : 0 + k ≡ k = omega arith in
    let front : take (words_of w) (set xs k v) ≡ set (take (words_of w) xs) k v = take-set-lt (words_of w) xs k v in' in
    let back : drop (words_of w) (set xs k v) ≡ drop (words_of w) xs = drop-set-lt (words_of w) xs k v in' in
    rw (z, front, back) refl
values_set (w ∷ ws) xs (suc n) k v lt in' =
    let z : words_of w + first_word ws n + k ≡ words_of w + (first_word ws n + k) = omega arith in
    let front : take (words_of w) (set xs (words_of w + (first_word ws n + k)) v) ≡ take (words_of w) xs = take-set-le (words_of w) xs (words_of w + (first_word ws n + k)) v (omega arith) in
    let back : drop (words_of w) (set xs (words_of w + (first_word ws n + k)) v) ≡ set (drop (words_of w) xs) (first_word ws n + k) v = drop-set-add (words_of w) xs (first_word ws n + k) v in
    let more : values_of ws (set (drop (words_of w) xs) (first_word ws n + k) v) ≡ set (values_of ws (drop (words_of w) xs)) n (bit_value (get_or ws n 0) (number_of_words (set (block ws (drop (words_of w) xs) n) k v)))
    = values_set ws (drop (words_of w) xs) n k v (omega (arith, lt)) in' in
    let same : drop (first_word ws n) (drop (words_of w) xs) ≡ drop (words_of w + first_word ws n) xs = drop-drop (first_word ws n) (words_of w) xs in
    let tail : values_of ws (drop (words_of w) (set xs (words_of w + first_word ws n + k) v)) ≡ set (values_of ws (drop (words_of w) xs)) n (bit_value (get_or ws n 0) (number_of_words (set (take (words_of (get_or ws n 0)) (drop (words_of w + first_word ws n) xs)) k v)))
    = ap (λ i. values_of ws (drop (words_of w) (set xs i v))) z ∙ ap (values_of ws) back ∙ more ∙ ap (λ (l : List ℕ). set (values_of ws (drop (words_of w) xs)) n (bit_value (get_or ws n 0) (number_of_words (set (take (words_of (get_or ws n 0)) l) k v)))) same in
    ap (λ i. bit_value w (number_of_words (take (words_of w) (set xs i v))) ∷ values_of ws (drop (words_of w) (set xs (words_of w + first_word ws n + k) v))) z
    ∙ ap (λ (l : List ℕ). bit_value w (number_of_words l) ∷ values_of ws (drop (words_of w) (set xs (words_of w + first_word ws n + k) v))) front
    ∙ ap (λ (l : List BitValue). bit_value w (number_of_words (take (words_of w) xs)) ∷ l) tail

-- zeros
pub values_of_zeros : (ws : List ℕ) (r : ℕ) → room_of ws ≤ r → values_of ws (replicate r 0) ≡ map zeros ws
unfolding values_of
values_of_zeros [] r le = refl
values_of_zeros (w ∷ ws) r le =
    let more : room_of (w ∷ ws) ≡ words_of w + room_of ws = sum_by-cons words_of w ws in
    let front : take (words_of w) (replicate {A = ℕ} r 0) ≡ replicate (words_of w) 0 = take-replicate (words_of w) r 0 (omega (arith, le)) in
    let back : drop (words_of w) (replicate {A = ℕ} r 0) ≡ replicate (r - words_of w) 0 = drop-replicate (words_of w) r 0 in
    ap (λ (l : List ℕ). bit_value w (number_of_words l) ∷ values_of ws (drop (words_of w) (replicate r 0))) front
    ∙ ap (λ m. bit_value w m ∷ values_of ws (drop (words_of w) (replicate r 0))) (number_of_zeros (words_of w))
    ∙ ap (λ (l : List ℕ). zeros w ∷ values_of ws l) back
    ∙ ap (λ (l : List BitValue). zeros w ∷ l) (values_of_zeros ws (r - words_of w) (omega (arith, le)))
