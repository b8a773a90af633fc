-- A recording and the sample that comes next.
use Rattle.std.proofs.Common.{◌≡◌, ◌≢◌, ℕ, zero, suc, ◌+◌, ◌*◌, ◌/◌, ◌%◌, ◌<◌, ◌≤◌, List, [], ◌∷◌, ◌++◌, length, map, take, drop, get_or, refl, sym, ap, ◌∙◌, arith, inl, inr}
use Rattle.std.specs.List.{flat_map, range_with_len}
use Rattle.std.specs.Int.{div_ceil}
use Rattle.std.proofs.lemmas.List.{append-nil, append_assoc, length-append, length_push, length-drop, length-map, drop-append-le, take-append-le, drop_at, take_all, map-append, get_or_append_left, get_or_at}
use Rattle.std.proofs.lemmas.List.Concat.{flat_map-append}
use Rattle.std.proofs.lemmas.List.Elements.{All-nil, All-push}
use Rattle.std.proofs.lemmas.Bool.{cases_lt}
use Rattle.spool_format.specs.declared.sample.Sample.{Sample}
use Rattle.spool_format.specs.Records.{IsNext, IsSampleOf, Records, change_record, change_records, chunk_samples, chunk_words, recording_words, times, whole_record}
use Rattle.spool_format.proofs.Slots.{range_split}

pub range_push : (n : ℕ) → range_with_len 0 (n + 1) ≡ range_with_len 0 n ++ n ∷ []
range_push n = let at : 0 + n ≡ n = omega arith in range_split 0 n 1 ∙ ap (λ k. range_with_len 0 n ++ range_with_len k 1) at

flat_map_same : {A : Type 0} (f g : ℕ → List A) (a n : ℕ) → ((j : ℕ) → a ≤ j → j < a + n → f j ≡ g j) → flat_map f (range_with_len a n) ≡ flat_map g (range_with_len a n)
flat_map_same f g a zero h = refl
flat_map_same f g a (suc n) h =
    let first = h a (omega arith) (omega arith) in
    let rest = flat_map_same f g (a + 1) n (λ j low high. h j (omega arith) (omega arith)) in
    ap (λ xs. xs ++ flat_map f (range_with_len (a + 1) n)) first ∙ ap (λ xs. g a ++ xs) rest

pub flat_map_push : {A : Type 0} (f : ℕ → List A) (n : ℕ) → flat_map f (range_with_len 0 (n + 1)) ≡ flat_map f (range_with_len 0 n) ++ f n
flat_map_push f n = ap (flat_map f) (range_push n) ∙ flat_map-append f (range_with_len 0 n) (n ∷ []) ∙ ap (λ xs. flat_map f (range_with_len 0 n) ++ xs) (append-nil (f n))

-- a whole chunk stays as it is
pub full_chunk : (xs ys : List Sample) (j : ℕ) → 256 * j + 256 ≤ length xs → chunk_samples (xs ++ ys) j ≡ chunk_samples xs j
full_chunk xs ys j h =
    let inside : 256 * j ≤ length xs = omega arith in
    let left : 256 ≤ length (drop (256 * j) xs) = omega (arith, length-drop (256 * j) xs) in
    ap (take 256) (drop-append-le (256 * j) xs ys inside) ∙ take-append-le 256 (drop (256 * j) xs) ys left

full_chunks : (ws : List ℕ) (xs ys : List Sample) (m : ℕ) → 256 * m ≤ length xs
    → flat_map (λ j. chunk_words ws (chunk_samples (xs ++ ys) j)) (range_with_len 0 m) ≡ flat_map (λ j. chunk_words ws (chunk_samples xs j)) (range_with_len 0 m)
full_chunks ws xs ys m h =
    flat_map_same (λ j. chunk_words ws (chunk_samples (xs ++ ys) j)) (λ j. chunk_words ws (chunk_samples xs j)) 0 m
    (λ j low high. ap (chunk_words ws) (full_chunk xs ys j (omega arith)))

pub one_sample : (ws : List ℕ) (s : Sample) → chunk_words ws (s ∷ []) ≡ whole_record s
unfolding chunk_words change_records
one_sample ws s = append-nil (whole_record s)

changes_push : (ws : List ℕ) (a : Sample) (xs : List Sample) (b s : Sample)
    → change_records ws a (xs ++ b ∷ s ∷ []) ≡ change_records ws a (xs ++ b ∷ []) ++ change_record ws b s
unfolding change_records
changes_push ws a [] b s =
    ap (λ xs. change_record ws a b ++ xs) (append-nil (change_record ws b s)) ∙ ap (λ xs. xs ++ change_record ws b s) (sym (append-nil (change_record ws a b)))
changes_push ws a (x ∷ xs) b s =
    ap (λ ys. change_record ws a x ++ ys) (changes_push ws x xs b s)
    ∙ sym (append_assoc (change_record ws a x) (change_records ws x (xs ++ b ∷ [])) (change_record ws b s))

pub chunk_push : (ws : List ℕ) (xs : List Sample) (b s : Sample) → chunk_words ws (xs ++ b ∷ s ∷ []) ≡ chunk_words ws (xs ++ b ∷ []) ++ change_record ws b s
unfolding chunk_words change_records
chunk_push ws [] b s = ap (λ xs. whole_record b ++ xs) (append-nil (change_record ws b s)) ∙ ap (λ xs. xs ++ change_record ws b s) (sym (append-nil (whole_record b)))
chunk_push ws (x ∷ xs) b s =
    ap (λ ys. whole_record x ++ ys) (changes_push ws x xs b s)
    ∙ sym (append_assoc (whole_record x) (change_records ws x (xs ++ b ∷ [])) (change_record ws b s))

-- the next sample begins a chunk
words_chunk : (ws : List ℕ) (xs : List Sample) (s : Sample) → length xs % 256 ≡ 0 → recording_words ws (xs ++ s ∷ []) ≡ recording_words ws xs ++ whole_record s
words_chunk ws xs s h =
    let m = length xs / 256 in
    let long : length (xs ++ s ∷ []) ≡ length xs + 1 = length_push xs s in
    let all : 256 * (length xs / 256) ≡ length xs = omega arith in
    let chunks : div_ceil (length xs) 256 ≡ m = omega arith in
    let more : div_ceil (length (xs ++ s ∷ [])) 256 ≡ m + 1 = omega arith in
    let last : chunk_samples (xs ++ s ∷ []) m ≡ s ∷ [] = ap (take 256) (drop_at xs (s ∷ []) (256 * m) (sym all)) in
    ap (λ n. flat_map (λ j. chunk_words ws (chunk_samples (xs ++ s ∷ []) j)) (range_with_len 0 n)) more
    ∙ flat_map_push (λ j. chunk_words ws (chunk_samples (xs ++ s ∷ []) j)) m
    ∙ ap (λ ys. ys ++ chunk_words ws (chunk_samples (xs ++ s ∷ []) m)) (full_chunks ws xs (s ∷ []) m (omega arith))
    ∙ ap (λ ys. flat_map (λ j. chunk_words ws (chunk_samples xs j)) (range_with_len 0 m) ++ ys) (ap (chunk_words ws) last ∙ one_sample ws s)
    ∙ ap (λ n. flat_map (λ j. chunk_words ws (chunk_samples xs j)) (range_with_len 0 n) ++ whole_record s) (sym chunks)

-- it goes on with one
words_change : (ws : List ℕ) (xs : List Sample) (b s : Sample) → length (xs ++ b ∷ []) % 256 ≢ 0
    → recording_words ws (xs ++ b ∷ s ∷ []) ≡ recording_words ws (xs ++ b ∷ []) ++ change_record ws b s
words_change ws xs b s h =
    let m = length xs / 256 in
    let long : length (xs ++ b ∷ []) ≡ length xs + 1 = length_push xs b in
    let longer : length (xs ++ b ∷ s ∷ []) ≡ length xs + 2 = length-append xs (b ∷ s ∷ []) in
    let within : 256 * (length xs / 256) ≤ length xs = omega arith in
    let chunks : div_ceil (length (xs ++ b ∷ [])) 256 ≡ m + 1 = omega arith in
    let more : div_ceil (length (xs ++ b ∷ s ∷ [])) 256 ≡ m + 1 = omega arith in
    let front = drop (256 * m) xs in
    let few : length (drop (256 * m) xs) + 2 ≤ 256 = omega (arith, length-drop (256 * m) xs) in
    let one : chunk_samples (xs ++ b ∷ []) m ≡ front ++ b ∷ [] =
    ap (take 256) (drop-append-le (256 * m) xs (b ∷ []) within) ∙ take_all 256 (front ++ b ∷ []) (omega (arith, length-append front (b ∷ []))) in
    let both : chunk_samples (xs ++ b ∷ s ∷ []) m ≡ front ++ b ∷ s ∷ [] =
    ap (take 256) (drop-append-le (256 * m) xs (b ∷ s ∷ []) within) ∙ take_all 256 (front ++ b ∷ s ∷ []) (omega (arith, length-append front (b ∷ s ∷ []))) in
    let f : List Sample → ℕ → List ℕ = λ ys j. chunk_words ws (chunk_samples ys j) in
    let early : flat_map (f (xs ++ b ∷ s ∷ [])) (range_with_len 0 m) ≡ flat_map (f (xs ++ b ∷ [])) (range_with_len 0 m) =
    full_chunks ws xs (b ∷ s ∷ []) m within ∙ sym (full_chunks ws xs (b ∷ []) m within) in
    let last : f (xs ++ b ∷ s ∷ []) m ≡ f (xs ++ b ∷ []) m ++ change_record ws b s =
    ap (chunk_words ws) both ∙ chunk_push ws front b s ∙ ap (λ ys. chunk_words ws ys ++ change_record ws b s) (sym one) in
    ap (λ n. flat_map (f (xs ++ b ∷ s ∷ [])) (range_with_len 0 n)) more
    ∙ flat_map_push (f (xs ++ b ∷ s ∷ [])) m
    ∙ ap (λ ys. ys ++ f (xs ++ b ∷ s ∷ []) m) early
    ∙ ap (λ ys. flat_map (f (xs ++ b ∷ [])) (range_with_len 0 m) ++ ys) last
    ∙ sym (append_assoc (flat_map (f (xs ++ b ∷ [])) (range_with_len 0 m)) (f (xs ++ b ∷ []) m) (change_record ws b s))
    ∙ ap (λ ys. ys ++ change_record ws b s) (sym (flat_map_push (f (xs ++ b ∷ [])) m))
    ∙ ap (λ n. flat_map (f (xs ++ b ∷ [])) (range_with_len 0 n) ++ change_record ws b s) (sym chunks)

pub numbered_push : (xs : List Sample) (s : Sample) → map (λ s. s.number) xs ≡ range_with_len 0 (length xs) → s.number ≡ length xs
    → map (λ s. s.number) (xs ++ s ∷ []) ≡ range_with_len 0 (length (xs ++ s ∷ []))
numbered_push xs s h n =
    map-append (λ s. s.number) xs (s ∷ []) ∙ ap (λ ys. ys ++ s.number ∷ []) h ∙ ap (λ k. range_with_len 0 (length xs) ++ k ∷ []) n
    ∙ sym (range_push (length xs)) ∙ ap (range_with_len 0) (sym (length_push xs s))

pub rising_push : (xs : List Sample) (s : Sample) → ((k : ℕ) → k + 1 < length xs → get_or (times xs) k 0 < get_or (times xs) (k + 1) 0)
    → ((k : ℕ) → k + 1 ≡ length xs → get_or (times xs) k 0 < s.time)
    → (k : ℕ) → k + 1 < length (xs ++ s ∷ []) → get_or (times (xs ++ s ∷ [])) k 0 < get_or (times (xs ++ s ∷ [])) (k + 1) 0
rising_push xs s rise later k h =
    let long : length (xs ++ s ∷ []) ≡ length xs + 1 = length_push xs s in
    let shape : times (xs ++ s ∷ []) ≡ times xs ++ s.time ∷ [] = map-append (λ s. s.time) xs (s ∷ []) in
    let same : length (times xs) ≡ length xs = length-map xs (λ s. s.time) in
    let one : get_or (times (xs ++ s ∷ [])) k 0 ≡ get_or (times xs) k 0 =
    ap (λ ts. get_or ts k 0) shape ∙ get_or_append_left (times xs) (s.time ∷ []) 0 k (omega arith) in
    elim (cases_lt (k + 1) (length xs)) [
      | inl l ↦ let other : get_or (times (xs ++ s ∷ [])) (k + 1) 0 ≡ get_or (times xs) (k + 1) 0 =
          ap (λ ts. get_or ts (k + 1) 0) shape ∙ get_or_append_left (times xs) (s.time ∷ []) 0 (k + 1) (omega arith) in
          let up = rise k l in omega arith
      | inr l ↦ let other : get_or (times (xs ++ s ∷ [])) (k + 1) 0 ≡ s.time =
          ap (λ ts. get_or ts (k + 1) 0) shape ∙ get_or_at (times xs) s.time [] 0 (k + 1) (omega arith) in
          let up = later k (omega arith) in omega arith
    ]

pub no_samples : (widths : List ℕ) → Records widths [] []
no_samples widths = record { text = refl; shaped = All-nil (IsSampleOf widths); numbered = refl; rising = λ k h. absurd (omega arith) }

pub grown_chunk : (widths words : List ℕ) (samples : List Sample) (s : Sample) → Records widths words samples → IsNext widths samples s
    → length samples % 256 ≡ 0 → Records widths (words ++ whole_record s) (samples ++ s ∷ [])
grown_chunk widths words samples s h next start = record {
  text = ap (λ ws. ws ++ whole_record s) h.text ∙ sym (words_chunk widths samples s start);
  shaped = All-push (IsSampleOf widths) samples s h.shaped next.shaped;
  numbered = numbered_push samples s h.numbered next.number;
  rising = rising_push samples s h.rising next.later;
}

pub grown_change : (widths words : List ℕ) (samples : List Sample) (before s : Sample) → Records widths words (samples ++ before ∷ [])
    → IsNext widths (samples ++ before ∷ []) s → length (samples ++ before ∷ []) % 256 ≢ 0
    → Records widths (words ++ change_record widths before s) (samples ++ before ∷ s ∷ [])
grown_change widths words samples before s h next within =
    let shape : (samples ++ before ∷ []) ++ s ∷ [] ≡ samples ++ before ∷ s ∷ [] = append_assoc samples (before ∷ []) (s ∷ []) in
    rw shape at (let grown : Records widths (words ++ change_record widths before s) ((samples ++ before ∷ []) ++ s ∷ []) = record {
      text = ap (λ ws. ws ++ change_record widths before s) h.text ∙ sym (words_change widths samples before s within) ∙ ap (recording_words widths) (sym shape);
      shaped = All-push (IsSampleOf widths) (samples ++ before ∷ []) s h.shaped next.shaped;
      numbered = numbered_push (samples ++ before ∷ []) s h.numbered next.number;
      rising = rising_push (samples ++ before ∷ []) s h.rising next.later;
    } in grown)
