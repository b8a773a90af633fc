-- A recording in chunks: its chunks, their first times, and the sample that comes next.
use Rattle.std.proofs.Common.{◌≡◌, ◌≢◌, ℕ, zero, suc, ◌+◌, ◌-◌, ◌*◌, ◌/◌, ◌%◌, ◌<◌, ◌≤◌, min, List, [], ◌∷◌, ◌++◌, length, map, take, drop, get_or, cond, eqb, Bool, true, false, Some, refl, sym, ap, ◌∙◌, inl, inr, arith}
use Rattle.std.specs.List.{range_with_len, flat_map, All}
use Rattle.std.specs.Int.{div_ceil}
use Rattle.std.proofs.lemmas.List.{append-nil, append_assoc, length_push, length-drop, length-take, take_all, take_more, drop_all, drop-append-le, map-append, get_or-drop, get_or-take}
use Rattle.std.proofs.lemmas.List.Concat.{flat_map-append}
use Rattle.std.proofs.lemmas.List.Elements.{All-nil, All-push, All-take, All-drop}
use Rattle.std.proofs.lemmas.List.FromFn.{get_or-map-range_with_len, length-map-range_with_len}
use Rattle.std.proofs.lemmas.Bool.{cases_lt, ne_eqb}
use Rattle.spool_format.specs.declared.sample.Sample.{Sample}
use Rattle.spool_format.specs.Records.{IsNext, IsSampleOf, Records, change_record, change_records, chunk_samples, chunk_words, whole_record}
use Rattle.spool_format.specs.Fields.{time_at}
use Rattle.spool_format.specs.Reading.{sample_at, samples_from, samples_in}
use Rattle.spool_format.specs.Kept.{AreChunksOf, IsRun, Recording, full_chunks, growing_chunk, next_record, recording_of, with_sample}
use Rattle.spool_format.proofs.Grown.{chunk_push, flat_map_push, full_chunk, numbered_push, one_sample, range_push, rising_push}
use Rattle.spool_format.proofs.Read.{whole_fields}

-- ---- the chunks

pub chunk_there : (r : Recording) (full : List (List ℕ)) (growing : List ℕ) → AreChunksOf r full growing → (n : ℕ) → n < length full
    → get_or full n [] ≡ chunk_words r.widths (chunk_samples r.samples n)
chunk_there r full growing h n within =
    let f : ℕ → List ℕ = λ j. chunk_words r.widths (chunk_samples r.samples j) in
    let many : length full ≡ length r.samples / 256 = ap length h.each ∙ length-map-range_with_len f 0 (length r.samples / 256) in
    ap (λ xs. get_or xs n []) h.each ∙ get_or-map-range_with_len f 0 (length r.samples / 256) n n [] (omega (arith, many)) (omega arith)

pub chunk_last : (r : Recording) (full : List (List ℕ)) (growing : List ℕ) → AreChunksOf r full growing → (n : ℕ) → length full ≤ n → n < div_ceil (length r.samples) 256
    → growing ≡ chunk_words r.widths (chunk_samples r.samples n)
chunk_last r full growing h n behind within =
    let f : ℕ → List ℕ = λ j. chunk_words r.widths (chunk_samples r.samples j) in
    let many : length full ≡ length r.samples / 256 = ap length h.each ∙ length-map-range_with_len f 0 (length r.samples / 256) in
    let at : length r.samples / 256 ≡ n = omega (arith, many) in
    let few : length (drop (256 * n) r.samples) ≤ 256 = omega (arith, length-drop (256 * n) r.samples) in
    h.last ∙ ap (λ k. chunk_words r.widths (drop (256 * k) r.samples)) at ∙ ap (chunk_words r.widths) (sym (take_all 256 (drop (256 * n) r.samples) few))

pub chunk_shaped : (r : Recording) → IsRun r → (n : ℕ) → All (IsSampleOf r.widths) (chunk_samples r.samples n)
chunk_shaped r h n = All-take (IsSampleOf r.widths) 256 (drop (256 * n) r.samples) (All-drop (IsSampleOf r.widths) (256 * n) r.samples h.shaped)

pub chunk_length : (xs : List Sample) (n : ℕ) → length (chunk_samples xs n) ≡ min 256 (length xs - 256 * n)
chunk_length xs n = length-take 256 (drop (256 * n) xs) ∙ ap (min 256) (length-drop (256 * n) xs)

-- ---- the first time of a chunk

first_of : (ws : List ℕ) (xs : List Sample) → 0 < length xs → All (IsSampleOf ws) xs → time_at (chunk_words ws xs) 0 ≡ Some (sample_at xs 0).time
unfolding chunk_words
first_of ws [] h shaped = absurd (omega arith)
first_of ws (x ∷ xs) h shaped = (whole_fields [] (change_records ws x xs) x (shaped 0 x (omega arith)).time).time

pub first_time : (r : Recording) → IsRun r → (n : ℕ) → n < div_ceil (length r.samples) 256
    → time_at (chunk_words r.widths (chunk_samples r.samples n)) 0 ≡ Some (sample_at r.samples (256 * n)).time
first_time r h n within =
    let xs = chunk_samples r.samples n in
    let more : 0 < length (chunk_samples r.samples n) = omega (arith, chunk_length r.samples n) in
    let at : 256 * n + 0 ≡ 256 * n = omega arith in
    let same : sample_at xs 0 ≡ sample_at r.samples (256 * n) =
    get_or-take 256 (drop (256 * n) r.samples) 0 _ (omega arith) ∙ get_or-drop (256 * n) r.samples 0 _ ∙ ap (sample_at r.samples) at in
    first_of r.widths xs more (chunk_shaped r h n) ∙ ap (λ s. Some s.time) same

-- ---- one sample more

last_split : (ys : List Sample) (k : ℕ) → k + 1 ≡ length ys → ys ≡ take k ys ++ sample_at ys k ∷ []
last_split ys k h = sym (take_all (k + 1) ys (omega arith)) ∙ take_more ys k _ (omega arith)

push_words : (ws : List ℕ) (ys : List Sample) (b s : Sample) → 0 < length ys → b ≡ sample_at ys (length ys - 1) → chunk_words ws (ys ++ s ∷ []) ≡ chunk_words ws ys ++ change_record ws b s
push_words ws ys b s more is =
    let cut = last_split ys (length ys - 1) (omega arith) in
    let front = take (length ys - 1) ys in
    ap (λ zs. chunk_words ws (zs ++ s ∷ [])) cut ∙ ap (chunk_words ws) (append_assoc front (sample_at ys (length ys - 1) ∷ []) (s ∷ []))
    ∙ chunk_push ws front (sample_at ys (length ys - 1)) s
    ∙ ap (λ zs. chunk_words ws zs ++ change_record ws (sample_at ys (length ys - 1)) s) (sym cut) ∙ ap (λ c. chunk_words ws ys ++ change_record ws c s) (sym is)

pick : {A : Type 0} (b : Bool) (x y : A) → b ≡ true → cond b x y ≡ x
pick true x y h = refl
pick false x y h = cc

skip : {A : Type 0} (b : Bool) (x y : A) → b ≡ false → cond b x y ≡ y
skip true x y h = cc
skip false x y h = refl

grown : (r : Recording) (s : Sample) → chunk_words r.widths (drop (256 * (length r.samples / 256)) r.samples ++ s ∷ []) ≡ growing_chunk r.widths r.samples ++ next_record r s
unfolding chunk_words
grown r s =
    let n = length r.samples in
    let m = length r.samples / 256 in
    let ys = drop (256 * (length r.samples / 256)) r.samples in
    let long = length-drop (256 * (length r.samples / 256)) r.samples in
    let changed : List ℕ = change_record r.widths (sample_at r.samples (n - 1)) s in
    elim (cases_lt 0 (n % 256)) [
      | inl more ↦
          let is : sample_at r.samples (n - 1) ≡ sample_at ys (length ys - 1) =
          let at : n - 1 ≡ 256 * (length r.samples / 256) + (length ys - 1) = omega (arith, long) in
          ap (sample_at r.samples) at ∙ sym (get_or-drop (256 * (length r.samples / 256)) r.samples (length ys - 1) (record { number = 0; time = 0; words = [] })) in
          push_words r.widths ys (sample_at r.samples (n - 1)) s (omega (arith, long)) is
          ∙ ap (λ w. chunk_words r.widths ys ++ w) (sym (skip (eqb (n % 256) 0) (whole_record s) changed (ne_eqb (n % 256) 0 (λ e. absurd (omega arith)))))
      | inr none ↦
          let zero_left : n % 256 ≡ 0 = omega arith in
          let empty : ys ≡ [] = drop_all (256 * (length r.samples / 256)) r.samples (omega arith) in
          ap (λ zs. chunk_words r.widths (zs ++ s ∷ [])) empty ∙ one_sample r.widths s ∙ ap (λ zs. chunk_words r.widths zs ++ whole_record s) (sym empty)
          ∙ ap (λ w. chunk_words r.widths ys ++ w) (sym (pick (eqb (n % 256) 0) (whole_record s) changed (ap (λ k. eqb k 0) zero_left)))
    ]

map_same : {A : Type 0} (f g : ℕ → A) (a n : ℕ) → ((j : ℕ) → a ≤ j → j < a + n → f j ≡ g j) → map f (range_with_len a n) ≡ map g (range_with_len a n)
map_same f g a zero h = refl
map_same f g a (suc n) h =
    let rest = map_same f g (a + 1) n (λ j low high. h j (omega arith) (omega arith)) in
    ap (λ x. x ∷ map f (range_with_len (a + 1) n)) (h a (omega arith) (omega arith)) ∙ ap (λ xs. g a ∷ xs) rest

-- the full chunks stay as they are
still_full : (r : Recording) (s : Sample) → map (λ j. chunk_words r.widths (chunk_samples (r.samples ++ s ∷ []) j)) (range_with_len 0 (length r.samples / 256)) ≡ full_chunks r.widths r.samples
still_full r s =
    map_same (λ j. chunk_words r.widths (chunk_samples (r.samples ++ s ∷ []) j)) (λ j. chunk_words r.widths (chunk_samples r.samples j)) 0 (length r.samples / 256)
    (λ j low high. ap (chunk_words r.widths) (full_chunk r.samples (s ∷ []) j (omega arith)))

next_run : (r : Recording) (s : Sample) → IsRun r → IsNext r.widths r.samples s → IsRun (with_sample r s)
next_run r s h next = record {
  shaped = All-push (IsSampleOf r.widths) r.samples s h.shaped next.shaped;
  numbered = numbered_push r.samples s h.numbered next.number;
  rising = rising_push r.samples s h.rising next.later;
}

-- the chunk that grows has room for it
pub next_within : (r : Recording) (full : List (List ℕ)) (growing : List ℕ) (s : Sample) → AreChunksOf r full growing → IsNext r.widths r.samples s
    → (length r.samples + 1) % 256 ≢ 0 → AreChunksOf (with_sample r s) full (growing ++ next_record r s)
next_within r full growing s h next more =
    let m = length r.samples / 256 in
    let long : length (r.samples ++ s ∷ []) ≡ length r.samples + 1 = length_push r.samples s in
    let left : 0 < (length r.samples + 1) % 256 = elim (cases_lt 0 ((length r.samples + 1) % 256)) [ inl l ↦ l | inr l ↦ absurd (more (omega arith)) ] in
    let same : length (r.samples ++ s ∷ []) / 256 ≡ m = omega arith in
    let behind : drop (256 * m) (r.samples ++ s ∷ []) ≡ drop (256 * m) r.samples ++ s ∷ [] = drop-append-le (256 * (length r.samples / 256)) r.samples (s ∷ []) (omega arith) in
    record {
      each = h.each ∙ sym (still_full r s) ∙ ap (λ k. map (λ j. chunk_words r.widths (chunk_samples (r.samples ++ s ∷ []) j)) (range_with_len 0 k)) (sym same);
      last = ap (λ w. w ++ next_record r s) h.last ∙ sym (grown r s) ∙ ap (chunk_words r.widths) (sym behind)
          ∙ ap (λ k. chunk_words r.widths (drop (256 * k) (r.samples ++ s ∷ []))) (sym same);
      run = next_run r s h.run next;
    }

pub map_push : {A : Type 0} (f : ℕ → A) (n : ℕ) → map f (range_with_len 0 (n + 1)) ≡ map f (range_with_len 0 n) ++ f n ∷ []
map_push f n = ap (map f) (range_push n) ∙ map-append f (range_with_len 0 n) (n ∷ [])

no_words : (ws : List ℕ) → chunk_words ws [] ≡ []
unfolding chunk_words
no_words ws = refl

-- it is full with it
pub next_full : (r : Recording) (full : List (List ℕ)) (growing : List ℕ) (s : Sample) → AreChunksOf r full growing → IsNext r.widths r.samples s
    → (length r.samples + 1) % 256 ≡ 0 → AreChunksOf (with_sample r s) (full ++ (growing ++ next_record r s) ∷ []) []
next_full r full growing s h next is =
    let m = length r.samples / 256 in
    let f : ℕ → List ℕ = λ j. chunk_words r.widths (chunk_samples (r.samples ++ s ∷ []) j) in
    let long : length (r.samples ++ s ∷ []) ≡ length r.samples + 1 = length_push r.samples s in
    let other : length (r.samples ++ s ∷ []) / 256 ≡ m + 1 = omega arith in
    let behind : drop (256 * m) (r.samples ++ s ∷ []) ≡ drop (256 * m) r.samples ++ s ∷ [] = drop-append-le (256 * (length r.samples / 256)) r.samples (s ∷ []) (omega arith) in
    let few : length (drop (256 * m) (r.samples ++ s ∷ [])) ≤ 256 = omega (arith, length-drop (256 * (length r.samples / 256)) (r.samples ++ s ∷ [])) in
    let grows : f m ≡ growing ++ next_record r s =
    ap (chunk_words r.widths) (take_all 256 (drop (256 * m) (r.samples ++ s ∷ [])) few ∙ behind) ∙ grown r s ∙ ap (λ w. w ++ next_record r s) (sym h.last) in
    let none : drop (256 * (length (r.samples ++ s ∷ []) / 256)) (r.samples ++ s ∷ []) ≡ [] =
    drop_all (256 * (length (r.samples ++ s ∷ []) / 256)) (r.samples ++ s ∷ []) (omega arith) in
    record {
      each = ap (λ xs. xs ++ (growing ++ next_record r s) ∷ []) (h.each ∙ sym (still_full r s)) ∙ ap (λ w. map f (range_with_len 0 m) ++ w ∷ []) (sym grows)
          ∙ sym (map_push f m) ∙ ap (λ k. map f (range_with_len 0 k)) (sym other);
      last = sym (ap (chunk_words r.widths) none ∙ no_words r.widths);
      run = next_run r s h.run next;
    }

-- ---- the words of all chunks

flat_of_map : {A B : Type 0} (f : A → List B) (xs : List A) → flat_map (λ x. x) (map f xs) ≡ flat_map f xs
flat_of_map f [] = refl
flat_of_map f (x ∷ xs) = ap (λ ys. f x ++ ys) (flat_of_map f xs)

pub kept_records : (r : Recording) (full : List (List ℕ)) (growing : List ℕ) → AreChunksOf r full growing → Records r.widths (flat_map (λ words. words) (full ++ growing ∷ [])) r.samples
kept_records r full growing h =
    let m = length r.samples / 256 in
    let f : ℕ → List ℕ = λ j. chunk_words r.widths (chunk_samples r.samples j) in
    let all : flat_map (λ words. words) (full ++ growing ∷ []) ≡ flat_map f (range_with_len 0 m) ++ growing =
    flat_map-append (λ words. words) full (growing ∷ []) ∙ ap (λ xs. flat_map (λ words. words) full ++ xs) (append-nil growing)
    ∙ ap (λ xs. flat_map (λ words. words) xs ++ growing) h.each ∙ ap (λ xs. xs ++ growing) (flat_of_map f (range_with_len 0 m)) in
    record {
      text = all ∙ elim (cases_lt 0 (length r.samples % 256)) [
        | inl more ↦
            let one : div_ceil (length r.samples) 256 ≡ m + 1 = omega arith in
            let few : length (drop (256 * m) r.samples) ≤ 256 = omega (arith, length-drop (256 * (length r.samples / 256)) r.samples) in
            ap (λ w. flat_map f (range_with_len 0 m) ++ w) (h.last ∙ ap (chunk_words r.widths) (sym (take_all 256 (drop (256 * m) r.samples) few)))
            ∙ sym (flat_map_push f m) ∙ ap (λ k. flat_map f (range_with_len 0 k)) (sym one)
        | inr none ↦
            let one : div_ceil (length r.samples) 256 ≡ m = omega arith in
            ap (λ w. flat_map f (range_with_len 0 m) ++ w) (h.last ∙ ap (chunk_words r.widths) (drop_all (256 * m) r.samples (omega arith)) ∙ no_words r.widths)
            ∙ append-nil (flat_map f (range_with_len 0 m)) ∙ ap (λ k. flat_map f (range_with_len 0 k)) (sym one)
      ];
      shaped = h.run.shaped;
      numbered = h.run.numbered;
      rising = h.run.rising;
    }

pub some_same : (a b : ℕ) → Some a ≡ Some b → a ≡ b
some_same a b h = cc

-- ---- no samples

pub nothing_kept : (ws : List ℕ) → AreChunksOf (recording_of ws [] []) [] []
unfolding samples_from samples_in chunk_words
nothing_kept ws = record {
  each = refl;
  last = refl;
  run = record { shaped = All-nil (IsSampleOf ws); numbered = refl; rising = λ k h. absurd (omega arith) };
}

pub nothing_read : (ws : List ℕ) → (recording_of ws [] []).samples ≡ []
unfolding samples_from samples_in
nothing_read ws = refl
