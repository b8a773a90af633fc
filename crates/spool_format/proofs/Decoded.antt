-- The samples that chunks stand for are those of which they are the words.
use Rattle.std.proofs.Common.{◌≡◌, ℕ, zero, suc, ◌+◌, ◌-◌, ◌*◌, ◌/◌, ◌≤◌, List, [], ◌∷◌, ◌++◌, length, map, take, drop, refl, sym, ap, ◌∙◌, arith}
use Rattle.std.specs.List.{range_with_len, All}
use Rattle.std.proofs.lemmas.List.{append-nil, length-append, length-drop, length-take-le, take_at, drop_at, drop-drop, take-append-drop, drop-map, take-map}
use Rattle.std.proofs.lemmas.List.Elements.{All-take, All-drop}
use Rattle.std.proofs.lemmas.List.FromFn.{length-range_with_len}
use Rattle.sim_base.specs.Shape.{words_of_widths}
use Rattle.spool_format.specs.declared.sample.Sample.{Sample}
use Rattle.spool_format.specs.Records.{IsSampleOf, change_record, change_records, changed_slots, chunk_samples, chunk_words, slots_with_words, whole_record}
use Rattle.spool_format.specs.Reading.{behind, sample_in, samples_from, samples_in, samples_of_chunk}
use Rattle.spool_format.specs.Kept.{AreChunksOf, IsRun, Recording, full_chunks, recording_of}
use Rattle.spool_format.proofs.Read.{time_again}
use Rattle.spool_format.proofs.Slots.{range_split}
use Rattle.spool_format.proofs.SlotsSet.{changed_within, changes_set, slots_behind}
use Rattle.spool_format.proofs.Told.{head_same, tail_same}

-- ---- numbers of a part

range_drop : (p n : ℕ) → p ≤ n → drop p (range_with_len 0 n) ≡ range_with_len p (n - p)
range_drop p n h =
    let all : p + (n - p) ≡ n = omega arith in
    let from : 0 + p ≡ p = omega arith in
    ap (λ k. drop p (range_with_len 0 k)) (sym all) ∙ ap (drop p) (range_split 0 p (n - p))
    ∙ drop_at (range_with_len 0 p) (range_with_len (0 + p) (n - p)) p (length-range_with_len 0 p) ∙ ap (λ k. range_with_len k (n - p)) from

range_take : (q a n : ℕ) → q ≤ n → take q (range_with_len a n) ≡ range_with_len a q
range_take q a n h =
    let all : q + (n - q) ≡ n = omega arith in
    ap (λ k. take q (range_with_len a k)) (sym all) ∙ ap (take q) (range_split a q (n - q))
    ∙ take_at (range_with_len a q) (range_with_len (a + q) (n - q)) q (length-range_with_len a q)

abbrev pub numbers : List Sample → List ℕ
numbers samples = map (λ s. s.number) samples

pub numbers_drop : (xs : List Sample) (p : ℕ) → numbers xs ≡ range_with_len 0 (length xs) → p ≤ length xs → numbers (drop p xs) ≡ range_with_len p (length (drop p xs))
numbers_drop xs p h within =
    sym (drop-map (λ s. s.number) p xs) ∙ ap (drop p) h ∙ range_drop p (length xs) within ∙ ap (range_with_len p) (sym (length-drop p xs))

numbers_take : (xs : List Sample) (a q : ℕ) → numbers xs ≡ range_with_len a (length xs) → q ≤ length xs → numbers (take q xs) ≡ range_with_len a (length (take q xs))
numbers_take xs a q h within =
    sym (take-map (λ s. s.number) q xs) ∙ ap (take q) h ∙ range_take q a (length xs) within ∙ ap (range_with_len a) (sym (length-take-le q xs within))

-- ---- one record

abbrev one_sample : ℕ → ℕ → List ℕ → Sample
one_sample number time words = record { number = number; time = time; words = words }

same_sample : (number time : ℕ) (words : List ℕ) (s : Sample) → number ≡ s.number → time ≡ s.time → words ≡ s.words → one_sample number time words ≡ s
same_sample number time words s n t w =
    ap (λ k. one_sample k time words) n ∙ ap (λ k. one_sample s.number k words) t ∙ ap (λ k. one_sample s.number s.time k) w

change_read : (ws : List ℕ) (b s : Sample) (rest : List ℕ) (number : ℕ) → length b.words ≡ words_of_widths ws → IsSampleOf ws s → s.number ≡ number
    → sample_in ws number b.words (change_record ws b s ++ rest) ≡ s
unfolding change_record
change_read ws b s rest number was h n =
    same_sample _ _ _ s (sym n) (time_again s.time h.time) (changes_set ws b.words s.words rest was h.room)

change_behind : (ws : List ℕ) (b s : Sample) (rest : List ℕ) → length s.words ≡ words_of_widths ws → behind ws (change_record ws b s ++ rest) ≡ rest
unfolding change_record
change_behind ws b s rest room = slots_behind ws s.words rest room (changed_slots ws b.words s.words) (changed_within ws b.words s.words)

unfold_next : (ws : List ℕ) (most number : ℕ) (b x : Sample) (rest : List ℕ)
    → samples_in ws (suc most) number b.words (change_record ws b x ++ rest)
    ≡ sample_in ws number b.words (change_record ws b x ++ rest)
    ∷ samples_in ws most (number + 1) (sample_in ws number b.words (change_record ws b x ++ rest)).words (behind ws (change_record ws b x ++ rest))
unfolding samples_in change_record
unfold_next ws most number b x rest = refl

changes_read : (ws : List ℕ) (xs : List Sample) (b : Sample) (most number : ℕ) → length xs ≤ most → length b.words ≡ words_of_widths ws → All (IsSampleOf ws) xs
    → numbers xs ≡ range_with_len number (length xs) → samples_in ws most number b.words (change_records ws b xs) ≡ xs
unfolding samples_in change_records
changes_read ws [] b zero number few was h n = refl
changes_read ws [] b (suc most) number few was h n = refl
changes_read ws (x ∷ xs) b zero number few was h n = absurd (omega arith)
changes_read ws (x ∷ xs) b (suc most) number few was h n =
    let one : IsSampleOf ws x = h 0 x (omega arith) in
    let text = change_record ws b x ++ change_records ws x xs in
    unfold_next ws most number b x (change_records ws x xs)
    ∙ ap (λ s. s ∷ samples_in ws most (number + 1) s.words (behind ws text)) (change_read ws b x (change_records ws x xs) number was one (head_same n))
    ∙ ap (λ t. x ∷ samples_in ws most (number + 1) x.words t) (change_behind ws b x (change_records ws x xs) one.room)
    ∙ ap (λ ys. x ∷ ys) (changes_read ws xs x most (number + 1) (omega arith) one.room (λ k d l. h (suc k) d (omega arith)) (tail_same n))

at_least : (ws : List ℕ) (xs : List Sample) (b : Sample) → length xs ≤ length (change_records ws b xs)
unfolding change_records change_record
at_least ws [] b = omega arith
at_least ws (x ∷ xs) b =
    let rest = at_least ws xs x in
    omega (arith, length-append (slots_with_words ws x.words (changed_slots ws b.words x.words)) (change_records ws x xs))

pub chunk_read : (ws : List ℕ) (xs : List Sample) (number : ℕ) → All (IsSampleOf ws) xs → numbers xs ≡ range_with_len number (length xs)
    → samples_of_chunk ws number (chunk_words ws xs) ≡ xs
unfolding samples_in chunk_words
chunk_read ws [] number h n = refl
chunk_read ws (x ∷ xs) number h n =
    let one : IsSampleOf ws x = h 0 x (omega arith) in
    let rest = change_records ws x xs in
    let room = words_of_widths ws in
    let most = length (whole_record x ++ rest) - 1 in
    let fuel : length (whole_record x ++ rest) ≡ suc most = omega arith in
    let four : 4 + room ≡ suc (suc (suc (suc room))) = omega arith in
    let enough : length xs ≤ most = omega (arith, at_least ws xs x, length-append x.words rest) in
    let first : sample_in ws number [] (whole_record x ++ rest) ≡ x =
    same_sample _ _ _ x (sym (head_same n)) (time_again x.time one.time) (take_at x.words rest room one.room) in
    let left : behind ws (whole_record x ++ rest) ≡ rest = ap (λ k. drop k (whole_record x ++ rest)) four ∙ drop_at x.words rest room one.room in
    ap (λ f. samples_in ws f number [] (whole_record x ++ rest)) fuel
    ∙ ap (λ s. s ∷ samples_in ws most (number + 1) s.words (behind ws (whole_record x ++ rest))) first
    ∙ ap (λ t. x ∷ samples_in ws most (number + 1) x.words t) left
    ∙ ap (λ ys. x ∷ ys) (changes_read ws xs x most (number + 1) enough one.room (λ k d l. h (suc k) d (omega arith)) (tail_same n))

-- ---- all chunks

chunks_read : (r : Recording) → IsRun r → (m : ℕ) → m ≡ length r.samples / 256 → (a n : ℕ) → a + n ≡ m
    → samples_from r.widths (256 * a) (map (λ j. chunk_words r.widths (chunk_samples r.samples j)) (range_with_len a n) ++ chunk_words r.widths (drop (256 * m) r.samples) ∷ [])
    ≡ drop (256 * a) r.samples
unfolding samples_from
chunks_read r h m is a zero at =
    let here : m ≡ a = omega arith in
    let rest = drop (256 * a) r.samples in
    append-nil (samples_of_chunk r.widths (256 * a) (chunk_words r.widths (drop (256 * m) r.samples)))
    ∙ ap (λ k. samples_of_chunk r.widths (256 * a) (chunk_words r.widths (drop (256 * k) r.samples))) here
    ∙ chunk_read r.widths rest (256 * a) (All-drop (IsSampleOf r.widths) (256 * a) r.samples h.shaped) (numbers_drop r.samples (256 * a) h.numbered (omega arith))
chunks_read r h m is a (suc n) at =
    let f : ℕ → List ℕ = λ j. chunk_words r.widths (chunk_samples r.samples j) in
    let more = map f (range_with_len (a + 1) n) ++ chunk_words r.widths (drop (256 * m) r.samples) ∷ [] in
    let here = drop (256 * a) r.samples in
    let long : 256 ≤ length here = omega (arith, length-drop (256 * a) r.samples) in
    let next : 256 * a + 256 ≡ 256 * (a + 1) = omega arith in
    let one : samples_of_chunk r.widths (256 * a) (f a) ≡ take 256 here =
    chunk_read r.widths (take 256 here) (256 * a) (All-take (IsSampleOf r.widths) 256 here (All-drop (IsSampleOf r.widths) (256 * a) r.samples h.shaped))
    (numbers_take here (256 * a) 256 (numbers_drop r.samples (256 * a) h.numbered (omega arith)) long) in
    ap (λ xs. xs ++ samples_from r.widths (256 * a + 256) more) one
    ∙ ap (λ k. take 256 here ++ samples_from r.widths k more) next
    ∙ ap (λ xs. take 256 here ++ xs) (chunks_read r h m is (a + 1) n (omega arith))
    ∙ ap (λ k. take 256 here ++ drop k r.samples) (sym next) ∙ ap (λ xs. take 256 here ++ xs) (sym (drop-drop 256 (256 * a) r.samples))
    ∙ take-append-drop 256 here

pub kept_read : (r : Recording) (full : List (List ℕ)) (growing : List ℕ) → AreChunksOf r full growing → recording_of r.widths full growing ≡ r
kept_read r full growing h =
    let all : samples_from r.widths 0 (full ++ growing ∷ []) ≡ r.samples =
    ap (λ xs. samples_from r.widths 0 (xs ++ growing ∷ [])) h.each ∙ ap (λ g. samples_from r.widths 0 (full_chunks r.widths r.samples ++ g ∷ [])) h.last
    ∙ chunks_read r h.run (length r.samples / 256) refl 0 (length r.samples / 256) (omega arith) in
    ap (λ ss. let t : Recording = record { widths = r.widths; samples = ss } in t) all
