-- The records of a chunk, one after another, and the player that reads them.
use Rattle.std.proofs.Common.{◌≡◌, ◌≢◌, ℕ, ◌+◌, ◌-◌, ◌*◌, ◌/◌, ◌%◌, ◌<◌, ◌≤◌, List, [], ◌∷◌, ◌++◌, length, take, drop, get_or, Some, refl, sym, ap, ◌∙◌, subst, inl, inr, arith}
use Rattle.std.specs.List.{All}
use Rattle.std.specs.Int.{div_ceil}
use Rattle.std.proofs.Math.Seq.{drop-append-add}
use Rattle.std.proofs.lemmas.List.{append_assoc, length-append, length-drop, length-take, take_at, take_more, take-append-drop, get_or-take, get_or-drop, get_or-append-add}
use Rattle.std.proofs.lemmas.Bool.{cases_lt}
use Rattle.sim_base.specs.Shape.{words_of_width, words_of_widths}
use Rattle.spool_format.specs.declared.sample.Sample.{Sample}
use Rattle.spool_format.specs.Records.{IsSampleOf, change_record, change_records, changed_slots, chunk_samples, chunk_words, place_of, slot_words, slots_with_words, time_words, whole_record}
use Rattle.spool_format.specs.Fields.{time_at}
use Rattle.spool_format.specs.Reading.{AreSlots, behind_slots, sample_at, set_slots}
use Rattle.spool_format.specs.Kept.{IsRun, Recording}
use Rattle.spool_format.proofs.Grown.{chunk_push}
use Rattle.spool_format.proofs.KeptOn.{chunk_length, chunk_shaped}
use Rattle.spool_format.proofs.Read.{change_fields}
use Rattle.spool_format.proofs.SlotsSet.{changed_within, changes_set, slots_behind, slots_listed}
use Rattle.spool_format.proofs.Placed.{slot_within}
use Rattle.spool_replay.proofs.Listed.{place_at, places_length}
use Rattle.spool_replay.specs.Standing.{IsChangeAt, IsStanding, Standing, places_of, words_through}

-- ---- the whole record

pub record IsWholeAt (ws : List ℕ) (xs : List Sample) : Type 0 where
  pub room : 4 + words_of_widths ws ≤ length (chunk_words ws xs)
  pub shown : take (words_of_widths ws) (drop 4 (chunk_words ws xs)) ≡ (sample_at xs 0).words
  pub read : length (chunk_words ws (take 1 xs)) ≡ 4 + words_of_widths ws

whole_at : (ws : List ℕ) (xs : List Sample) → 0 < length xs → All (IsSampleOf ws) xs → IsWholeAt ws xs
unfolding chunk_words change_records
whole_at ws [] h shaped = absurd (omega arith)
whole_at ws (x ∷ xs) h shaped =
    let one : IsSampleOf ws x = shaped 0 x (omega arith) in
    record {
      room = omega (arith, length-append x.words (change_records ws x xs), one.room);
      shown = take_at x.words (change_records ws x xs) (words_of_widths ws) one.room;
      read = omega (arith, length-append x.words [], one.room);
    }

-- ---- a record of what changed

changes_split : (ws : List ℕ) (b : Sample) (ys zs : List Sample) → (rest : List ℕ) × (change_records ws b (ys ++ zs) ≡ change_records ws b ys ++ rest)
unfolding change_records
changes_split ws b [] zs = (change_records ws b zs, refl)
changes_split ws b (y ∷ ys) zs =
    let more = changes_split ws y ys zs in
    (more.0, ap (λ xs. change_record ws b y ++ xs) more.1 ∙ sym (append_assoc (change_record ws b y) (change_records ws y ys) more.0))

chunk_split : (ws : List ℕ) (ys zs : List Sample) → 0 < length ys → (rest : List ℕ) × (chunk_words ws (ys ++ zs) ≡ chunk_words ws ys ++ rest)
unfolding chunk_words
chunk_split ws [] zs h = absurd (omega arith)
chunk_split ws (y ∷ ys) zs h =
    let more = changes_split ws y ys zs in
    (more.0, ap (λ xs. whole_record y ++ xs) more.1 ∙ sym (append_assoc (whole_record y) (change_records ws y ys) more.0))

two_more : (xs : List Sample) (i : ℕ) → i + 1 < length xs → take (i + 2) xs ≡ take i xs ++ sample_at xs i ∷ sample_at xs (i + 1) ∷ []
two_more xs i h =
    let on : i + 2 ≡ i + 1 + 1 = omega arith in
    ap (λ n. take n xs) on ∙ take_more xs (i + 1) _ h ∙ ap (λ ys. ys ++ sample_at xs (i + 1) ∷ []) (take_more xs i _ (omega arith))
    ∙ append_assoc (take i xs) (sample_at xs i ∷ []) (sample_at xs (i + 1) ∷ [])

-- the next record, behind those up to a sample
next_words : (ws : List ℕ) (xs : List Sample) (i : ℕ) → i + 1 < length xs
    → chunk_words ws (take (i + 2) xs) ≡ chunk_words ws (take (i + 1) xs) ++ change_record ws (sample_at xs i) (sample_at xs (i + 1))
next_words ws xs i h =
    ap (chunk_words ws) (two_more xs i h) ∙ chunk_push ws (take i xs) (sample_at xs i) (sample_at xs (i + 1))
    ∙ ap (λ ys. chunk_words ws ys ++ change_record ws (sample_at xs i) (sample_at xs (i + 1))) (sym (take_more xs i _ (omega arith)))

chunk_around : (ws : List ℕ) (xs : List Sample) (i : ℕ) → i + 1 < length xs
    → (rest : List ℕ) × (chunk_words ws xs ≡ chunk_words ws (take (i + 1) xs) ++ (change_record ws (sample_at xs i) (sample_at xs (i + 1)) ++ rest))
chunk_around ws xs i h =
    let some : 0 < length (take (i + 2) xs) = omega (arith, length-take (i + 2) xs) in
    let parts = chunk_split ws (take (i + 2) xs) (drop (i + 2) xs) some in (
      parts.0,
      ap (chunk_words ws) (sym (take-append-drop (i + 2) xs)) ∙ parts.1 ∙ ap (λ w. w ++ parts.0) (next_words ws xs i h)
          ∙ append_assoc (chunk_words ws (take (i + 1) xs)) (change_record ws (sample_at xs i) (sample_at xs (i + 1))) parts.0,
    )

-- what reading that record asks for, and what it does
pub record IsNextAt (ws chunk words : List ℕ) (s : Sample) (place end : ℕ) : Type 0 where
  pub change : IsChangeAt ws chunk place
  pub time : time_at chunk place ≡ Some s.time
  pub sets : set_slots ws (get_or chunk (place + 4) 0) (drop (place + 5) chunk) words ≡ s.words
  pub ends : (e : ℕ) → e ≤ length chunk → drop e chunk ≡ behind_slots ws (get_or chunk (place + 4) 0) (drop (place + 5) chunk) → e ≡ end
  pub more : place + 5 ≤ end

change_at : (ws front rest : List ℕ) (b s : Sample) → length b.words ≡ words_of_widths ws → IsSampleOf ws s
    → IsNextAt ws (front ++ (change_record ws b s ++ rest)) b.words s (length front) (length front + length (change_record ws b s))
unfolding change_record
change_at ws front rest b s room h =
    let n = length (changed_slots ws b.words s.words) in
    let slots = slots_with_words ws s.words (changed_slots ws b.words s.words) in
    let body : List ℕ = 1 ∷ (time_words s.time ++ n ∷ (slots ++ rest)) in
    let chunk : List ℕ = front ++ body in
    let long : length chunk ≡ length front + (5 + (length slots + length rest)) = omega (arith, length-append front body, length-append slots rest) in
    let count : get_or chunk (length front + 4) 0 ≡ n = get_or-append-add front body 4 0 in
    let text : drop (length front + 5) chunk ≡ slots ++ rest = drop-append-add front body 5 in
    let behind : behind_slots ws (get_or chunk (length front + 4) 0) (drop (length front + 5) chunk) ≡ rest =
    ap (λ k. behind_slots ws k (drop (length front + 5) chunk)) count ∙ ap (behind_slots ws n) text
    ∙ slots_behind ws s.words rest h.room (changed_slots ws b.words s.words) (changed_within ws b.words s.words) in
    record {
      change = record {
        head = omega (arith, long);
        listed = subst (λ k. AreSlots ws k (drop (length front + 5) chunk)) (sym count)
            (subst (AreSlots ws n) (sym text) (slots_listed ws s.words rest h.room (changed_slots ws b.words s.words) (changed_within ws b.words s.words)));
      };
      time = (change_fields ws front rest b s h.time).time;
      sets = ap (λ k. set_slots ws k (drop (length front + 5) chunk) b.words) count ∙ ap (λ t. set_slots ws n t b.words) text
          ∙ changes_set ws b.words s.words rest room h.room;
      ends = λ e within is. omega (arith, long, length-drop e chunk, ap length is, ap length behind);
      more = omega arith;
    }

pub next_at : (ws : List ℕ) (xs : List Sample) (i : ℕ) → i + 1 < length xs → All (IsSampleOf ws) xs
    → IsNextAt ws (chunk_words ws xs) (sample_at xs i).words (sample_at xs (i + 1)) (length (chunk_words ws (take (i + 1) xs))) (length (chunk_words ws (take (i + 2) xs)))
next_at ws xs i h shaped =
    let around = chunk_around ws xs i h in
    let front = chunk_words ws (take (i + 1) xs) in
    let b = sample_at xs i in
    let s = sample_at xs (i + 1) in
    let end : length front + length (change_record ws b s) ≡ length (chunk_words ws (take (i + 2) xs)) =
    sym (ap length (next_words ws xs i h) ∙ length-append front (change_record ws b s)) in
    subst (λ e. IsNextAt ws (chunk_words ws xs) b.words s (length front) e) end
    (subst (λ chunk. IsNextAt ws chunk b.words s (length front) (length front + length (change_record ws b s))) (sym around.1)
    (change_at ws front around.0 b s (shaped i _ (omega arith)).room (shaped (i + 1) _ h)))

-- ---- the samples of a chunk

pub in_chunk : (xs : List Sample) (n i : ℕ) → i < 256 → sample_at (chunk_samples xs n) i ≡ sample_at xs (256 * n + i)
in_chunk xs n i h = get_or-take 256 (drop (256 * n) xs) i _ h ∙ get_or-drop (256 * n) xs i _

-- ---- the player

pub record IsBegun (r : Recording) (n : ℕ) : Type 0 where
  pub room : 4 + words_of_widths r.widths ≤ length (chunk_words r.widths (chunk_samples r.samples n))
  pub shown : take (words_of_widths r.widths) (drop 4 (chunk_words r.widths (chunk_samples r.samples n))) ≡ (sample_at r.samples (256 * n)).words
  pub read : words_through r (256 * n) ≡ 4 + words_of_widths r.widths

pub begun : (r : Recording) (n : ℕ) → IsRun r → 256 * n < length r.samples → IsBegun r n
begun r n h within =
    let xs = chunk_samples r.samples n in
    let some : 0 < length xs = omega (arith, chunk_length r.samples n) in
    let one = whole_at r.widths xs some (chunk_shaped r h n) in
    let at : 256 * n + 0 ≡ 256 * n = omega arith in
    let low : 256 * n % 256 + 1 ≡ 1 = omega arith in
    let chunk : 256 * n / 256 ≡ n = omega arith in
    record {
      room = one.room;
      shown = one.shown ∙ ap (λ s. s.words) (in_chunk r.samples n 0 (omega arith) ∙ ap (sample_at r.samples) at);
      read = ap (λ k. length (chunk_words r.widths (take k (chunk_samples r.samples (256 * n / 256))))) low
          ∙ ap (λ k. length (chunk_words r.widths (take 1 (chunk_samples r.samples k)))) chunk ∙ one.read;
    }

pub begun_standing : (r : Recording) (n : ℕ) (places words : List ℕ) (time next : ℕ) → IsRun r → 256 * n < length r.samples → places ≡ places_of r.widths
    → words ≡ take (words_of_widths r.widths) (drop 4 (chunk_words r.widths (chunk_samples r.samples n))) → time ≡ (sample_at r.samples (256 * n)).time → next ≡ 4 + words_of_widths r.widths
    → (at : ℕ) → at ≡ 256 * n → IsStanding (let s : Standing = record { recording = r; at = at } in s) places words time next
begun_standing r n places words time next h within placed shown timed read at is =
    let one = begun r n h within in
    subst (λ k. IsStanding (let s : Standing = record { recording = r; at = k } in s) places words time next) (sym is) (record {
      run = h;
      there = within;
      placed = placed;
      shown = shown ∙ one.shown;
      timed = timed;
      read = read ∙ sym one.read;
    })

pub standing_room : (s : Standing) (places words : List ℕ) (time next : ℕ) → IsStanding s places words time next → length words ≡ words_of_widths s.recording.widths
standing_room s places words time next h = ap length h.shown ∙ (h.run.shaped s.at _ h.there).room

pub next_of : (r : Recording) (at : ℕ) (places words : List ℕ) (time next : ℕ) → IsStanding (let s : Standing = record { recording = r; at = at } in s) places words time next
    → at + 1 < length r.samples → (at + 1) % 256 ≢ 0
    → IsNextAt r.widths (chunk_words r.widths (chunk_samples r.samples (at / 256))) words (sample_at r.samples (at + 1)) next (words_through r (at + 1))
next_of r at places words time next h more within =
    let n = at / 256 in
    let i = at % 256 in
    let xs = chunk_samples r.samples n in
    let left : 0 < (at + 1) % 256 = elim (cases_lt 0 ((at + 1) % 256)) [ inl l ↦ l | inr l ↦ absurd (within (omega arith)) ] in
    let chunk : (at + 1) / 256 ≡ n = omega arith in
    let index : (at + 1) % 256 + 1 ≡ i + 2 = omega arith in
    let inside : i + 1 < length xs = omega (arith, chunk_length r.samples n) in
    let one : 256 * n + i ≡ at = omega arith in
    let two : 256 * n + (i + 1) ≡ at + 1 = omega arith in
    let before : sample_at xs i ≡ sample_at r.samples at = in_chunk r.samples n i (omega arith) ∙ ap (sample_at r.samples) one in
    let after : sample_at xs (i + 1) ≡ sample_at r.samples (at + 1) = in_chunk r.samples n (i + 1) (omega arith) ∙ ap (sample_at r.samples) two in
    let end : length (chunk_words r.widths (take (i + 2) xs)) ≡ words_through r (at + 1) =
    ap (λ k. length (chunk_words r.widths (take k xs))) (sym index) ∙ ap (λ k. length (chunk_words r.widths (take ((at + 1) % 256 + 1) (chunk_samples r.samples k)))) (sym chunk) in
    let words_are : (sample_at xs i).words ≡ words = ap (λ s. s.words) before ∙ sym h.shown in
    subst (λ e. IsNextAt r.widths (chunk_words r.widths xs) words (sample_at r.samples (at + 1)) next e) end
    (subst (λ p. IsNextAt r.widths (chunk_words r.widths xs) words (sample_at r.samples (at + 1)) p (length (chunk_words r.widths (take (i + 2) xs)))) (sym h.read)
    (subst (λ s. IsNextAt r.widths (chunk_words r.widths xs) words s (length (chunk_words r.widths (take (i + 1) xs))) (length (chunk_words r.widths (take (i + 2) xs)))) after
    (subst (λ w. IsNextAt r.widths (chunk_words r.widths xs) w (sample_at xs (i + 1)) (length (chunk_words r.widths (take (i + 1) xs))) (length (chunk_words r.widths (take (i + 2) xs)))) words_are
    (next_at r.widths xs i inside (chunk_shaped r h.run n)))))

-- the same, of the chunk and the widths that the player reads
pub next_there : (r : Recording) (at : ℕ) (places words : List ℕ) (time next : ℕ) → IsStanding (let s : Standing = record { recording = r; at = at } in s) places words time next
    → at + 1 < length r.samples → (at + 1) % 256 ≢ 0 → (chunk ws : List ℕ) → chunk ≡ chunk_words r.widths (chunk_samples r.samples (at / 256)) → ws ≡ r.widths
    → IsNextAt ws chunk words (sample_at r.samples (at + 1)) next (words_through r (at + 1))
next_there r at places words time next h more within chunk ws is_chunk is_ws =
    subst (λ w. IsNextAt w chunk words (sample_at r.samples (at + 1)) next (words_through r (at + 1))) (sym is_ws)
    (subst (λ c. IsNextAt r.widths c words (sample_at r.samples (at + 1)) next (words_through r (at + 1))) (sym is_chunk) (next_of r at places words time next h more within))

pub advanced : (r : Recording) (at : ℕ) (places words : List ℕ) (time next : ℕ) → IsStanding (let s : Standing = record { recording = r; at = at } in s) places words time next
    → at + 1 < length r.samples → (at + 1) % 256 ≢ 0 → (chunk ws : List ℕ) → chunk ≡ chunk_words r.widths (chunk_samples r.samples (at / 256)) → ws ≡ r.widths
    → (words2 : List ℕ) (time2 end : ℕ) → words2 ≡ set_slots ws (get_or chunk (next + 4) 0) (drop (next + 5) chunk) words → ((t : ℕ) → time_at chunk next ≡ Some t → time2 ≡ t)
    → drop end chunk ≡ behind_slots ws (get_or chunk (next + 4) 0) (drop (next + 5) chunk) → end ≤ length chunk
    → IsStanding (let s : Standing = record { recording = r; at = at + 1 } in s) places words2 time2 end
advanced r at places words time next h more within chunk ws is_chunk is_ws words2 time2 end sets timed behind fits =
    let there = next_there r at places words time next h more within chunk ws is_chunk is_ws in
    record {
      run = h.run;
      there = more;
      placed = h.placed;
      shown = sets ∙ there.sets;
      timed = timed (sample_at r.samples (at + 1)).time there.time;
      read = there.ends end fits behind;
    }

pub slot_shown : (ws words : List ℕ) (slot place room : ℕ) → place ≡ place_of ws slot → room ≡ words_of_width (get_or ws slot 0)
    → take (place + room - place) (drop place words) ≡ slot_words ws words slot
slot_shown ws words slot place room is_place is_room =
    let long : place + room - place ≡ room = omega arith in
    ap (λ k. take k (drop place words)) (long ∙ is_room) ∙ ap (λ p. take (words_of_width (get_or ws slot 0)) (drop p words)) is_place

pub slot_fits : (s : Standing) (places words : List ℕ) (time next : ℕ) → IsStanding s places words time next → (slot place room d : ℕ) → slot < length s.recording.widths
    → place ≡ get_or places slot d → room ≡ words_of_width (get_or s.recording.widths slot 0)
    → (slot < length places) × (place ≡ place_of s.recording.widths slot) × (place + room ≤ length words)
slot_fits s places words time next h slot place room d known is_place is_room =
    let at : place ≡ place_of s.recording.widths slot = is_place ∙ ap (λ ps. get_or ps slot d) h.placed ∙ place_at s.recording.widths slot d known in
    let inside = slot_within s.recording.widths slot known in
    let long = standing_room s places words time next h in (
      omega (arith, ap length h.placed, places_length s.recording.widths),
      at,
      omega (arith, at, is_room, inside, long),
    )

-- a chunk's first record is read
pub first_read : (r : Recording) (n : ℕ) → IsRun r → n < div_ceil (length r.samples) 256
    → (1 ≤ length (chunk_samples r.samples n)) × (length (chunk_words r.widths (take 1 (chunk_samples r.samples n))) ≡ 4 + words_of_widths r.widths)
first_read r n h within =
    let some : 0 < length (chunk_samples r.samples n) = omega (arith, chunk_length r.samples n) in
    (some, (whole_at r.widths (chunk_samples r.samples n) some (chunk_shaped r h n)).read)
