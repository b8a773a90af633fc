-- One slot of a list of slots, and those behind it.
use Rattle.std.proofs.Common.{◌≡◌, ℕ, suc, ◌+◌, ◌<◌, ◌≤◌, List, length, take, drop, get_or, replicate, refl, sym, ap, ◌∙◌, subst, arith}
use Rattle.std.proofs.lemmas.List.{length-drop, length-replicate, get_or-drop, drop-drop}
use Rattle.std.proofs.lemmas.List.FromFn.{get_or-map-range_with_len, length-map-range_with_len}
use Rattle.sim_base.specs.Shape.{words_of_width, words_of_widths}
use Rattle.spool_format.specs.Records.{place_of}
use Rattle.spool_format.specs.Reading.{AreSlots, behind_slots, set_slots, written_at}
use Rattle.spool_format.proofs.Placed.{slot_within}
use Rattle.spool_replay.specs.Standing.{places_of}

pub places_length : (ws : List ℕ) → length (places_of ws) ≡ length ws
places_length ws = length-map-range_with_len (place_of ws) 0 (length ws)

pub place_at : (ws : List ℕ) (n d : ℕ) → n < length ws → get_or (places_of ws) n d ≡ place_of ws n
place_at ws n d h = get_or-map-range_with_len (place_of ws) 0 (length ws) n n d h (omega arith)

first_listed : (ws text : List ℕ) → AreSlots ws 1 text
    → (get_or text 0 0 < length ws) × (1 + words_of_width (get_or ws (get_or text 0 0) 0) ≤ length text)
unfolding AreSlots
first_listed ws text h = (h.0, h.1)

first_set : (ws text words : List ℕ)
    → set_slots ws 1 text words ≡ written_at words (place_of ws (get_or text 0 0)) (take (words_of_width (get_or ws (get_or text 0 0) 0)) (drop 1 text))
unfolding set_slots
first_set ws text words = refl

first_behind : (ws text : List ℕ) → behind_slots ws 1 text ≡ drop (1 + words_of_width (get_or ws (get_or text 0 0) 0)) text
unfolding behind_slots
first_behind ws text = refl

-- what reading the slot that is listed at a place of a chunk asks for, and what it does
pub record IsSlotAt (ws chunk places words : List ℕ) (at slot room place : ℕ) : Type 0 where
  pub there : at < length chunk
  pub known : slot < length ws
  pub placed : slot < length places
  pub fits : at + 1 + room ≤ length chunk
  pub inside : place + room ≤ length words
  pub sets : set_slots ws 1 (drop at chunk) words ≡ written_at words place (take room (drop (at + 1) chunk))
  pub behind : behind_slots ws 1 (drop at chunk) ≡ drop (at + 1 + room) chunk

pub slot_at : (ws chunk places words : List ℕ) (at : ℕ) → AreSlots ws 1 (drop at chunk) → at ≤ length chunk → places ≡ places_of ws → length words ≡ words_of_widths ws
    → IsSlotAt ws chunk places words at (get_or chunk at 0) (words_of_width (get_or ws (get_or chunk at 0) 0)) (get_or places (get_or chunk at 0) 0)
slot_at ws chunk places words at listed within placed long =
    let slot = get_or chunk at 0 in
    let room = words_of_width (get_or ws (get_or chunk at 0) 0) in
    let text = drop at chunk in
    let at_head : at + 0 ≡ at = omega arith in
    let head : get_or text 0 0 ≡ slot = get_or-drop at chunk 0 0 ∙ ap (λ k. get_or chunk k 0) at_head in
    let first = first_listed ws text listed in
    let known : slot < length ws = omega (arith, first.0, head) in
    let rooms : words_of_width (get_or ws (get_or text 0 0) 0) ≡ room = ap (λ s. words_of_width (get_or ws s 0)) head in
    let enough : 1 + room ≤ length text = omega (arith, first.1, rooms) in
    let left = length-drop at chunk in
    let place : get_or places slot 0 ≡ place_of ws slot = ap (λ ps. get_or ps slot 0) placed ∙ place_at ws slot 0 known in
    let inside = slot_within ws slot known in
    let further : at + (1 + room) ≡ at + 1 + room = omega arith in
    record {
      there = omega (arith, left, enough);
      known = known;
      placed = omega (arith, ap length placed, places_length ws, known);
      fits = omega (arith, left, enough);
      inside = omega (arith, place, inside, long);
      sets = first_set ws text words ∙ ap (λ s. written_at words (place_of ws s) (take (words_of_width (get_or ws s 0)) (drop 1 text))) head
          ∙ ap (λ p. written_at words p (take room (drop 1 text))) (sym place) ∙ ap (λ t. written_at words (get_or places slot 0) (take room t)) (drop-drop 1 at chunk);
      behind = first_behind ws text ∙ ap (λ k. drop (1 + k) text) rooms ∙ drop-drop (1 + room) at chunk ∙ ap (λ k. drop k chunk) further;
    }

-- ---- slot after slot

rest_listed : (ws text : List ℕ) (n : ℕ) → AreSlots ws (suc n) text → AreSlots ws 1 text × AreSlots ws n (behind_slots ws 1 text)
unfolding AreSlots behind_slots
rest_listed ws text n h = ((h.0, h.1, tt), h.2)

rest_set : (ws text words : List ℕ) (n : ℕ) → set_slots ws (suc n) text words ≡ set_slots ws n (behind_slots ws 1 text) (set_slots ws 1 text words)
unfolding set_slots behind_slots
rest_set ws text words n = refl

rest_behind : (ws text : List ℕ) (n : ℕ) → behind_slots ws (suc n) text ≡ behind_slots ws n (behind_slots ws 1 text)
unfolding behind_slots
rest_behind ws text n = refl

none_set : (ws text words : List ℕ) → set_slots ws 0 text words ≡ words
unfolding set_slots
none_set ws text words = refl

none_behind : (ws text : List ℕ) → behind_slots ws 0 text ≡ text
unfolding behind_slots
none_behind ws text = refl

-- so many slots of a list are still to be read at a place: they do with the words so far what all do with those at first
pub record IsReading (ws chunk first words : List ℕ) (count left start at : ℕ) : Type 0 where
  pub listed : AreSlots ws left (drop at chunk)
  pub sets : set_slots ws left (drop at chunk) words ≡ set_slots ws count (drop start chunk) first
  pub behind : behind_slots ws left (drop at chunk) ≡ behind_slots ws count (drop start chunk)
  pub within : at ≤ length chunk
  pub room : length words ≡ words_of_widths ws

pub reading_next : {ws chunk first words : List ℕ} {count start at : ℕ} (left more : ℕ) → more ≡ left + 1 → IsReading ws chunk first words count more start at → AreSlots ws 1 (drop at chunk)
reading_next {ws} {chunk} {first} {words} {count} {start} {at} left more is h =
    let e : more ≡ suc left = omega arith in
    (rest_listed ws (drop at chunk) left (subst (λ m. AreSlots ws m (drop at chunk)) e h.listed)).0

pub read_one : {ws chunk first words : List ℕ} {count start at : ℕ} (left more at2 : ℕ) (words2 : List ℕ) → more ≡ left + 1 → IsReading ws chunk first words count more start at
    → words2 ≡ set_slots ws 1 (drop at chunk) words → drop at2 chunk ≡ behind_slots ws 1 (drop at chunk) → at2 ≤ length chunk → length words2 ≡ length words
    → IsReading ws chunk first words2 count left start at2
read_one {ws} {chunk} {first} {words} {count} {start} {at} left more at2 words2 is h sets behind within room =
    let e : more ≡ suc left = omega arith in
    let text = drop at chunk in
    record {
      listed = subst (AreSlots ws left) (sym behind) (rest_listed ws text left (subst (λ m. AreSlots ws m text) e h.listed)).1;
      sets = ap (λ t. set_slots ws left t words2) behind ∙ ap (set_slots ws left (behind_slots ws 1 text)) sets ∙ sym (rest_set ws text words left)
          ∙ ap (λ m. set_slots ws m text words) (sym e) ∙ h.sets;
      behind = ap (behind_slots ws left) behind ∙ sym (rest_behind ws text left) ∙ ap (λ m. behind_slots ws m text) (sym e) ∙ h.behind;
      within = within;
      room = room ∙ h.room;
    }

pub read_all : {ws chunk first words : List ℕ} {count start at : ℕ} (left : ℕ) → left ≡ 0 → IsReading ws chunk first words count left start at
    → (words ≡ set_slots ws count (drop start chunk) first) × (drop at chunk ≡ behind_slots ws count (drop start chunk))
read_all {ws} {chunk} {first} {words} {count} {start} {at} left is h = (
  sym (none_set ws (drop at chunk) words) ∙ ap (λ m. set_slots ws m (drop at chunk) words) (sym is) ∙ h.sets,
  sym (none_behind ws (drop at chunk)) ∙ ap (λ m. behind_slots ws m (drop at chunk)) (sym is) ∙ h.behind,
)

-- ---- slots that are passed

pub record IsPassing (ws chunk : List ℕ) (count left start at : ℕ) : Type 0 where
  pub listed : AreSlots ws left (drop at chunk)
  pub behind : behind_slots ws left (drop at chunk) ≡ behind_slots ws count (drop start chunk)
  pub within : at ≤ length chunk

pub pass_next : {ws chunk : List ℕ} {count start at : ℕ} (left more : ℕ) → more ≡ left + 1 → IsPassing ws chunk count more start at → AreSlots ws 1 (drop at chunk)
pass_next {ws} {chunk} {count} {start} {at} left more is h =
    let e : more ≡ suc left = omega arith in
    (rest_listed ws (drop at chunk) left (subst (λ m. AreSlots ws m (drop at chunk)) e h.listed)).0

pub pass_one : {ws chunk : List ℕ} {count start at : ℕ} (left more at2 : ℕ) → more ≡ left + 1 → IsPassing ws chunk count more start at
    → drop at2 chunk ≡ behind_slots ws 1 (drop at chunk) → at2 ≤ length chunk → IsPassing ws chunk count left start at2
pass_one {ws} {chunk} {count} {start} {at} left more at2 is h behind within =
    let e : more ≡ suc left = omega arith in
    let text = drop at chunk in
    record {
      listed = subst (AreSlots ws left) (sym behind) (rest_listed ws text left (subst (λ m. AreSlots ws m text) e h.listed)).1;
      behind = ap (behind_slots ws left) behind ∙ sym (rest_behind ws text left) ∙ ap (λ m. behind_slots ws m text) (sym e) ∙ h.behind;
      within = within;
    }

pub pass_all : {ws chunk : List ℕ} {count start at : ℕ} (left : ℕ) → left ≡ 0 → IsPassing ws chunk count left start at
    → drop at chunk ≡ behind_slots ws count (drop start chunk)
pass_all {ws} {chunk} {count} {start} {at} left is h =
    sym (none_behind ws (drop at chunk)) ∙ ap (λ m. behind_slots ws m (drop at chunk)) (sym is) ∙ h.behind

-- what passing the slot at a place asks for, and what it does
pub record IsPassedAt (ws chunk : List ℕ) (at slot room : ℕ) : Type 0 where
  pub there : at < length chunk
  pub known : slot < length ws
  pub fits : at + 1 + room ≤ length chunk
  pub behind : behind_slots ws 1 (drop at chunk) ≡ drop (at + 1 + room) chunk

pub passed_at : (ws chunk : List ℕ) (at : ℕ) → AreSlots ws 1 (drop at chunk) → at ≤ length chunk
    → IsPassedAt ws chunk at (get_or chunk at 0) (words_of_width (get_or ws (get_or chunk at 0) 0))
passed_at ws chunk at listed within =
    let zeros = replicate (words_of_widths ws) 0 in
    let one = slot_at ws chunk (places_of ws) zeros at listed within refl (length-replicate (words_of_widths ws) 0) in
    record { there = one.there; known = one.known; fits = one.fits; behind = one.behind }
