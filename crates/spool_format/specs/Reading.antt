-- The samples that the words of a recording stand for: record after record, a whole one gives the words of all slots, and one of
-- what changed sets those that it lists in the words of the sample before.
use Rattle.std.specs.Prelude.{ℕ, zero, suc, ◌+◌, ◌*◌, ◌^◌, ◌==◌, ◌≤◌, ◌<◌, List, [], ◌∷◌, ◌++◌, length, take, drop, get_or, slice_index, if◌then◌else◌}
use Rattle.sim_base.specs.Shape.{words_of_width, words_of_widths}
use Rattle.spool_format.specs.declared.sample.Sample.{Sample}
use Rattle.spool_format.specs.Records.{place_of}

-- the sample at a place, and one of no words where there is none
abbrev pub sample_at : List Sample → ℕ → Sample
sample_at samples k = get_or samples k (record { number = 0; time = 0; words = [] })

-- words in which those from a place on are others
abbrev pub written_at : List ℕ → ℕ → List ℕ → List ℕ
written_at words place new = take place words ++ (new ++ drop (place + length new) words)

-- n slots stand in a text, each as its number and its words
unfoldable pub AreSlots : List ℕ → ℕ → List ℕ → Type 0
AreSlots widths zero text = Unit {0}
AreSlots widths (suc n) text =
    (slice_index text 0 < length widths) × (1 + words_of_width (slice_index widths (slice_index text 0)) ≤ length text)
    × AreSlots widths n (drop (1 + words_of_width (slice_index widths (slice_index text 0))) text)

-- the words of all slots once n slots of a text are set in them
unfoldable pub set_slots : List ℕ → ℕ → List ℕ → List ℕ → List ℕ
set_slots widths zero text words = words
set_slots widths (suc n) text words =
    let room = words_of_width (slice_index widths (slice_index text 0)) in
    set_slots widths n (drop (1 + room) text) (written_at words (place_of widths (slice_index text 0)) (take room (drop 1 text)))

-- what stands behind n slots of a text
unfoldable pub behind_slots : List ℕ → ℕ → List ℕ → List ℕ
behind_slots widths zero text = text
behind_slots widths (suc n) text = behind_slots widths n (drop (1 + words_of_width (slice_index widths (slice_index text 0))) text)

-- the time that the three words behind the first of a record stand for
abbrev pub time_in : List ℕ → ℕ
time_in text = slice_index text 1 + slice_index text 2 * 2 ^ 32 + slice_index text 3 * 2 ^ 64

-- the sample of the record at the head of a text, by the words of the sample before
abbrev pub sample_in : List ℕ → ℕ → List ℕ → List ℕ → Sample
sample_in widths number before text = record {
  number = number;
  time = time_in text;
  words = if slice_index text 0 == 0 then take (words_of_widths widths) (drop 4 text) else set_slots widths (slice_index text 4) (drop 5 text) before;
}

-- what stands behind that record
abbrev pub behind : List ℕ → List ℕ → List ℕ
behind widths text =
    if slice_index text 0 == 0 then drop (4 + words_of_widths widths) text else behind_slots widths (slice_index text 4) (drop 5 text)

-- the samples of a text's records, at most so many, numbered from a number on
unfoldable pub samples_in : List ℕ → ℕ → ℕ → List ℕ → List ℕ → List Sample
samples_in widths zero number before text = []
samples_in widths (suc most) number before [] = []
samples_in widths (suc most) number before (tag ∷ text) =
    let s = sample_in widths number before (tag ∷ text) in
    s ∷ samples_in widths most (number + 1) s.words (behind widths (tag ∷ text))

-- the samples of a chunk, which has fewer records than words
abbrev pub samples_of_chunk : List ℕ → ℕ → List ℕ → List Sample
samples_of_chunk widths number words = samples_in widths (length words) number [] words

-- the samples of chunks, of which each but the last has 256
unfoldable pub samples_from : List ℕ → ℕ → List (List ℕ) → List Sample
samples_from widths number [] = []
samples_from widths number (words ∷ chunks) = samples_of_chunk widths number words ++ samples_from widths (number + 256) chunks
