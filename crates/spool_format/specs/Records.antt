-- The words of a recording. A slot takes as many words of 32 bits as its width asks for, the least first, with unused high bits 0.
use Rattle.std.specs.Prelude.{◌≡◌, ℕ, ◌+◌, ◌*◌, ◌/◌, ◌%◌, ◌^◌, ◌<◌, ◌≤◌, List, [], ◌∷◌, ◌++◌, length, take, drop, map, slice_index, Bool, not}
use Rattle.std.specs.List.{filter, flat_map, range_with_len, All}
use Rattle.std.specs.Int.{div_ceil}
use Rattle.std.specs.Str.{bytes_eq}
use Rattle.sim_base.specs.Shape.{words_of_width, words_of_widths}
use Rattle.sim_base.specs.TimeText.{largest_time}
use Rattle.spool_format.specs.declared.sample.Sample.{Sample}

-- how many words stand before those of a slot
abbrev pub place_of : List ℕ → ℕ → ℕ
place_of widths n = words_of_widths (take n widths)

-- the words of a slot, among those of all slots
abbrev pub slot_words : List ℕ → List ℕ → ℕ → List ℕ
slot_words widths words n = take (words_of_width (slice_index widths n)) (drop (place_of widths n) words)

-- the number that words of 32 bits stand for, the least first
unfoldable pub slot_number : List ℕ → ℕ
slot_number [] = 0
slot_number (w ∷ ws) = slot_number ws * 2 ^ 32 + w

-- each of the first n slots shows a number below 2 to its width
abbrev pub AreBelow : List ℕ → List ℕ → ℕ → Type 0
AreBelow widths words count = (n : ℕ) → n < count → slot_number (slot_words widths words n) < 2 ^ slice_index widths n

-- a sample of slots of these widths: its time is one, it has the words of all slots, and each shows a number below 2 to its width
pub record IsSampleOf (widths : List ℕ) (s : Sample) : Type 0 where
  pub time : s.time ≤ largest_time
  pub room : length s.words ≡ words_of_widths widths
  pub below : AreBelow widths s.words (length widths)

-- a time: three words of its femtoseconds, the least first
abbrev pub time_words : ℕ → List ℕ
time_words t = t % 2 ^ 32 ∷ t / 2 ^ 32 % 2 ^ 32 ∷ t / 2 ^ 64 % 2 ^ 32 ∷ []

-- a whole record: 0, the time, and the words of all slots
abbrev pub whole_record : Sample → List ℕ
whole_record s = 0 ∷ (time_words s.time ++ s.words)

-- a slot's words in one sample are not those in another
abbrev pub differs : List ℕ → List ℕ → List ℕ → ℕ → Bool
differs widths old new n = not (bytes_eq (slot_words widths old n) (slot_words widths new n))

-- which of n slots, from a slot on, differ, in rising order
abbrev pub changed_among : List ℕ → List ℕ → List ℕ → ℕ → ℕ → List ℕ
changed_among widths old new from n = filter (differs widths old new) (range_with_len from n)

-- the slots whose words differ, in rising order
abbrev pub changed_slots : List ℕ → List ℕ → List ℕ → List ℕ
changed_slots widths old new = changed_among widths old new 0 (length widths)

-- for each of these slots its number and its words
unfoldable pub slots_with_words : List ℕ → List ℕ → List ℕ → List ℕ
slots_with_words widths words slots = flat_map (λ n. n ∷ slot_words widths words n) slots

-- a record of what changed: 1, the time, how many slots differ from the sample before, and these slots with their words
unfoldable pub change_record : List ℕ → Sample → Sample → List ℕ
change_record widths before s =
    let changed = changed_slots widths before.words s.words in
    1 ∷ (time_words s.time ++ length changed ∷ slots_with_words widths s.words changed)

-- the records of what changed from one sample to the next, in samples that follow one
unfoldable pub change_records : List ℕ → Sample → List Sample → List ℕ
change_records widths before [] = []
change_records widths before (s ∷ rest) = change_record widths before s ++ change_records widths s rest

-- the words of a chunk: a whole record, then records of what changed
unfoldable pub chunk_words : List ℕ → List Sample → List ℕ
chunk_words widths [] = []
chunk_words widths (s ∷ rest) = whole_record s ++ change_records widths s rest

-- the samples of a chunk: each 256 begin one
abbrev pub chunk_samples : List Sample → ℕ → List Sample
chunk_samples samples chunk = take 256 (drop (256 * chunk) samples)

-- the words of a recording: those of all its chunks
abbrev pub recording_words : List ℕ → List Sample → List ℕ
recording_words widths samples =
    flat_map (λ chunk. chunk_words widths (chunk_samples samples chunk)) (range_with_len 0 (div_ceil (length samples) 256))

abbrev pub times : List Sample → List ℕ
times samples = map (λ s. s.time) samples

-- words that record samples of slots of these widths: the samples are numbered from 0 on, and their times rise
pub record Records (widths words : List ℕ) (samples : List Sample) : Type 0 where
  pub text : words ≡ recording_words widths samples
  pub shaped : All (IsSampleOf widths) samples
  pub numbered : map (λ s. s.number) samples ≡ range_with_len 0 (length samples)
  pub rising : (k : ℕ) → k + 1 < length samples → slice_index (times samples) k < slice_index (times samples) (k + 1)

-- a time later than that of the last sample
abbrev pub IsLater : List Sample → ℕ → Type 0
IsLater samples time = (k : ℕ) → k + 1 ≡ length samples → slice_index (times samples) k < time

-- a sample that may come next: it has the next number, and is later than the last one
pub record IsNext (widths : List ℕ) (samples : List Sample) (s : Sample) : Type 0 where
  pub shaped : IsSampleOf widths s
  pub number : s.number ≡ length samples
  pub later : IsLater samples s.time
