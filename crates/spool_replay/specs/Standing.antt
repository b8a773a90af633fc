-- A player that stands at a sample of a recording.
use Rattle.std.specs.Prelude.{◌≡◌, ℕ, ◌+◌, ◌/◌, ◌%◌, ◌<◌, ◌≤◌, List, length, map, take, drop, slice_index}
use Rattle.std.specs.List.{range_with_len}
use Rattle.spool_format.specs.Records.{chunk_samples, chunk_words, place_of}
use Rattle.spool_format.specs.Reading.{AreSlots, sample_at}
use Rattle.spool_format.specs.Kept.{IsRun, Recording}

-- the recording, and the number of the sample
pub record Standing : Type 0 where
  pub recording : Recording
  pub at : ℕ

-- how many words the chunk of a sample has up to and including that sample's record
abbrev pub words_through : Recording → ℕ → ℕ
words_through r k = length (chunk_words r.widths (take (k % 256 + 1) (chunk_samples r.samples (k / 256))))

-- how many words the chunk of a sample has
abbrev pub words_of_chunk : Recording → ℕ → ℕ
words_of_chunk r k = length (chunk_words r.widths (chunk_samples r.samples (k / 256)))

-- where the words of each slot begin among those of all slots
abbrev pub places_of : List ℕ → List ℕ
places_of widths = map (place_of widths) (range_with_len 0 (length widths))

-- what a player keeps: the places of the slots, the words and the time of its sample, and where the record behind it begins
pub record IsStanding (s : Standing) (places words : List ℕ) (time next : ℕ) : Type 0 where
  pub run : IsRun s.recording
  pub there : s.at < length s.recording.samples
  pub placed : places ≡ places_of s.recording.widths
  pub shown : words ≡ (sample_at s.recording.samples s.at).words
  pub timed : time ≡ (sample_at s.recording.samples s.at).time
  pub read : next ≡ words_through s.recording s.at

-- a record of what changed begins at a place of a chunk
pub record IsChangeAt (widths chunk : List ℕ) (place : ℕ) : Type 0 where
  pub head : place + 5 ≤ length chunk
  pub listed : AreSlots widths (slice_index chunk (place + 4)) (drop (place + 5) chunk)
