-- A recording kept in chunks: the full ones, of 256 samples each, and one that grows, which has no words as long as it has no samples.
use Rattle.std.specs.Prelude.{◌≡◌, ℕ, ◌+◌, ◌-◌, ◌*◌, ◌/◌, ◌%◌, ◌<◌, ◌==◌, List, [], ◌∷◌, ◌++◌, length, map, drop, slice_index, if◌then◌else◌}
use Rattle.std.specs.List.{range_with_len, All}
use Rattle.spool_format.specs.declared.sample.Sample.{Sample}
use Rattle.spool_format.specs.Records.{IsSampleOf, change_record, chunk_samples, chunk_words, times, whole_record}
use Rattle.spool_format.specs.Reading.{sample_at, samples_from}

-- what was recorded: the widths of the slots, and the samples
pub record Recording : Type 0 where
  pub widths : List ℕ
  pub samples : List Sample

-- the recording that chunks stand for
abbrev pub recording_of : List ℕ → List (List ℕ) → List ℕ → Recording
recording_of widths full growing = record { widths = widths; samples = samples_from widths 0 (full ++ growing ∷ []) }

-- the words of the full chunks, and those of the samples behind them
abbrev pub full_chunks : List ℕ → List Sample → List (List ℕ)
full_chunks widths samples = map (λ chunk. chunk_words widths (chunk_samples samples chunk)) (range_with_len 0 (length samples / 256))

abbrev pub growing_chunk : List ℕ → List Sample → List ℕ
growing_chunk widths samples = chunk_words widths (drop (256 * (length samples / 256)) samples)

-- samples that can be recorded: all have the words of the slots, they are numbered from 0 on, and their times rise
pub record IsRun (r : Recording) : Type 0 where
  pub shaped : All (IsSampleOf r.widths) r.samples
  pub numbered : map (λ s. s.number) r.samples ≡ range_with_len 0 (length r.samples)
  pub rising : (k : ℕ) → k + 1 < length r.samples → slice_index (times r.samples) k < slice_index (times r.samples) (k + 1)

-- chunks that keep a recording
pub record AreChunksOf (r : Recording) (full : List (List ℕ)) (growing : List ℕ) : Type 0 where
  pub each : full ≡ full_chunks r.widths r.samples
  pub last : growing ≡ growing_chunk r.widths r.samples
  pub run : IsRun r

-- the record of the sample that comes next: a whole one at the head of a chunk, else that of what changed since the last one
abbrev pub next_record : Recording → Sample → List ℕ
next_record r s =
    if length r.samples % 256 == 0 then whole_record s else change_record r.widths (sample_at r.samples (length r.samples - 1)) s

-- with one sample more
abbrev pub with_sample : Recording → Sample → Recording
with_sample r s = record { widths = r.widths; samples = r.samples ++ s ∷ [] }
