-- The chunks of a recording that grows.
use Rattle.std.specs.Prelude.{◌≡◌, ℕ, ◌-◌, ◌%◌, ◌<◌, ◌==◌, List, [], ◌∷◌, ◌++◌, length, take, if◌then◌else◌}
use Rattle.sim_base.specs.Shape.{words_of_widths}
use Rattle.spool_format.specs.declared.sample.Sample.{Sample}
use Rattle.spool_format.specs.Records.{IsNext}
use Rattle.spool_format.specs.Reading.{sample_at}
use Rattle.spool_format.specs.Kept.{AreChunksOf, Recording}

-- the full chunks and the one that grows, once that one is moved where it has 256 samples, of so many in all
abbrev pub full_after : ℕ → List (List ℕ) → List ℕ → List (List ℕ)
full_after count full growing = if count % 256 == 0 then full ++ growing ∷ [] else full

abbrev pub growing_after : ℕ → List ℕ → List ℕ
growing_after count growing = if count % 256 == 0 then [] else growing

-- what a spool keeps: the chunks, their number of samples, and the words and the time of the last sample
pub record IsGrowing (r : Recording) (full : List (List ℕ)) (growing : List ℕ) (count : ℕ) (last : List ℕ) (time : ℕ) : Type 0 where
  pub kept : AreChunksOf r full growing
  pub counted : count ≡ length r.samples
  pub room : length last ≡ words_of_widths r.widths
  pub shown : 0 < length r.samples → last ≡ (sample_at r.samples (length r.samples - 1)).words
  pub timed : 0 < length r.samples → time ≡ (sample_at r.samples (length r.samples - 1)).time

-- samples that may come next, one after another
abbrev pub AreNext : Recording → List Sample → Type 0
AreNext r samples = (k : ℕ) → k < length samples → IsNext r.widths (r.samples ++ take k samples) (sample_at samples k)
