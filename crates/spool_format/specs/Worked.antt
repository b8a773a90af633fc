-- Samples that are recorded by hand.
use Rattle.std.specs.Prelude.{ℕ, List, [], ◌∷◌}
use Rattle.spool_format.specs.declared.sample.Sample.{Sample}

abbrev pub sample_of : ℕ → ℕ → List ℕ → Sample
sample_of number time words = record { number = number; time = time; words = words }

-- a clock of 1 bit and a counter of 8 that counts its rising edges, each 5 nanoseconds
abbrev pub counter : List Sample
counter = sample_of 0 0 (0 ∷ 0 ∷ []) ∷ sample_of 1 5000000 (1 ∷ 1 ∷ []) ∷ sample_of 2 10000000 (0 ∷ 1 ∷ []) ∷ sample_of 3 15000000 (1 ∷ 2 ∷ []) ∷ []
