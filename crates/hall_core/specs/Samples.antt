-- Samples by their times.
use Rattle.std.specs.Prelude.{ℕ, zero, suc, ◌+◌, nat_le, if◌then◌else◌}
use Rattle.circuit.specs.Rounds.{Row}

-- of the first so many samples, those at or before a time
unfoldable pub samples_until : (ℕ → Row) → ℕ → ℕ → ℕ
samples_until row zero time = 0
samples_until row (suc k) time = samples_until row k time + (if nat_le (row k).time time then 1 else 0)
