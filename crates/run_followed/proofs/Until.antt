-- How many samples come at a time or before it.
use Rattle.std.proofs.Common.{◌≡◌, ℕ, zero, suc, ◌+◌, refl, ap}
use Rattle.std.specs.Prelude.{nat_le, if◌then◌else◌}
use Rattle.circuit.specs.Rounds.{Row}
use Rattle.stimulus_blocks.specs.Courses.{samples_until}
use Rattle.hall_core.specs.Samples.{samples_until as followed_until}

pub same_until : (row : ℕ → Row) (count time : ℕ) → samples_until row count time ≡ followed_until row count time
unfolding samples_until followed_until
same_until row zero time = refl
same_until row (suc k) time = ap (λ n. n + (if nat_le (row k).time time then 1 else 0)) (same_until row k time)
