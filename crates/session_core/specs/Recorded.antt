-- Runs that show the same at the samples that are recorded.
use Rattle.std.specs.Prelude.{◌≡◌, ℕ, ◌<◌}
use Rattle.circuit.specs.Rounds.{Run}
use Rattle.circuit.specs.Shown.{shown}
use Rattle.session_core.specs.Replies.{time_of}

-- two runs of one circuit, with as many samples at the same times, that show the same at each of the first n samples
pub record AreAlike (n : ℕ) (one other : Run) : Type 0 where
  pub circuit : one.circuit ≡ other.circuit
  pub count : one.count ≡ other.count
  pub times : (k : ℕ) → time_of one k ≡ time_of other k
  pub values : (k slot : ℕ) → k < n → shown one k slot ≡ shown other k slot
