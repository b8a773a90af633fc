-- Samples up to the first at which a diagnostic fires.
use Rattle.std.specs.Prelude.{◌≡◌, ℕ, ◌+◌, ◌-◌, ◌<◌, ◌≤◌, Bool, true, false}
use Rattle.sim_base.specs.declared.kinds.Kinds.{Kinds}
use Rattle.circuit.specs.Rounds.{Run}
use Rattle.circuit.specs.Shown.{hits}

-- at none of the samples from one on, up to another, a diagnostic of these kinds fires
abbrev pub NoneHits : Run → Kinds → ℕ → ℕ → Type 0
NoneHits run kinds from end = (k : ℕ) → from ≤ k → k < end → hits run k kinds ≡ false

-- so many of them are all of them, and none hits; or, where the flag says so, those up to the first that hits
abbrev pub IsUpToHit : Run → Kinds → ℕ → ℕ → ℕ → Bool → Type 0
IsUpToHit run kinds from end m false = (from + m ≡ end) × NoneHits run kinds from end
IsUpToHit run kinds from end m true = (1 ≤ m) × (from + m ≤ end) × NoneHits run kinds from (from + m - 1) × (hits run (from + m - 1) kinds ≡ true)
