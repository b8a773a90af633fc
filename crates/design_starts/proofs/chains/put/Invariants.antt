use Rattle.std.proofs.Common.{◌≡◌, ℕ, ◌<◌, ◌⊎◌, length, Some}
use Rattle.std.specs.Prelude.{slice_get}
use Rattle.design_starts.specs.Chains.{IsPassed}
use Rattle.design_starts.proofs.chains.put.Given as goal

abbrev pub invariant-loop-place : goal.invariant-loop-place
invariant-loop-place l = record {
  long : length l.table.items ≡ length l.fn.table.items;
  passed : (k place : ℕ) → k < l.place-index → slice_get l.path k ≡ Some place → slice_get l.table.items place ≡ Some l.found;
  others : (place : ℕ) → (IsPassed l.path place × (slice_get l.table.items place ≡ Some l.found)) ⊎ (slice_get l.table.items place ≡ slice_get l.fn.table.items place);
}
