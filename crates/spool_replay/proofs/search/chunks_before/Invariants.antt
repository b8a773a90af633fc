use Rattle.std.proofs.Common.{ℕ, ◌-◌, ◌*◌, ◌^◌, ◌<◌, ◌≤◌, length}
use Rattle.std.specs.Int.{div_ceil}
use Rattle.spool_format.specs.Reading.{sample_at}
use Rattle.spool_replay.proofs.Searched.{IsHalved}
use Rattle.spool_replay.proofs.search.chunks_before.Given as goal

abbrev pub invariant-loop-low : goal.invariant-loop-low
invariant-loop-low g l = record {
  ordered : l.low ≤ l.high;
  within : l.high ≤ div_ceil (length l.view.samples) 256;
  before : 0 < l.low → (sample_at l.view.samples (256 * (l.low - 1))).time < l.t;
  behind : l.high < div_ceil (length l.view.samples) 256 → l.t ≤ (sample_at l.view.samples (256 * l.high)).time;
  took : l.fn.steps ≤ l.steps;
  halved : (p : ℕ) → div_ceil (length l.view.samples) 256 < 2 ^ p → IsHalved p (l.steps - l.fn.steps) (l.high - l.low);
}

abbrev pub decreases-loop-low : goal.decreases-loop-low
decreases-loop-low g l = l.high - l.low
