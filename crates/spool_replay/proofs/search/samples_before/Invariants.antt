use Rattle.std.proofs.Common.{◌≡◌, ◌+◌, ◌-◌, ◌*◌, ◌<◌, ◌≤◌, length, take}
use Rattle.spool_format.specs.Reading.{sample_at}
use Rattle.spool_format.specs.Records.{chunk_samples, chunk_words}
use Rattle.spool_replay.proofs.search.samples_before.Given as goal

abbrev pub invariant-loop-place : goal.invariant-loop-place
invariant-loop-place g l = record {
  some : 0 < l.found;
  within : l.found ≤ length (chunk_samples l.view.samples l.n);
  place : l.place ≡ length (chunk_words l.view.widths (take l.found (chunk_samples l.view.samples l.n)));
  before : (sample_at l.view.samples (256 * l.n + (l.found - 1))).time < l.t;
  steps : l.steps ≤ l.fn.steps + l.place;
}

abbrev pub decreases-loop-place : goal.decreases-loop-place
decreases-loop-place g l = length l.chunk - l.place
