use Rattle.std.proofs.Common.{◌≡◌, ◌+◌, ◌-◌, ◌/◌, ◌≤◌, length, ◌<◌}
use Rattle.spool_replay.specs.Standing.{words_through}
use Rattle.spool_replay.proofs.player.Player.seek.Given as goal

abbrev pub invariant-loop-self : goal.invariant-loop-self
invariant-loop-self g l = record {
  recording : l.self.recording ≡ l.fn.self.recording;
  before : l.self.at ≤ l.k;
  chunk : l.self.at / 256 ≡ l.k / 256;
  there : l.k < length l.self.recording.samples;
  steps : l.steps ≤ l.fn.steps + words_through l.fn.self.recording l.self.at;
}

abbrev pub decreases-loop-self : goal.decreases-loop-self
decreases-loop-self g l = l.k - l.self.at
