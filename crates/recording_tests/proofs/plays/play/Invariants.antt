use Rattle.std.proofs.Common.{◌≡◌, length}
use Rattle.recording_tests.proofs.plays.play.Given as goal

abbrev pub invariant-loop-n : goal.invariant-loop-n
invariant-loop-n g l = l.slots ≡ length l.player.recording.widths
