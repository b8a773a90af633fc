use Rattle.std.proofs.Common.{◌≡◌, length}
use Rattle.hall_core.specs.Replay.{replay}
use Rattle.solo_session.specs.Session.{IsServedSoFar, IsServing, conversation}
use Rattle.solo_session.proofs.session.Session.serve_packets.Given as goal

abbrev pub invariant-loop-packet : goal.invariant-loop-packet
invariant-loop-packet g l = record {
  serving : IsServing (g.F.Followed.run l.self.samples) (replay l.self.history);
  samples : l.self.samples ≡ l.fn.self.samples;
  so_far : IsServedSoFar l.fn.framer l.framer (conversation g.F.Followed.run l.fn.self) (conversation g.F.Followed.run l.self) l.fn.text.items l.text.items;
}

abbrev pub decreases-loop-packet : goal.decreases-loop-packet
decreases-loop-packet g l = length l.framer
