use Rattle.std.proofs.Common.{◌≡◌, ◌++◌, ℕ, List}
use Rattle.hall_core.specs.Facts.{facts_of}
use Rattle.hall_core.specs.Replay.{replay}
use Rattle.solo_session.specs.Pace.{batches}
use Rattle.solo_session.specs.Session.{HasSaid, IsServing, conversation}
use Rattle.solo_session.proofs.session.Session.run_out.Given as goal

abbrev pub invariant-loop-batch : goal.invariant-loop-batch
invariant-loop-batch g l = record {
  serving : IsServing (g.F.Followed.run l.self.samples) (replay l.self.history);
  session : l.self ≡ record l.fn.self { history = batches (facts_of (g.F.Followed.run l.fn.self.samples)) l._batch l.fn.self.history };
  served : (packets : List (List ℕ)) (sent : List ℕ) → HasSaid packets (conversation g.F.Followed.run l.fn.self) (sent ++ l.fn.text.items) → HasSaid packets (conversation g.F.Followed.run l.self) (sent ++ l.text.items);
}
