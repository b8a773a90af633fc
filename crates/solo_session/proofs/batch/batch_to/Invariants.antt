use Rattle.std.proofs.Common.{◌≡◌}
use Rattle.solo_session.specs.Hits.{NoneHits}
use Rattle.solo_session.proofs.batch.batch_to.Given as goal

abbrev pub invariant-loop-k : goal.invariant-loop-k
invariant-loop-k g l = record {
  same : l.samples ≡ l.fn.samples;
  none : NoneHits (g.F.Followed.run l.fn.samples) l.kinds l.from l.k;
}
