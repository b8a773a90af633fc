use Rattle.std.proofs.Common.{arith}
use Rattle.std.proofs.lemmas.Bool.{not-true}
use Rattle.solo_session.proofs.Batching.{none_asked}
use Rattle.solo_session.proofs.batch.batch_to.Goals as goal

pub returns-then-not-kinds-2-clause-batch : goal.returns-then-not-kinds-2-clause-batch
returns-then-not-kinds-2-clause-batch g c = (
  omega (arith, c.requires.order),
  λ k low high. none_asked (g.F.Followed.run c.args.samples.now) c.args.kinds k (not-true _ c.if-not-kinds.true) (not-true _ c.if-not-kinds-2.true),
)
