use Rattle.std.proofs.Common.{ap, refl}
use Rattle.solo_session.specs.Pace.{batches}
use Rattle.solo_session.specs.Session.{conversation}
use Rattle.solo_session.proofs.Rounds.{batches_go, recorded_said, stopped_said}
use Rattle.solo_session.proofs.session.Session.run_out.Goals as goal

pub loop-batch-init : goal.loop-batch-init
unfolding batches
loop-batch-init g c = record { serving = c.requires.serving; session = refl; served = λ packets sent h. h }

pub loop-batch-preserved : goal.loop-batch-preserved
loop-batch-preserved g c = record {
  serving = c.in_ok-stop.ensures.serving;
  session = batches_go g.F.Followed.run c.args.self.now c.loop-batch.self c.record.new.self c.stop.new.self c.loop-batch._batch c.loop-batch.invariant.session c.in_ok-record.ensures.session c.in_ok-stop.ensures.session;
  served = λ packets sent h.
      stopped_said packets (conversation g.F.Followed.run c.record.new.self) (conversation g.F.Followed.run c.stop.new.self) sent c.record.new.text.items c.stop.new.text.items
      (recorded_said packets (conversation g.F.Followed.run c.loop-batch.self) (conversation g.F.Followed.run c.record.new.self) sent c.loop-batch.text.items c.record.new.text.items (c.loop-batch.invariant.served packets sent h) (ap (conversation g.F.Followed.run) c.in_ok-record.ensures.session) c.in_ok-record.ensures.serving c.in_ok-record.ensures.text)
      (ap (conversation g.F.Followed.run) c.in_ok-stop.ensures.session) c.in_ok-stop.ensures.serving c.in_ok-stop.ensures.text;
}
