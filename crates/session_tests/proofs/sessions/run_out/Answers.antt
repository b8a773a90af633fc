use Rattle.std.proofs.Common.{ap}
use Rattle.flat_run.specs.Run.{run_of}
use Rattle.solo_session.specs.Session.{conversation}
use Rattle.solo_session.proofs.Paced.{run_out_serving}
use Rattle.session_tests.proofs.sessions.run_out.Goals as goal

pub returns : goal.returns
returns c = run_out_serving (conversation run_of c.args.session.now) (conversation run_of c.run_out.new.self) c.requires (ap (conversation run_of) c.in_ok-run_out.ensures.session)
