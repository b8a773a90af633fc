use Rattle.cxxsim.proofs.Begun.{begun_part}
use Rattle.cxxsim.proofs.session.put_log.Goals as goal

pub returns-in-Err-clause-got : goal.returns-in-Err-clause-got
returns-in-Err-clause-got g c = (c.in-Err.ensures.failed, begun_part (g.G.Sink.seen c.args.log.now).held (g.G.Sink.seen c.put_all.new.sink).held c.args.text.now c.in-Err.ensures.err)
