use Rattle.std.proofs.Common.{ap, subst}
use Rattle.flat_run.specs.Run.{Sampled}
use Rattle.solo_session.specs.Session.{Over}
use Rattle.solo_session.proofs.Leaving.{on_err}
use Rattle.cxxsim.specs.Solo.{IsHeld}
use Rattle.cxxsim.proofs.Holding.{held_sends}
use Rattle.cxxsim.proofs.session.converse.Goals as goal

pub returns-in_err-text-clause-wanting : goal.returns-in_err-text-clause-wanting
returns-in_err-text-clause-wanting g c =
    on_err c.from_residual-in_err-text.result
    (held_sends c.args.run
    (g.I.Source.seen c.args.input.now) (g.I.Source.seen c.hold.new.input)
    (g.O.Sink.seen c.args.out.now) (g.O.Sink.seen c.hold.new.out)
    c.hold.new.session.history c.in_ok-ending.ending
    (subst
    (λ (r : Sampled). IsHeld r
    (g.I.Source.seen c.args.input.now) (g.I.Source.seen c.hold.new.input)
    (g.O.Sink.seen c.args.out.now) (g.O.Sink.seen c.hold.new.out)
    c.hold.new.session.history c.in_ok-ending.ending)
    (ap (λ (s : Over Sampled). s.samples) c.in_ok-session.ensures) c.in_ok-ending.ensures.held))
