use Rattle.std.proofs.Common.{◌∙◌, Ok, ap, refl}
use Rattle.flat_run.specs.Run.{Sampled}
use Rattle.solo_session.specs.Session.{Over}
use Rattle.cxxsim.proofs.Holding.{unserved_is_held}
use Rattle.cxxsim.proofs.session.hold.Goals as goal

pub serve-requires : goal.serve-requires
serve-requires g c = c.open.ensures.opened (c.in_ok-open.was ∙ ap Ok c.if-branch.true) c.requires.client

pub returns-else-branch-clause-held : goal.returns-else-branch-clause-held
returns-else-branch-clause-held g c =
    let none = c.open.ensures.unsettled (c.in_ok-open.was ∙ ap Ok c.if-branch.false) in
    unserved_is_held c.args.session.now.samples
    (g.I.Source.seen c.args.input.now) (g.I.Source.seen c.args.input.now)
    (g.O.Sink.seen c.args.out.now) (g.O.Sink.seen c.args.out.now)
    c.open.new.self.history none.0 c.requires.some (ap (λ (s : Over Sampled). s.history) none.1) refl refl
