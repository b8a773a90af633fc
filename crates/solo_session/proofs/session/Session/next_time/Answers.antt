use Rattle.std.proofs.Common.{◌<◌, ℕ, subst, sym, ◌∙◌}
use Rattle.hall_core.specs.Replay.{replay}
use Rattle.solo_session.specs.Session.{Over}
use Rattle.solo_session.proofs.Serving.{next_there}
use Rattle.solo_session.proofs.session.Session.next_time.Goals as goal

pub time-requires : goal.time-requires
time-requires g c =
    subst (λ (n : ℕ). n < (g.F.Followed.run c.self.inside.samples).count) (sym c.n.ensures)
    (subst (λ (s : Over g.row.F.Denot). (replay s.history).n < (g.F.Followed.run s.samples).count) (sym c.self.view_is)
    (next_there (g.F.Followed.run c.args.self.now.samples) (replay c.args.self.now.history) c.requires.serving (λ is. c.in_default.not-Finished (c.requires.state ∙ is))))
