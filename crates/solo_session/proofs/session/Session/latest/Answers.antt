use Rattle.std.proofs.Common.{◌<◌, ◌-◌, ℕ, subst, sym}
use Rattle.hall_core.specs.Replay.{replay}
use Rattle.solo_session.specs.Session.{Over}
use Rattle.solo_session.proofs.Serving.{latest_there}
use Rattle.solo_session.proofs.session.Session.latest.Goals as goal

pub time-requires : goal.time-requires
time-requires g c =
    subst (λ (n : ℕ). n - 1 < (g.F.Followed.run c.self.inside.samples).count) (sym c.n.ensures)
    (subst (λ (s : Over g.row.F.Denot). (replay s.history).n - 1 < (g.F.Followed.run s.samples).count) (sym c.self.view_is) (latest_there (g.F.Followed.run c.args.self.now.samples) (replay c.args.self.now.history) c.requires))
