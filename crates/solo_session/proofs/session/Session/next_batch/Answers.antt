use Rattle.std.proofs.Common.{◌≡◌, ◌+◌, ◌-◌, ℕ, ap, sym, refl, ◌∙◌, min, arith, subst}
use Rattle.circuit.specs.Rounds.{run_length}
use Rattle.hall_core.specs.Facts.{facts_of}
use Rattle.hall_core.specs.Replay.{replay}
use Rattle.hall_core.specs.declared.entry.Goal.TheVariants as the_goal
use Rattle.sim_base.specs.declared.kinds.Kinds.{Kinds}
use Rattle.solo_session.specs.Hits.{IsUpToHit}
use Rattle.solo_session.specs.Pace.{most_next}
use Rattle.solo_session.specs.Session.{IsServing, Over}
use Rattle.solo_session.proofs.Batching.{most_held, most_reached}
use Rattle.solo_session.proofs.session.Session.next_batch.Goals as goal

pub returns-in-To-clause-most : goal.returns-in-To-clause-most
returns-in-To-clause-most g c =
    let s : Over g.row.F.Denot = record { samples = c.self.inside.samples; history = c.self.inside.hall.history; client = c.self.inside.client } in
    let serving : IsServing (g.F.Followed.run s.samples) (replay s.history) = subst (λ (x : Over g.row.F.Denot). IsServing (g.F.Followed.run x.samples) (replay x.history)) (sym c.self.view_is) c.requires in
    let most : (replay s.history).n + min (c.in-To.goal - (replay s.history).n) 256 ≡ c.n-n.result + c.min.result = ap (λ (n : ℕ). n + min (c.in-To.goal - n) 256) (sym c.n-n.ensures) ∙ ap (λ (m : ℕ). c.n-n.result + m) (sym c.min.ensures) in
    let up : IsUpToHit (g.F.Followed.run s.samples) c.in-To.kinds (replay s.history).n c.reach-end.result c.batch_to.result.samples c.batch_to.result.hit =
    subst (λ (n : ℕ). IsUpToHit (g.F.Followed.run s.samples) c.in-To.kinds n c.reach-end.result c.batch_to.result.samples c.batch_to.result.hit) c.n-n.ensures
    (subst (λ (x : g.row.F.Denot). IsUpToHit (g.F.Followed.run x) c.in-To.kinds c.n-n.result c.reach-end.result c.batch_to.result.samples c.batch_to.result.hit) c.reach-end.ensures.same c.batch_to.ensures.batch) in
    most_reached (g.F.Followed.run s.samples) (replay s.history) c.in-To.goal c.in-To.kinds serving (sym c.goal.ensures ∙ c.in-To.is) c.reach-end.result c.batch_to.result.samples c.batch_to.result.hit (c.reach-end.ensures.settled ∙ ap (λ (m : ℕ). min m (run_length (g.F.Followed.run s.samples))) (sym most)) up
    ∙ ap (λ (x : Over g.row.F.Denot). most_next (facts_of (g.F.Followed.run x.samples)) (replay x.history)) c.self.view_is

pub returns-in_default : goal.returns-in_default
returns-in_default g c =
    let s : Over g.row.F.Denot = record { samples = c.self.inside.samples; history = c.self.inside.hall.history; client = c.self.inside.client } in
    let serving : IsServing (g.F.Followed.run s.samples) (replay s.history) = subst (λ (x : Over g.row.F.Denot). IsServing (g.F.Followed.run x.samples) (replay x.history)) (sym c.self.view_is) c.requires in
    let held : (g : ℕ) (kinds : Kinds) → (replay s.history).goal ≡ the_goal.To g kinds → ⊥ = λ g kinds e. c.in_default.not-To g kinds (c.goal.ensures ∙ e) in
    record {
      most = sym (most_held (g.F.Followed.run s.samples) (replay s.history) serving held) ∙ ap (λ (x : Over g.row.F.Denot). most_next (facts_of (g.F.Followed.run x.samples)) (replay x.history)) c.self.view_is;
      entry = λ one. absurd (omega (arith, one));
      same = refl;
    }
