use Rattle.std.proofs.Common.{◌++◌, ◌∷◌, List, [], false, ◌∙◌, ap, arith}
use Rattle.std.proofs.lemmas.Bool.Decides.{nat_tests}
use Rattle.std.proofs.Math.Nat.{min-le_right}
use Rattle.circuit.specs.Rounds.{run_length}
use Rattle.hall_core.specs.declared.entry.Entry.{Entry}
use Rattle.hall_core.specs.declared.entry.Entry.TheVariants as entry
use Rattle.solo_session.specs.Session.{Over, conversation}
use Rattle.solo_session.proofs.Going.{opened_as}
use Rattle.solo_session.proofs.session.Session.open.Goals as goal

pub returns-in_ok-enter-2-clause-opened : goal.returns-in_ok-enter-2-clause-opened
returns-in_ok-enter-2-clause-opened g c is plain =
    opened_as (conversation g.F.Followed.run c.enter-then-settles.new.self) (g.F.Followed.run c.args.self.now.samples)
    (ap g.F.Followed.run (ap (λ (s : Over g.row.F.Denot). s.samples) c.in_ok-enter-2.ensures ∙ ap (λ (s : Over g.row.F.Denot). s.samples) c.in_ok-enter.ensures ∙ c.reach-settles.ensures.same ∙ ap (λ (s : Over g.row.F.Denot). s.samples) c.self.view_is))
    (ap (λ (s : Over g.row.F.Denot). s.history) c.in_ok-enter-2.ensures ∙ ap (λ (s : Over g.row.F.Denot). s.history ++ entry.Open 0 ∷ []) c.in_ok-enter.ensures ∙ ap (λ (h : List Entry). (h ++ entry.Record 1 false ∷ []) ++ entry.Open 0 ∷ []) (ap (λ (s : Over g.row.F.Denot). s.history) c.self.view_is ∙ c.requires))
    (ap (λ (s : Over g.row.F.Denot). s.client) c.in_ok-enter-2.ensures ∙ ap (λ (s : Over g.row.F.Denot). s.client) c.in_ok-enter.ensures ∙ ap (λ (s : Over g.row.F.Denot). s.client) c.self.view_is ∙ plain)
    (grind (arith, nat_tests, c.reach-settles.ensures.settled, c.if-settles.true, min-le_right c.min-first.result (run_length (g.F.Followed.run c.args.self.now.samples))))
