use Rattle.std.proofs.Common.{◌≡◌, ◌++◌, ◌∷◌, [], ap, ◌∙◌, subst}
use Rattle.stage_turn.specs.TestLog.{opening_of, clients_of}
use Rattle.stage_turn.specs.Kept.{count_of}
use Rattle.stage_turn.proofs.TestLog.{below_opened, none_so_far}
use Rattle.stage_turn.proofs.tests.log.Log.open.Goals as goal

pub invariant_of-self-2 : goal.invariant_of-self-2
invariant_of-self-2 c = below_opened c.self.inside.entries.items c.push.new.self.items c.self.inside.opened ((c.in_ok-push.ensures).items ∙ ap (λ e. c.self.inside.entries.items ++ e ∷ []) c.open.ensures) c.self.invariant

pub returns-clause-ok : goal.returns-clause-ok
returns-clause-ok c = (
  (ap (λ l. l.run) c.self.view_is, (c.in_ok-push.ensures).items ∙ ap (λ e. c.self.inside.entries.items ++ e ∷ []) c.open.ensures ∙ ap (λ l. l.entries ++ opening_of c.self.inside.opened ∷ []) c.self.view_is),
  subst (λ l. count_of c.self.inside.opened (clients_of l.entries) ≡ 0) c.self.view_is (none_so_far c.self.inside.opened (clients_of c.self.inside.entries.items) c.self.invariant),
)
