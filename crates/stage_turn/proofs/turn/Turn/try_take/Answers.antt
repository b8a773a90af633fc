use Rattle.std.proofs.Common.{rules, ◌∷◌, Some, ap, sym, ◌∙◌, subst}
use Rattle.atomic_table.specs.Table.{rest}
use Rattle.stage_turn.specs.Seat.{Holds}
use Rattle.stage_turn.proofs.Taking.{takes_turn}
use Rattle.stage_turn.proofs.turn.Turn.try_take.Goals as goal

pub compare_exchange-found-requires : goal.compare_exchange-found-requires
compare_exchange-found-requires g c =
    let quiet = ap (λ p. p.knows.in_turn) c.seat.view_is ∙ c.requires.resting in
    (ap (λ p. p.turn) c.seat.view_is ∙ c.requires.seat ∙ sym c.self.view_is, search rules, takes_turn g.T.Kept.reading _ _ _ (subst (λ b. Holds b c.seat.inside.seat.me) quiet c.seat.invariant.carries) quiet c.seat.invariant.lives)

pub exchange-requires : goal.exchange-requires
exchange-requires g c = let t = c.compare_exchange-found.ensures.2.1 c.if-found-ne0.false in
    (c.compare_exchange-found.ensures.0 ∙ ap (λ p. p.turn) c.seat.view_is ∙ c.requires.seat ∙ sym c.self.view_is, (Some t.0, t.1 ∙ ap (λ l. (0, Some t.0) ∷ rest l) (sym t.1)))
