use Rattle.std.proofs.Common.{rules, ap, sym, ◌∙◌, subst}
use Rattle.stage_turn.specs.Seat.{Holds}
use Rattle.stage_turn.proofs.Joining.{joins}
use Rattle.stage_turn.proofs.Reading.{learns}
use Rattle.stage_turn.proofs.turn.Turn.join.Goals as goal

pub join_seat-requires : goal.join_seat-requires
join_seat-requires g c =
    let calm = ap (λ p. p.knows.in_turn) c.into.view_is ∙ c.requires.resting.0 in
    let quiet = ap (λ p. p.knows.in_turn) c.from.view_is ∙ c.requires.resting.1 in
    (ap (λ p. p.turn) c.into.view_is ∙ c.requires.seats.0 ∙ sym c.self.view_is, ap (λ p. p.turn) c.from.view_is ∙ c.requires.seats.1 ∙ sym c.self.view_is, subst (λ b. Holds b c.from.inside.seat.me) quiet c.from.invariant.carries, search rules, joins g.T.Kept.reading _ _ _ _ c.into.invariant.lives calm quiet)

pub load-requires : goal.load-requires
load-requires g c = (c.join_seat.ensures.0 ∙ ap (λ p. p.turn) c.into.view_is ∙ c.requires.seats.0 ∙ sym c.self.view_is, search rules, learns g.T.Kept.reading _ _ _)
