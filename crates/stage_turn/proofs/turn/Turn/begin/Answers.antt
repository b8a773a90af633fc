use Rattle.std.proofs.Common.{rules, ◌<◌, ap, sym, ◌∙◌, subst}
use Rattle.stage_turn.proofs.Cutting.{begins}
use Rattle.stage_turn.proofs.turn.Turn.begin.Goals as goal

pub split_seat-requires : goal.split_seat-requires
split_seat-requires g c = (
  ap (λ p. p.turn) c.seat.view_is ∙ c.requires.seat ∙ sym c.self.view_is,
  search rules,
  begins g.T.Kept.reading _ _ (ap (λ p. p.knows.own.pen) c.seat.view_is ∙ c.requires.both.0) (ap (λ p. p.knows.in_turn) c.seat.view_is ∙ c.requires.resting) (subst (λ p. 0 < p.knows.own.share) (sym c.seat.view_is) c.requires.both.1),
)
