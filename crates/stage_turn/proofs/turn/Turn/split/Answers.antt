use Rattle.std.proofs.Common.{rules, ◌≤◌, ap, sym, ◌∙◌, subst}
use Rattle.stage_turn.proofs.Cutting.{splits}
use Rattle.stage_turn.proofs.turn.Turn.split.Goals as goal

pub split_seat-requires : goal.split_seat-requires
split_seat-requires g c = (ap (λ p. p.turn) c.seat.view_is ∙ c.requires.seat ∙ sym c.self.view_is, search rules, splits g.T.Kept.reading _ _ (subst (λ p. 2 ≤ p.knows.own.share) (sym c.seat.view_is) c.requires.share))
