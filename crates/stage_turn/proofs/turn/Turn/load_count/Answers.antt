use Rattle.std.proofs.Common.{rules, ap, sym, ◌∙◌}
use Rattle.stage_turn.proofs.Reading.{counts}
use Rattle.stage_turn.proofs.turn.Turn.load_count.Goals as goal

pub load-requires : goal.load-requires
load-requires g c = (ap (λ p. p.turn) c.seat.view_is ∙ c.requires.seat ∙ sym c.self.view_is, search rules, counts g.T.Kept.reading _ _ _)
