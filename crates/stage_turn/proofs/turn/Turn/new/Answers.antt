use Rattle.std.proofs.Common.{[], ◌∷◌, ◌++◌, Some, ap, ◌∙◌}
use Rattle.stage_turn.proofs.Opening.{opens_as}
use Rattle.stage_turn.proofs.turn.Turn.new.Goals as goal

pub new-requires : goal.new-requires
new-requires g c = opens_as g.T.Kept.reading c.args.first _ _ _ c.requires.order c.requires.opens_nobody c.length-count.ensures (c.push_reserved.ensures.items ∙ ap (λ l. l ++ Some c.args.first ∷ []) (c.in_ok-slots.ensures).items) c.of-known.ensures
