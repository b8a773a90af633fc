use Rattle.std.proofs.Common.{rules, ◌≡◌, ap, sym, ◌∙◌, subst}
use Rattle.std.specs.Prelude.{IsSome}
use Rattle.stage_turn.specs.Turn.{Closes}
use Rattle.stage_turn.specs.Seat.{Holds}
use Rattle.stage_turn.proofs.Joining.{joins}
use Rattle.stage_turn.proofs.Closing.{closed_value}
use Rattle.stage_turn.proofs.turn.Turn.close.Goals as goal

pub join_seat-requires : goal.join_seat-requires
join_seat-requires g c =
    let calm = ap (λ p. p.knows.in_turn) c.clerk.view_is ∙ c.requires.resting.1 in
    let quiet = ap (λ p. p.knows.in_turn) c.writer.view_is ∙ c.requires.resting.0 in
    (ap (λ p. p.turn) c.clerk.view_is ∙ c.requires.seats.1 ∙ sym c.self.view_is, ap (λ p. p.turn) c.writer.view_is ∙ c.requires.seats.0 ∙ sym c.self.view_is, subst (λ b. Holds b c.writer.inside.seat.me) quiet c.writer.invariant.carries, search rules, joins g.T.Kept.reading _ _ _ _ c.clerk.invariant.lives calm quiet)

pub unwrap-value-requires : goal.unwrap-value-requires
unwrap-value-requires g c =
    let t = closed_value g.T.Kept.reading _ c.clerk.inside.seat.me.0 c.writer.inside.seat.me.0 _ _ _ c.take.result c.close_with-closed.ensures.values.2 c.take.ensures.value (ap (λ m. m.0) c.join_seat.ensures.2)
    (ap (λ p. p.knows.own.pen) c.writer.view_is ∙ c.requires.roles.0) c.writer.invariant.plain (ap (λ p. p.knows.own.share) c.clerk.view_is ∙ c.requires.roles.1) in
    subst IsSome (sym t.1) (search rules)

pub returns : goal.returns
returns g c =
    let t = closed_value g.T.Kept.reading _ c.clerk.inside.seat.me.0 c.writer.inside.seat.me.0 _ _ _ c.take.result c.close_with-closed.ensures.values.2 c.take.ensures.value (ap (λ m. m.0) c.join_seat.ensures.2)
    (ap (λ p. p.knows.own.pen) c.writer.view_is ∙ c.requires.roles.0) c.writer.invariant.plain (ap (λ p. p.knows.own.share) c.clerk.view_is ∙ c.requires.roles.1) in
    let same : t.0 ≡ c.unwrap-value.result = (let e = sym t.1 ∙ c.unwrap-value.ensures in cc) in
    subst (λ x. Closes g.T.Kept.reading c.args.writer.knows c.args.clerk.knows x) same (subst (λ p. Closes g.T.Kept.reading c.args.writer.knows p.knows t.0) c.clerk.view_is (subst (λ p. Closes g.T.Kept.reading p.knows c.clerk.inside.seat.me.0 t.0) c.writer.view_is t.2))
