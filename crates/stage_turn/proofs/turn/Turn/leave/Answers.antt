use Rattle.std.proofs.Common.{rules, ◌≡◌, List, ◌++◌, ap, sym, ◌∙◌, subst}
use Rattle.std.proofs.lemmas.List.{append_cancel_left}
use Rattle.stage_turn.specs.Turn.{Leaves}
use Rattle.stage_turn.specs.Known.{appended, resting}
use Rattle.stage_turn.proofs.Leaving.{stores, stored_as, leaves_turn, put_in, sits_left}
use Rattle.stage_turn.proofs.turn.Turn.leave.Goals as goal

pub store-requires : goal.store-requires
store-requires g c =
    let busy = ap (λ p. p.knows.in_turn) c.seat.view_is ∙ c.requires.turn in
    let leaves = subst (λ p. (more : List g.row.T-Entry.Denot) × Leaves g.T.Kept.reading p.knows c.args.value more) (sym c.seat.view_is) c.requires.leaves in (
      c.exchange.ensures.0 ∙ ap (λ p. p.turn) c.seat.view_is ∙ c.requires.seat ∙ sym c.self.view_is,
      search rules,
      stores g.T.Kept.reading _ _ _ c.seat.inside.seat.me.0 c.args.value leaves.0 _ (put_in g.T.Kept.reading c.seat.inside.seat.me c.exchange.new.seat.me c.args.value busy c.seat.invariant.carries c.exchange.ensures.3) c.length-count.ensures busy c.seat.invariant.alone leaves.1
          (g.met.T.Kept.opens_once c.args.value leaves.1.order),
    )

pub store-requires-2 : goal.store-requires-2
store-requires-2 g c =
    let busy = ap (λ p. p.knows.in_turn) c.seat.view_is ∙ c.requires.turn in
    let in_slot = put_in g.T.Kept.reading c.seat.inside.seat.me c.exchange.new.seat.me c.args.value busy c.seat.invariant.carries c.exchange.ensures.3 in
    let t = stored_as g.T.Kept.reading _ _ c.seat.inside.seat.me.0 c.args.value in_slot c.store.ensures.2 in (
      c.store.ensures.0 ∙ c.exchange.ensures.0 ∙ ap (λ p. p.turn) c.seat.view_is ∙ c.requires.seat ∙ sym c.self.view_is,
      search rules,
      leaves_turn g.T.Kept.reading _ _ c.store.new.seat.me c.args.value c.self.invariant.1 t.3 (ap (λ v. v.in_turn) t.2 ∙ busy) (ap (λ v. v.run) t.2 ∙ t.1.run) (ap (λ v. v.own.seen) t.2 ∙ sym t.1.entries) t.1.order,
    )

pub invariant_of-seat : goal.invariant_of-seat
invariant_of-seat g c =
    let busy = ap (λ p. p.knows.in_turn) c.seat.view_is ∙ c.requires.turn in
    let in_slot = put_in g.T.Kept.reading c.seat.inside.seat.me c.exchange.new.seat.me c.args.value busy c.seat.invariant.carries c.exchange.ensures.3 in
    let t = stored_as g.T.Kept.reading _ _ c.seat.inside.seat.me.0 c.args.value in_slot c.store.ensures.2 in
    sits_left g.T.Kept.reading _ c.store.new.seat.me.0 c.seat.inside.seat.me.0 c.args.value t.0 c.seat.invariant.alone c.seat.invariant.lives c.seat.invariant.plain t.1 t.2 c.store-2.ensures.2.0 c.store-2.ensures.2.1

pub returns-clause-knows : goal.returns-clause-knows
returns-clause-knows g c more is =
    let busy = ap (λ p. p.knows.in_turn) c.seat.view_is ∙ c.requires.turn in
    let in_slot = put_in g.T.Kept.reading c.seat.inside.seat.me c.exchange.new.seat.me c.args.value busy c.seat.invariant.carries c.exchange.ensures.3 in
    let t = stored_as g.T.Kept.reading _ _ c.seat.inside.seat.me.0 c.args.value in_slot c.store.ensures.2 in
    let same : t.0 ≡ more = append_cancel_left _ t.0 more (sym (subst (λ p. g.T.Kept.reading.entries c.args.value ≡ p.knows.own.seen ++ t.0) c.seat.view_is t.1.entries) ∙ is) in
    c.store-2.ensures.2.1 ∙ ap resting t.2 ∙ ap (λ p. resting (appended g.T.Kept.reading t.0 p.knows)) c.seat.view_is ∙ ap (λ l. resting (appended g.T.Kept.reading l c.args.seat.now.knows)) same
