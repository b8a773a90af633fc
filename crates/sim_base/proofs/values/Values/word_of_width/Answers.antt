use Rattle.std.proofs.Common.{◌∙◌, ◌<◌, ◌^◌, subst, sym, arith}
use Rattle.std.proofs.lemmas.List.{get_or_read}
use Rattle.sim_base.specs.Values.{number_at}
use Rattle.sim_base.proofs.Held.{below, place_is, word_inside, one_read}
use Rattle.sim_base.proofs.values.Values.word_of_width.Goals as goal

pub index-requires : goal.index-requires
index-requires c =
    let place = place_is _ _ _ _ c.args.n c.self.invariant c.self.view_is c.requires.there c.span-span.result.place c.span-span.ensures.place in
    let i = word_inside _ _ _ _ c.args.n c.self.invariant c.self.view_is c.requires.there c.span-span.result.place 0 (omega (arith, place)) (omega arith) in
    let l = c.self.inside.words.ok.0 in omega arith

pub returns-clause-value : goal.returns-clause-value
returns-clause-value c =
    let place = place_is _ _ _ _ c.args.n c.self.invariant c.self.view_is c.requires.there c.span-span.result.place c.span-span.ensures.place in
    let there = word_inside _ _ _ _ c.args.n c.self.invariant c.self.view_is c.requires.there c.span-span.result.place 0 (omega (arith, place)) (omega arith) in
    get_or_read c.self.inside.words.items c.span-span.result.place c.index.result.now there c.index.ensures 0
    ∙ sym (one_read _ _ _ _ c.args.n c.self.invariant c.self.view_is c.requires.there c.span-span.result.place place (omega (arith, c.if-span-width.false, c.span-span.ensures.width, c.requires.small)))

pub returns-clause-below : goal.returns-clause-below
returns-clause-below c =
    subst (λ x. x < 2 ^ c.args.width) (sym (returns-clause-value c))
    (subst (λ w. number_at c.args.self.now c.args.n < 2 ^ w) (omega (arith, c.if-span-width.false, c.span-span.ensures.width)) (below _ _ _ _ c.args.n c.self.invariant c.self.view_is c.requires.there))
