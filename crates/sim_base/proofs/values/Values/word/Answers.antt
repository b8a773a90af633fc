use Rattle.std.proofs.Common.{◌∙◌, sym, arith}
use Rattle.std.proofs.lemmas.List.{get_or_read}
use Rattle.sim_base.proofs.Held.{place_is, word_inside, one_read}
use Rattle.sim_base.proofs.values.Values.word.Goals as goal

pub index-requires : goal.index-requires
index-requires c =
    let place = place_is _ _ _ _ c.args.n c.self.invariant c.self.view_is c.requires.there c.span-place.result.place c.span-place.ensures.place in
    let i = word_inside _ _ _ _ c.args.n c.self.invariant c.self.view_is c.requires.there c.span-place.result.place 0 (omega (arith, place)) (omega arith) in
    let l = c.self.inside.words.ok.0 in omega arith

pub returns : goal.returns
returns c =
    let place = place_is _ _ _ _ c.args.n c.self.invariant c.self.view_is c.requires.there c.span-place.result.place c.span-place.ensures.place in
    let there = word_inside _ _ _ _ c.args.n c.self.invariant c.self.view_is c.requires.there c.span-place.result.place 0 (omega (arith, place)) (omega arith) in
    get_or_read c.self.inside.words.items c.span-place.result.place c.index.result.now there c.index.ensures 0
    ∙ sym (one_read _ _ _ _ c.args.n c.self.invariant c.self.view_is c.requires.there c.span-place.result.place place c.requires.small)
