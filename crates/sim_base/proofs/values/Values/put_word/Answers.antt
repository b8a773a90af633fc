use Rattle.std.proofs.Common.{sym, arith}
use Rattle.sim_base.proofs.Held.{place_is, word_inside, one_read, one_view, one_laid}
use Rattle.sim_base.proofs.values.Values.put_word.Goals as goal

pub store-requires : goal.store-requires
store-requires c = word_inside _ _ _ _ c.args.n c.self.invariant c.self.view_is c.requires.there c.span-place.result.place 0 (omega (arith, place_is _ _ _ _ c.args.n c.self.invariant c.self.view_is c.requires.there c.span-place.result.place c.span-place.ensures.place)) (omega arith)

pub invariant_of-self : goal.invariant_of-self
invariant_of-self c =
    rw c.store.ensures.items
    (one_laid _ _ _ _ c.args.n c.self.invariant c.self.view_is c.requires.there c.span-place.result.place c.args.v (place_is _ _ _ _ c.args.n c.self.invariant c.self.view_is c.requires.there c.span-place.result.place c.span-place.ensures.place) c.requires.small c.ranges.v.fits c.requires.below)

pub returns : goal.returns
returns c = record {
  value = rw c.store.ensures.items
      (one_view _ _ _ _ c.args.n c.self.invariant c.self.view_is c.requires.there c.span-place.result.place c.args.v (place_is _ _ _ _ c.args.n c.self.invariant c.self.view_is c.requires.there c.span-place.result.place c.span-place.ensures.place) c.requires.small);
  told = c.store.ensures.changed _ (sym (one_read _ _ _ _ c.args.n c.self.invariant c.self.view_is c.requires.there c.span-place.result.place (place_is _ _ _ _ c.args.n c.self.invariant c.self.view_is c.requires.there c.span-place.result.place c.span-place.ensures.place) c.requires.small));
}
