use Rattle.std.proofs.Common.{map, ◌+◌, ◌*◌, List, ℕ, sym, subst, refl}
use Rattle.sim_base.specs.Values.{values_of, IsLaidOut}
use Rattle.sim_base.proofs.Written.{IsCopied, whole_inside, whole_laid, whole_copied}
use Rattle.sim_base.specs.declared.values.Span.{Span}
use Rattle.sim_base.proofs.values.Values.put_word_at.Goals as goal

pub store-requires : goal.store-requires
store-requires c = whole_inside _ _ _ _ c.args.n (c.span.result.place + c.args.place) c.span.result.place c.args.place c.args.word c.self.invariant c.self.view_is c.requires.there c.span.ensures.place refl c.requires.inside c.requires.below c.ranges.word.fits

pub invariant_of-self : goal.invariant_of-self
invariant_of-self c =
    subst (λ (l : List ℕ). IsLaidOut l (map (λ (s : Span). s.width) c.self.inside.spans.items) (map (λ (s : Span). s.place) c.self.inside.spans.items)) (sym c.store.ensures.items)
    (whole_laid _ _ _ _ c.args.n (c.span.result.place + c.args.place) c.span.result.place c.args.place c.args.word c.self.invariant c.self.view_is c.requires.there c.span.ensures.place refl c.requires.inside c.requires.below c.ranges.word.fits)

copied : (c : goal.After-store) → IsCopied c.args.self.now (values_of (map (λ (s : Span). s.width) c.self.inside.spans.items) c.store.new.words.items) c.args.n (64 * c.args.place) c.args.word 0 64 c.store.result
copied c =
    subst (λ (l : List ℕ). IsCopied c.args.self.now (values_of (map (λ (s : Span). s.width) c.self.inside.spans.items) l) c.args.n (64 * c.args.place) c.args.word 0 64 c.store.result) (sym c.store.ensures.items)
    (whole_copied _ _ _ _ c.args.n (c.span.result.place + c.args.place) c.span.result.place c.args.place c.args.word c.self.invariant c.self.view_is c.requires.there c.span.ensures.place refl c.requires.inside c.requires.below c.ranges.word.fits c.store.result c.store.ensures.changed)

pub returns-clause-value : goal.returns-clause-value
returns-clause-value c = (copied c).value

pub returns-clause-bits : goal.returns-clause-bits
returns-clause-bits c = (copied c).bits

pub returns-clause-changed : goal.returns-clause-changed
returns-clause-changed c = (copied c).changed
