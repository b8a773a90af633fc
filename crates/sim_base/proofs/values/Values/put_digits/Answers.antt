use Rattle.std.proofs.Common.{map, ◌≡◌, ◌+◌, ◌/◌, ◌<◌, ℕ, List, get_or, length, sym, ap, subst, arith}
use Rattle.std.proofs.lemmas.List.{get_or_read}
use Rattle.sim_base.specs.Values.{first_word, values_of, IsLaidOut}
use Rattle.sim_base.proofs.Held.{place_is}
use Rattle.sim_base.proofs.Written.{IsCopied, digit_inside, digits_laid, digits_copied}
use Rattle.sim_base.specs.declared.values.Span.{Span}
use Rattle.sim_base.proofs.values.Values.put_digits.Goals as goal
use Rattle.sim_base.proofs.values.Values.put_digits.Goals.{After-store}

pub index-requires : goal.index-requires
index-requires c =
    let i : c.span.result.place + c.args.at / 64 < length c.self.inside.words.items = digit_inside _ _ _ _ c.args.n (c.span.result.place + c.args.at / 64) c.span.result.place c.args.at c.args.k c.self.invariant c.self.view_is c.requires.there c.span.ensures.place (omega arith) c.requires.some c.requires.inside in
    let l = c.self.inside.words.ok.0 in
    omega arith

pub store-requires : goal.store-requires
store-requires c = digit_inside _ _ _ _ c.args.n (c.span.result.place + c.args.at / 64) c.span.result.place c.args.at c.args.k c.self.invariant c.self.view_is c.requires.there c.span.ensures.place (omega arith) c.requires.some c.requires.inside

e : (c : After-store) → c.span.result.place + c.args.at / 64 ≡ first_word (map (λ (s : Span). s.width) c.self.inside.spans.items) c.args.n + c.args.at / 64
e c = ap (λ p. p + c.args.at / 64) (place_is _ _ _ _ c.args.n c.self.invariant c.self.view_is c.requires.there c.span.result.place c.span.ensures.place)

read : (c : After-store) → c.index.result.now ≡ get_or c.self.inside.words.items (c.span.result.place + c.args.at / 64) 0
read c =
    get_or_read c.self.inside.words.items (c.span.result.place + c.args.at / 64) c.index.result.now
    (digit_inside _ _ _ _ c.args.n (c.span.result.place + c.args.at / 64) c.span.result.place c.args.at c.args.k c.self.invariant c.self.view_is c.requires.there c.span.ensures.place (omega arith) c.requires.some c.requires.inside) c.index.ensures 0

pub invariant_of-self : goal.invariant_of-self
invariant_of-self c =
    subst (λ (l : List ℕ). IsLaidOut l (map (λ (s : Span). s.width) c.self.inside.spans.items) (map (λ (s : Span). s.place) c.self.inside.spans.items)) (sym c.store.ensures.items)
    (digits_laid _ _ _ _ c.args.n (c.span.result.place + c.args.at / 64) c.args.at c.args.k c.args.v c.merged-word.result c.index.result.now c.self.invariant c.self.view_is c.requires.there (e c) c.requires.some c.requires.small c.requires.inside c.merged-word.type_inv (read c) c.merged-word.ensures)

copied : (c : After-store) → IsCopied c.args.self.now (values_of (map (λ (s : Span). s.width) c.self.inside.spans.items) c.store.new.words.items) c.args.n c.args.at c.args.v 0 c.args.k c.store.result
copied c =
    subst (λ (l : List ℕ). IsCopied c.args.self.now (values_of (map (λ (s : Span). s.width) c.self.inside.spans.items) l) c.args.n c.args.at c.args.v 0 c.args.k c.store.result) (sym c.store.ensures.items)
    (digits_copied _ _ _ _ c.args.n (c.span.result.place + c.args.at / 64) c.args.at c.args.k c.args.v c.merged-word.result c.index.result.now c.self.invariant c.self.view_is c.requires.there (e c) c.requires.some c.requires.small c.requires.inside c.merged-word.type_inv (read c) c.merged-word.ensures c.store.result c.store.ensures.changed)

pub returns-clause-value : goal.returns-clause-value
returns-clause-value c = (copied c).value

pub returns-clause-bits : goal.returns-clause-bits
returns-clause-bits c = (copied c).bits

pub returns-clause-changed : goal.returns-clause-changed
returns-clause-changed c = (copied c).changed
