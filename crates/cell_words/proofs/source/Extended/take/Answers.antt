use Rattle.std.proofs.Common.{◌/◌, ◌%◌, ◌^◌, ◌∙◌, ap, arith}
use Rattle.cell_words.proofs.Taken.{rest_inside, rest_taken, word_taken, word_below}
use Rattle.cell_words.proofs.source.Extended.take.Goals as goal

pub invariant_of-self : goal.invariant_of-self
invariant_of-self c =
    rest_inside c.self.inside.own c.min-own.result c.self.inside.signal c.take-word.new.self (omega arith) c.self.invariant.0 c.self.invariant.1 c.take-word.ensures.rest

pub with_ones-requires-clause-below : goal.with_ones-requires-clause-below
with_ones-requires-clause-below c = word_below c.args.n c.min-own.result c.take-word.result c.self.inside.signal.number c.take-word.ensures.word

pub returns-clause-word : goal.returns-clause-word
returns-clause-word c =
    c.with_ones.ensures
    ∙ word_taken c.args.n c.self.inside.ones c.self.inside.own c.min-own.result c.min-more.result c.self.inside.signal c.take-word.result
    c.self.invariant.0 c.self.invariant.1 c.min-own.ensures c.min-more.ensures c.take-word.ensures.word
    ∙ ap (λ x. x % 2 ^ c.args.n) c.self.view_is

pub returns-clause-rest : goal.returns-clause-rest
returns-clause-rest c =
    rest_taken c.args.n c.self.inside.ones c.self.inside.own c.min-own.result c.min-more.result c.self.inside.signal c.take-word.new.self
    c.self.invariant.0 c.self.invariant.1 c.min-own.ensures c.min-more.ensures c.take-word.ensures.rest
    ∙ ap (λ x. x / 2 ^ c.args.n) c.self.view_is
