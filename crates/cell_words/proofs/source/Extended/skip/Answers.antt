use Rattle.std.proofs.Common.{◌/◌, ◌^◌, ◌∙◌, ap, arith}
use Rattle.cell_words.proofs.Taken.{rest_inside, rest_taken}
use Rattle.cell_words.proofs.source.Extended.skip.Goals as goal

pub invariant_of-self : goal.invariant_of-self
invariant_of-self c =
    rest_inside c.self.inside.own c.min-own.result c.self.inside.signal c.skip.new.self (omega arith) c.self.invariant.0 c.self.invariant.1 c.skip.ensures

pub returns : goal.returns
returns c =
    rest_taken c.args.n c.self.inside.ones c.self.inside.own c.min-own.result c.min.result c.self.inside.signal c.skip.new.self
    c.self.invariant.0 c.self.invariant.1 c.min-own.ensures c.min.ensures c.skip.ensures
    ∙ ap (λ x. x / 2 ^ c.args.n) c.self.view_is
