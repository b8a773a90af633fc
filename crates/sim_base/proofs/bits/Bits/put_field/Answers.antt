use Rattle.std.proofs.Common.{◌≡◌, ◌<◌, ◌^◌, ◌∙◌, ap, arith}
use Rattle.sim_base.specs.BitValue.{number_of_words}
use Rattle.sim_base.proofs.Copies.{copied_number_below}
use Rattle.sim_base.proofs.bits.Bits.put_field.Goals as goal

below : (c : goal.After-put_fields) → number_of_words c.put_fields.new.words.items < 2 ^ c.self.inside.width
below c =
    let w : c.self.inside.width ≡ c.args.self.now.width = ap (λ v. v.width) c.self.view_is in
    copied_number_below c.self.inside.width c.args.at c.args.v 0 c.args.n (number_of_words c.self.inside.words.items) (number_of_words c.put_fields.new.words.items) (omega (arith, w, c.requires.inside)) c.self.invariant.1 c.put_fields.ensures.bits

pub invariant_of-self : goal.invariant_of-self
invariant_of-self c = (c.put_fields.ensures.length ∙ c.self.invariant.0, below c, c.put_fields.ensures.fit)

pub returns-clause-below : goal.returns-clause-below
returns-clause-below c = below c
