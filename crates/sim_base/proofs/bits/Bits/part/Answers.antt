use Rattle.std.proofs.Common.{◌∙◌, ap}
use Rattle.sim_base.specs.BitValue.{BitValue}
use Rattle.sim_base.proofs.Parts.{part_is}
use Rattle.sim_base.proofs.bits.Bits.part.Goals as goal

pub returns : goal.returns
returns c =
    part_is c.args.self.now.number c.args.at c.args.width c.in_ok-part.part.number c.copy.new.self
    (c.copy.ensures.width ∙ ap (λ (v : BitValue). v.width) c.in_ok-part.ensures) c.copy.ensures.below c.copy.ensures.bits
