use Rattle.std.proofs.Common.{◌∙◌}
use Rattle.state_cells.proofs.Same.{copied_value}
use Rattle.state_cells.proofs.register.put_value.Goals as goal

pub returns-clause-value : goal.returns-clause-value
returns-clause-value c = copied_value c.width-width.result c.args.value.now c.args.into.now.number c.copy.new.self c.width-width.ensures.value (c.copy.ensures.width ∙ c.requires) c.copy.ensures.below c.width-width.ensures.below c.copy.ensures.bits
