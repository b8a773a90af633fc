use Rattle.stimulus.proofs.InputWidths.{widths_of_inputs}
use Rattle.stimulus.proofs.laws.law_of_inputs.Goals as goal

pub returns : goal.returns
returns c circuit s read = widths_of_inputs circuit s read
