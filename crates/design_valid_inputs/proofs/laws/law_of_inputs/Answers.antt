use Rattle.design_valid_inputs.proofs.Design.{design_inputs}
use Rattle.design_valid_inputs.proofs.laws.law_of_inputs.Goals as goal

pub returns : goal.returns
returns c ms top made ran = design_inputs ms top made ran
