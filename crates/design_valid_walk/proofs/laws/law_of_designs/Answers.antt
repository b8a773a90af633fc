use Rattle.design_valid_walk.proofs.Whole.{design_wired}
use Rattle.design_valid_walk.proofs.laws.law_of_designs.Goals as goal

pub returns : goal.returns
returns c ms top made ran = design_wired ms top made ran
