use Rattle.design_valid_counts.proofs.Design.{design_counted}
use Rattle.design_valid_counts.proofs.laws.law_of_counts.Goals as goal

pub returns : goal.returns
returns c ms top made ran = design_counted ms top made ran
