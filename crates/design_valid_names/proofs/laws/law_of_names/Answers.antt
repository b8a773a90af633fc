use Rattle.design_valid_names.proofs.Walked.{design_apart}
use Rattle.design_valid_names.proofs.laws.law_of_names.Goals as goal

pub returns : goal.returns
returns c ms top made texts text ran = design_apart ms texts top made text ran
