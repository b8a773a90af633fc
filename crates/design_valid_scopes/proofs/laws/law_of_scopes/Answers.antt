use Rattle.design_valid_scopes.proofs.Walked.{design_scoped}
use Rattle.design_valid_scopes.proofs.laws.law_of_scopes.Goals as goal

pub returns : goal.returns
returns c ms top made texts names text name ran = c.law_of_order.ensures.scopes made.scopes (design_scoped ms texts names top made text name ran)
