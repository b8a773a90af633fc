use Rattle.design_valid_items.proofs.Design.{design_shown, design_top}
use Rattle.design_valid_items.proofs.laws.law_of_items.Goals as goal

pub returns-clause-items : goal.returns-clause-items
returns-clause-items c ms top made texts text ran = design_shown ms top made texts text ran

pub returns-clause-top : goal.returns-clause-top
returns-clause-top c ms top made texts text ran = design_top ms top made texts text ran
