use Rattle.circuit.proofs.Choices.{lowest_is}
use Rattle.circuit.proofs.laws.law_of_lowest.Goals as goal

pub returns-clause-within : goal.returns-clause-within
returns-clause-within c s lt some = (lowest_is s lt some).0

pub returns-clause-one : goal.returns-clause-one
returns-clause-one c s lt some = (lowest_is s lt some).1

pub returns-clause-below : goal.returns-clause-below
returns-clause-below c s j lt some b = (lowest_is s lt some).2 j b
