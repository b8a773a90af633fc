use Rattle.circuit.proofs.Rounds.{all_of_them, at_most, ends, follows}
use Rattle.circuit.proofs.laws.law_of_succession.Goals as goal

pub returns-clause-follow : goal.returns-clause-follow
returns-clause-follow c circuit s inputs = follows 256 circuit s.state s.nets inputs

pub returns-clause-end : goal.returns-clause-end
returns-clause-end c circuit s t inputs e = ends 256 circuit s.state s.nets inputs t e

pub returns-clause-most : goal.returns-clause-most
returns-clause-most c circuit s inputs = at_most 256 circuit s.state s.nets inputs

pub returns-clause-unsettled : goal.returns-clause-unsettled
returns-clause-unsettled c circuit s inputs e = all_of_them 256 circuit s.state s.nets inputs e
