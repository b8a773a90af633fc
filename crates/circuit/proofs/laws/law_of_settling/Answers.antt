use Rattle.circuit.proofs.Still.{settles, state_rests}
use Rattle.circuit.proofs.laws.law_of_settling.Goals as goal

pub returns-clause-nets : goal.returns-clause-nets
returns-clause-nets c circuit s t inputs e = (settles 256 circuit s.state s.nets inputs t e).nets

pub returns-clause-still : goal.returns-clause-still
returns-clause-still c circuit s t inputs e = let r = settles 256 circuit s.state s.nets inputs t e in state_rests circuit t.state r.before t.nets r.same
