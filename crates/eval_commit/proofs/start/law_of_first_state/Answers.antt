use Rattle.eval_commit.proofs.Starting.{first_blank, first_holds, first_rows}
use Rattle.eval_commit.proofs.start.law_of_first_state.Goals as goal

pub returns-clause-holds : goal.returns-clause-holds
returns-clause-holds c = first_holds

pub returns-clause-rows : goal.returns-clause-rows
returns-clause-rows c = first_rows c.law_of_memories.ensures.start

pub returns-clause-blank : goal.returns-clause-blank
returns-clause-blank c = first_blank
