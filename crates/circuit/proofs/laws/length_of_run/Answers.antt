use Rattle.circuit.proofs.Length.{length_is, length_within, settled_below, unsettled_at}
use Rattle.circuit.proofs.laws.length_of_run.Goals as goal

pub returns-clause-within : goal.returns-clause-within
returns-clause-within c run = length_within run run.count

pub returns-clause-settled : goal.returns-clause-settled
returns-clause-settled c run k lt = settled_below run run.count k lt

pub returns-clause-unsettled : goal.returns-clause-unsettled
returns-clause-unsettled c run lt = unsettled_at run run.count lt

pub returns-clause-only : goal.returns-clause-only
returns-clause-only c run k le here next = length_is run run.count k le here next
