use Rattle.circuit.proofs.StateOf.{next_belongs, sample_belongs, sample_nets, start_belongs}
use Rattle.circuit.proofs.laws.law_of_places.Goals as goal

pub returns-clause-start : goal.returns-clause-start
returns-clause-start c circuit = start_belongs circuit

pub returns-clause-next : goal.returns-clause-next
returns-clause-next c circuit state before now fits = next_belongs circuit state before now fits

pub returns-clause-samples : goal.returns-clause-samples
returns-clause-samples c run k s is = sample_belongs run k s is

pub returns-clause-nets : goal.returns-clause-nets
returns-clause-nets c run k s is = sample_nets run k s is
