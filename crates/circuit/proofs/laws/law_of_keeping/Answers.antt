use Rattle.circuit.proofs.Below.{start_below, next_below, sample_below, rows_below}
use Rattle.circuit.proofs.laws.law_of_keeping.Goals as goal

pub returns-clause-start : goal.returns-clause-start
returns-clause-start c circuit valid values = start_below circuit valid values

pub returns-clause-next : goal.returns-clause-next
returns-clause-next c circuit state before now valid values small = next_below circuit valid values state before now small

pub returns-clause-samples : goal.returns-clause-samples
returns-clause-samples c run k s valid values is = sample_below run valid values k s is

pub returns-clause-rows : goal.returns-clause-rows
returns-clause-rows c run k s is = rows_below run k s is
