use Rattle.run_core.proofs.Slots.{sample_fits, slot_shows}
use Rattle.run_core.proofs.laws.law_of_samples.Goals as goal

pub returns-clause-sample : goal.returns-clause-sample
returns-clause-sample c run k = sample_fits run k (c.law_of_showing.ensures run k) c.law_of_halves.ensures.number

pub returns-clause-slot : goal.returns-clause-slot
returns-clause-slot c run k = slot_shows run k (c.law_of_showing.ensures run k) c.law_of_halves.ensures.number
