use Rattle.hall_core.proofs.Beginnings.{begins}
use Rattle.hall_core.proofs.laws.law_of_first_entries.Goals as goal

pub returns : goal.returns
returns c = begins
