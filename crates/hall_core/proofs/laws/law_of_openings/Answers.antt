use Rattle.hall_core.proofs.Ahead.{opens_next}
use Rattle.hall_core.proofs.laws.law_of_openings.Goals as goal

pub returns : goal.returns
returns c = opens_next
