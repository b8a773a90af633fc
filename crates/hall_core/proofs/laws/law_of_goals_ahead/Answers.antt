use Rattle.hall_core.proofs.Ahead.{lies_ahead}
use Rattle.hall_core.proofs.laws.law_of_goals_ahead.Goals as goal

pub returns : goal.returns
returns c = lies_ahead
