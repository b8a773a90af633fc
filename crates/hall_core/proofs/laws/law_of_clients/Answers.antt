use Rattle.hall_core.proofs.Clients.{open_exactly}
use Rattle.hall_core.proofs.laws.law_of_clients.Goals as goal

pub returns : goal.returns
returns c = open_exactly
