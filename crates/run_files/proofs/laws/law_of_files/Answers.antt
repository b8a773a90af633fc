use Rattle.run_files.proofs.Faults.{no_known_fault}
use Rattle.run_files.proofs.laws.law_of_files.Goals as goal

pub returns : goal.returns
returns c = no_known_fault c.law_of_finishing.ensures.valid_only
