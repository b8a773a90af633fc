use Rattle.spool_format.proofs.KeptOn.{nothing_kept, nothing_read}
use Rattle.spool_format.proofs.laws.law_of_no_chunks.Goals as goal

pub returns-clause-kept : goal.returns-clause-kept
returns-clause-kept c = nothing_kept

pub returns-clause-samples : goal.returns-clause-samples
returns-clause-samples c = nothing_read
