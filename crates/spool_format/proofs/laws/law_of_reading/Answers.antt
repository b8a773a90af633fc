use Rattle.spool_format.proofs.Told.{chunk_told}
use Rattle.spool_format.proofs.laws.law_of_reading.Goals as goal

pub returns : goal.returns
returns c = chunk_told
