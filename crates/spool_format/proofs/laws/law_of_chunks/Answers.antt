use Rattle.spool_format.proofs.Grown.{grown_chunk}
use Rattle.spool_format.proofs.laws.law_of_chunks.Goals as goal

pub returns : goal.returns
returns c = grown_chunk
