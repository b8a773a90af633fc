use Rattle.spool_format.proofs.Read.{whole_fields}
use Rattle.spool_format.proofs.laws.law_of_whole_fields.Goals as goal

pub returns : goal.returns
returns c = whole_fields
