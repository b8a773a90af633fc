use Rattle.spool_format.proofs.Read.{change_fields}
use Rattle.spool_format.proofs.laws.law_of_change_fields.Goals as goal

pub returns : goal.returns
returns c = change_fields
