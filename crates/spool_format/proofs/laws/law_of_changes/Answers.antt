use Rattle.spool_format.proofs.Grown.{grown_change}
use Rattle.spool_format.proofs.laws.law_of_changes.Goals as goal

pub returns : goal.returns
returns c = grown_change
