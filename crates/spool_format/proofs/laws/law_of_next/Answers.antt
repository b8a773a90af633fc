use Rattle.spool_format.proofs.KeptOn.{next_within, next_full}
use Rattle.spool_format.proofs.laws.law_of_next.Goals as goal

pub returns-clause-within : goal.returns-clause-within
returns-clause-within c = next_within

pub returns-clause-full : goal.returns-clause-full
returns-clause-full c = next_full
