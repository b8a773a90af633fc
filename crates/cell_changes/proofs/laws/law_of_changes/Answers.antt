use Rattle.cell_changes.proofs.Same.{bits_stay, output_stays, stays}
use Rattle.cell_changes.proofs.laws.law_of_changes.Goals as goal

pub returns-clause-bits : goal.returns-clause-bits
returns-clause-bits c x before now old new = (bits_stay x before now old new, stays x before now)

pub returns-clause-output : goal.returns-clause-output
returns-clause-output c x before now e = output_stays x before now e
