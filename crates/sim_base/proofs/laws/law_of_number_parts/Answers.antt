use Rattle.sim_base.proofs.Parts.{length-parts, part_at, part_below, parts_make}
use Rattle.sim_base.proofs.laws.law_of_number_parts.Goals as goal

pub returns-clause-count : goal.returns-clause-count
returns-clause-count c = length-parts

pub returns-clause-below : goal.returns-clause-below
returns-clause-below c = part_below

pub returns-clause-part : goal.returns-clause-part
returns-clause-part c = part_at

pub returns-clause-number : goal.returns-clause-number
returns-clause-number c = parts_make
