use Rattle.std.proofs.Common.{refl}
use Rattle.circuit.specs.Output.{lowest_from}
use Rattle.circuit.specs.Signal.{gathered}
use Rattle.worked_rows.proofs.rows.worked_selections.Goals as goal

pub returns-clause-lowest : goal.returns-clause-lowest
unfolding lowest_from
returns-clause-lowest c = refl

pub returns-clause-highest_alone : goal.returns-clause-highest_alone
unfolding lowest_from
returns-clause-highest_alone c = refl

pub returns-clause-bit_by_bit : goal.returns-clause-bit_by_bit
unfolding gathered
returns-clause-bit_by_bit c = refl
