use Rattle.std.proofs.Common.{refl}
use Rattle.circuit.specs.Signal.{gathered, sig_number}
use Rattle.circuit.specs.Valuation.{digit_within, numbers_from}
use Rattle.circuit.specs.Next.{next_numbers, next_mems}
use Rattle.circuit.specs.Rounds.{standing_after, settling}
use Rattle.worked_rows.proofs.rows.worked_rounds.Goals as goal

pub returns-clause-derived : goal.returns-clause-derived
unfolding gathered sig_number digit_within numbers_from next_numbers next_mems settling standing_after
returns-clause-derived c = refl

pub returns-clause-disabled : goal.returns-clause-disabled
unfolding gathered sig_number digit_within numbers_from next_numbers next_mems settling standing_after
returns-clause-disabled c = refl

pub returns-clause-enabled : goal.returns-clause-enabled
unfolding gathered sig_number digit_within numbers_from next_numbers next_mems settling standing_after
returns-clause-enabled c = refl
