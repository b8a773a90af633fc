use Rattle.std.proofs.Common.{refl}
use Rattle.circuit.specs.Signal.{gathered, sig_number}
use Rattle.circuit.specs.Valuation.{digit_within, numbers_from}
use Rattle.circuit.specs.Next.{next_numbers, highest_write, next_rows, next_reads, next_mems}
use Rattle.sim_base.specs.Parts.{parts}
use Rattle.circuit.specs.Rounds.{standing_after, settled_samples, settling}
use Rattle.circuit.specs.Shown.{slot_number}
use Rattle.worked_rows.proofs.rows.worked_runs.Goals as goal

pub returns-clause-already_high : goal.returns-clause-already_high
unfolding gathered sig_number digit_within numbers_from next_numbers highest_write next_rows next_reads next_mems settling standing_after settled_samples parts slot_number
returns-clause-already_high c = refl

pub returns-clause-first_of_chain : goal.returns-clause-first_of_chain
unfolding gathered sig_number digit_within numbers_from next_numbers highest_write next_rows next_reads next_mems settling standing_after settled_samples parts slot_number
returns-clause-first_of_chain c = refl

pub returns-clause-second_of_chain : goal.returns-clause-second_of_chain
unfolding gathered sig_number digit_within numbers_from next_numbers highest_write next_rows next_reads next_mems settling standing_after settled_samples parts slot_number
returns-clause-second_of_chain c = refl

pub returns-clause-taken : goal.returns-clause-taken
unfolding gathered sig_number digit_within numbers_from next_numbers highest_write next_rows next_reads next_mems settling standing_after settled_samples parts slot_number
returns-clause-taken c = refl

pub returns-clause-divided : goal.returns-clause-divided
unfolding gathered sig_number digit_within numbers_from next_numbers highest_write next_rows next_reads next_mems settling standing_after settled_samples parts slot_number
returns-clause-divided c = refl

pub returns-clause-behind_divided : goal.returns-clause-behind_divided
unfolding gathered sig_number digit_within numbers_from next_numbers highest_write next_rows next_reads next_mems settling standing_after settled_samples parts slot_number
returns-clause-behind_divided c = refl

pub returns-clause-restless : goal.returns-clause-restless
unfolding gathered sig_number digit_within numbers_from next_numbers highest_write next_rows next_reads next_mems settling standing_after settled_samples parts slot_number
returns-clause-restless c = refl

pub returns-clause-transparent : goal.returns-clause-transparent
unfolding gathered sig_number digit_within numbers_from next_numbers highest_write next_rows next_reads next_mems settling standing_after settled_samples parts slot_number
returns-clause-transparent c = refl

pub returns-clause-old_row : goal.returns-clause-old_row
unfolding gathered sig_number digit_within numbers_from next_numbers highest_write next_rows next_reads next_mems settling standing_after settled_samples parts slot_number
returns-clause-old_row c = refl

pub returns-clause-highest_port : goal.returns-clause-highest_port
unfolding gathered sig_number digit_within numbers_from next_numbers highest_write next_rows next_reads next_mems settling standing_after settled_samples parts slot_number
returns-clause-highest_port c = refl
