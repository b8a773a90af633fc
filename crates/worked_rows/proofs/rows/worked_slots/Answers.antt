use Rattle.std.proofs.Common.{refl}
use Rattle.circuit.specs.Signal.{gathered, sig_number}
use Rattle.circuit.specs.Valuation.{digit_within, numbers_from}
use Rattle.circuit.specs.Next.{next_numbers, highest_write, next_rows, next_reads, next_mems}
use Rattle.sim_base.specs.Parts.{parts}
use Rattle.circuit.specs.Rounds.{standing_after, nets_after, settling}
use Rattle.circuit.specs.Shown.{some_edge, slot_number}
use Rattle.worked_rows.proofs.rows.worked_slots.Goals as goal

pub returns-clause-register : goal.returns-clause-register
unfolding gathered sig_number digit_within numbers_from next_numbers highest_write next_rows next_reads next_mems settling standing_after parts nets_after some_edge slot_number
returns-clause-register c = refl

pub returns-clause-other_row : goal.returns-clause-other_row
unfolding gathered sig_number digit_within numbers_from next_numbers highest_write next_rows next_reads next_mems settling standing_after parts nets_after some_edge slot_number
returns-clause-other_row c = refl

pub returns-clause-row : goal.returns-clause-row
unfolding gathered sig_number digit_within numbers_from next_numbers highest_write next_rows next_reads next_mems settling standing_after parts nets_after some_edge slot_number
returns-clause-row c = refl

pub returns-clause-assertion : goal.returns-clause-assertion
unfolding gathered sig_number digit_within numbers_from next_numbers highest_write next_rows next_reads next_mems settling standing_after parts nets_after some_edge slot_number
returns-clause-assertion c = refl

pub returns-clause-assumption : goal.returns-clause-assumption
unfolding gathered sig_number digit_within numbers_from next_numbers highest_write next_rows next_reads next_mems settling standing_after parts nets_after some_edge slot_number
returns-clause-assumption c = refl

pub returns-clause-no_slot : goal.returns-clause-no_slot
unfolding gathered sig_number digit_within numbers_from next_numbers highest_write next_rows next_reads next_mems settling standing_after parts nets_after some_edge slot_number
returns-clause-no_slot c = refl

pub returns-clause-assert_hits : goal.returns-clause-assert_hits
unfolding gathered sig_number digit_within numbers_from next_numbers highest_write next_rows next_reads next_mems settling standing_after parts nets_after some_edge slot_number
returns-clause-assert_hits c = refl

pub returns-clause-assume_hits : goal.returns-clause-assume_hits
unfolding gathered sig_number digit_within numbers_from next_numbers highest_write next_rows next_reads next_mems settling standing_after parts nets_after some_edge slot_number
returns-clause-assume_hits c = refl

pub returns-clause-no_hits : goal.returns-clause-no_hits
unfolding gathered sig_number digit_within numbers_from next_numbers highest_write next_rows next_reads next_mems settling standing_after parts nets_after some_edge slot_number
returns-clause-no_hits c = refl
