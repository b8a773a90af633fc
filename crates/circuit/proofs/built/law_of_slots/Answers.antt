use Rattle.circuit.proofs.FirstSlots.{diag_shown, diag_width, item_shown, item_width, items_within, first_is_sum}
use Rattle.circuit.proofs.Slots.{slots_count}
use Rattle.circuit.proofs.built.law_of_slots.Goals as goal

pub returns-clause-first : goal.returns-clause-first
returns-clause-first c circuit n i valid at = first_is_sum circuit n i valid at

pub returns-clause-within : goal.returns-clause-within
returns-clause-within c circuit n i valid at = items_within circuit n i valid at

pub returns-clause-item : goal.returns-clause-item
returns-clause-item c run k s n i p valid stands at lt = item_shown run k s n i p valid stands at lt

pub returns-clause-diagnostic : goal.returns-clause-diagnostic
returns-clause-diagnostic c run k s n d stands at = diag_shown run k s n d stands at

pub returns-clause-count : goal.returns-clause-count
returns-clause-count c circuit = slots_count circuit

pub returns-clause-item_width : goal.returns-clause-item_width
returns-clause-item_width c circuit n i p valid at lt = item_width circuit n i p valid at lt

pub returns-clause-diagnostic_width : goal.returns-clause-diagnostic_width
returns-clause-diagnostic_width c circuit n d at = diag_width circuit n d at
