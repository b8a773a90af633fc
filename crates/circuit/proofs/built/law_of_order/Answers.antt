use Rattle.circuit.specs.Valid.{item_fits}
use Rattle.circuit.proofs.Apart.{all_moved, names_before, names_sorted, numbers_from, numbers_to, scopes_from, scopes_to, shown_moved}
use Rattle.circuit.proofs.FirstSlots.{sums_from_0}
use Rattle.circuit.proofs.built.law_of_order.Goals as goal

pub returns-clause-rise : goal.returns-clause-rise
returns-clause-rise c made items apart moved sorted = names_sorted made items apart moved sorted

pub returns-clause-before : goal.returns-clause-before
returns-clause-before c items rise i j x y lt a b = names_before items rise i j x y lt a b

pub returns-clause-fit : goal.returns-clause-fit
returns-clause-fit c nets mems scopes made items moved fit = all_moved (item_fits nets mems scopes) made items moved fit

pub returns-clause-once : goal.returns-clause-once
returns-clause-once c net made items moved = shown_moved net made items moved

pub returns-clause-slots : goal.returns-clause-slots
returns-clause-slots c mems items sums = sums_from_0 mems items sums

pub returns-clause-scopes : goal.returns-clause-scopes
returns-clause-scopes c scopes apart = scopes_from scopes apart

pub returns-clause-scopes_apart : goal.returns-clause-scopes_apart
returns-clause-scopes_apart c scopes differ = scopes_to scopes differ

pub returns-clause-inputs : goal.returns-clause-inputs
returns-clause-inputs c inputs apart = numbers_from inputs apart

pub returns-clause-inputs_apart : goal.returns-clause-inputs_apart
returns-clause-inputs_apart c inputs differ = numbers_to inputs differ
