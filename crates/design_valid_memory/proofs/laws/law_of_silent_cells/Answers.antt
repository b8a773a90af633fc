use Rattle.design_valid_memory.proofs.Silent.{keeps_silent_cell}
use Rattle.design_valid_memory.proofs.laws.law_of_silent_cells.Goals as goal

pub returns : goal.returns
returns c here scope silent x = keeps_silent_cell here scope silent x
