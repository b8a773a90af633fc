use Rattle.design_valid_cells.proofs.Library.{keeps_library_cell}
use Rattle.design_valid_cells.proofs.laws.law_of_cells.Goals as goal

pub returns : goal.returns
returns c owner scope name l x is = keeps_library_cell owner scope name l x is
