use Rattle.memory_cells.proofs.Parts.{copied_field}
use Rattle.memory_cells.proofs.rows.read_row.Goals as goal

pub returns : goal.returns
returns c = copied_field c.args.rows.now.number c.args.at c.args.into.now.number c.width-width.result c.copy.new.self c.args.into.now.width c.copy.ensures.width c.width-width.ensures.value c.copy.ensures.below c.copy.ensures.bits
