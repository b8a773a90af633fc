use Rattle.std.proofs.Common.{map, ap, ◌∙◌}
use Rattle.stimulus_text.specs.Numbers.{number_of}
use Rattle.stimulus_blocks.specs.Rows.{rows_from}
use Rattle.stimulus_blocks.proofs.RowTables.{rows_none}
use Rattle.stimulus_blocks.proofs.rows.Rows.new.Goals as goal

pub returns : goal.returns
returns c = ap (λ os. rows_from 0 os (map number_of c.new-2.result.items)) c.new.ensures.items ∙ rows_none 0 (map number_of c.new-2.result.items)
