use Rattle.std.proofs.Common.{List, map, sym, ap, ◌∙◌, length}
use Rattle.stimulus_text.specs.Numbers.{number_of}
use Rattle.stimulus_blocks.specs.Rows.{BlockRow}
use Rattle.stimulus_blocks.proofs.RowTables.{rows_length}
use Rattle.stimulus_blocks.proofs.rows.Rows.len.Goals as goal

pub returns : goal.returns
returns c = let l = c.self.inside.offsets.ok.0 in c.len.ensures ∙ l ∙ sym (rows_length c.self.inside.columns c.self.inside.offsets.items (map number_of c.self.inside.values.items)) ∙ ap (λ (rs : List BlockRow). length rs) c.self.view_is
