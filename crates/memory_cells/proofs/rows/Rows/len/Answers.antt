use Rattle.std.proofs.Common.{length, sym, ◌∙◌, ap}
use Rattle.memory_cells.specs.Rows.{RowValues}
use Rattle.sim_base.proofs.Parts.{length-parts}
use Rattle.memory_cells.proofs.rows.Rows.len.Goals as goal

pub returns : goal.returns
returns c = sym (ap (λ (r : RowValues). length r.rows) (sym c.self.view_is) ∙ length-parts c.self.inside.width c.self.inside.size c.self.inside.rows.number)
