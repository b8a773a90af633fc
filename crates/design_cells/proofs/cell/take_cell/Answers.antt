use Rattle.std.proofs.Common.{◌≡◌, Ok, ap, sym, ◌∙◌, rules}
use Rattle.cell_library.specs.Table.{seen}
use Rattle.design_cells.specs.Joined.{seen_ports}
use Rattle.design_cells.proofs.Steps.{taken_fails, taken_ok}
use Rattle.design_cells.proofs.cell.take_cell.Goals as goal

pub returns-in_err-allowed : goal.returns-in_err-allowed
returns-in_err-allowed c =
    let h = taken_fails c.args.owner.now c.args.name.now (seen c.args.line.now) c.args.written.now c.args.settings.now (seen_ports c.args.ports.now) c.args.draft.now c.in_err-allowed.field-0.0 c.in_err-allowed.ensures.passes in
    search rules

pub returns : goal.returns
returns c = taken_ok c.args.owner.now c.args.name.now (seen c.args.line.now) c.args.written.now c.args.settings.now (seen_ports c.args.ports.now) c.args.draft.now c.in_ok-allowed.ensures.passes ∙ ap Ok (sym c.in_ok-push_made.ensures)
