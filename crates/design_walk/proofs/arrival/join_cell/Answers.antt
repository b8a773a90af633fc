use Rattle.std.proofs.Common.{List, ◌++◌, Ok, ap, sym, ◌∙◌}
use Rattle.rtlil_tree.specs.declared.module.Connection.{Connection}
use Rattle.design_parts.specs.Parts.{Made}
use Rattle.design_instances.specs.Joins.{join_drives}
use Rattle.design_walk.proofs.Arrivals.{joins_ok}
use Rattle.design_walk.proofs.arrival.join_cell.Goals as goal

pub returns : goal.returns
returns c =
    let old = c.args.draft.now in
    joins_ok c.args.within.now c.args.around.now c.args.cell.now c.args.unit.now c.args.ports.now old c.requires
    ∙ ap Ok (sym (c.in_ok-join.ensures ∙ ap (λ (cs : List Connection). let new : Made = record old { drives = old.drives ++ join_drives c.args.within.now c.args.around.now c.args.ports.now cs } in new) c.as_slice.ensures))
