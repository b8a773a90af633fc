use Rattle.std.proofs.Common.{◌∙◌, ◌++◌, List, flat_map, take, ap, sym, append_assoc}
use Rattle.circuit.specs.declared.netlist.Drive.{Drive}
use Rattle.design_cells.specs.Joined.{seen_ports}
use Rattle.design_instances.specs.Joins.{missing_drives}
use Rattle.design_parts.specs.Parts.{Made}
use Rattle.design_instances.proofs.Steps.{taken_more}
use Rattle.design_instances.proofs.joins.join_others.Goals as goal

pub loop-at-preserved : goal.loop-at-preserved
loop-at-preserved c =
    let f = missing_drives c.args.inside.now (seen_ports c.args.joined.now) in
    let before = c.args.draft.now.drives in
    let with : List Drive → Made = (λ (ds : List Drive). record c.args.draft.now { drives = ds }) in
    c.in_ok-join_missing.ensures
    ∙ ap (λ (m : Made). let n : Made = record m { drives = m.drives ++ f (c.entry.result.0.now, c.entry.result.1) } in n) c.loop-at.invariant
    ∙ ap with (append_assoc before (flat_map f (take c.loop-at.at c.args.ports.now)) (f (c.entry.result.0.now, c.entry.result.1)))
    ∙ ap (λ (ds : List Drive). with (before ++ ds)) (sym (taken_more f c.args.ports.now c.loop-at.at (c.entry.result.0.now, c.entry.result.1) c.entry.ensures))
