use Rattle.std.proofs.Common.{◌≡◌, List, ◌++◌, append_assoc, ap, sym, ◌∙◌}
use Rattle.circuit.specs.declared.netlist.Drive.{Drive}
use Rattle.design_parts.specs.Parts.{Made}
use Rattle.design_cells.specs.Joined.{seen_ports}
use Rattle.design_memory.specs.Memories.{drives_of, read_drives}
use Rattle.design_memory.proofs.Lists.{flat_more}
use Rattle.design_memory.proofs.ports.drive_reads.Goals as goal

pub loop-port-preserved : goal.loop-port-preserved
loop-port-preserved c =
    let m = c.args.draft.now in
    let one = read_drives c.args.memory c.args.shape.now (seen_ports c.args.ports.now) in
    let port = c.loop-port.port in
    let before = drives_of c.args.memory c.args.shape.now (seen_ports c.args.ports.now) port in
    c.in_ok-drive_read.ensures
    ∙ ap (λ (d : Made). let q : Made = record d { drives = d.drives ++ one port } in q) c.loop-port.invariant
    ∙ ap (λ (ds : List Drive). let q : Made = record m { drives = ds } in q) (append_assoc m.drives before (one port) ∙ ap (λ ds. m.drives ++ ds) (sym (flat_more one port)))
