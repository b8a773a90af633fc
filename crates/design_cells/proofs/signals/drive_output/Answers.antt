use Rattle.std.proofs.Common.{◌≡◌, [], List, None, Option, Some, ap, sym, ◌∙◌, option_map}
use Rattle.circuit.specs.declared.netlist.Piece.{Piece}
use Rattle.cell_library.specs.Names.{port_name}
use Rattle.rtlil_signals.specs.Drives.{by_at}
use Rattle.rtlil_signals.specs.Spans.{pieces_of}
use Rattle.design_wires.specs.Connects.{or_none}
use Rattle.design_cells.specs.Joined.{Joined, joined_at, pieces_in, seen_port, seen_ports}
use Rattle.design_cells.proofs.Steps.{no_drives}
use Rattle.design_cells.proofs.signals.drive_output.Goals as goal

pub returns-in_default : goal.returns-in_default
returns-in_default c =
    let none : ◌≡◌ {A = Option Joined} (joined_at (seen_ports c.args.ports.now) (port_name c.args.name)) None =
    ap (joined_at (seen_ports c.args.ports.now)) (sym c.name.ensures) ∙ sym (rw c.in_default.is at c.joined_at.ensures) in
    no_drives c.args.draft.now (by_at c.args.source) (pieces_in (joined_at (seen_ports c.args.ports.now) (port_name c.args.name))) (ap pieces_in none)

pub returns-in_default-spans : goal.returns-in_default-spans
returns-in_default-spans c =
    let some : ◌≡◌ {A = Option Joined} (joined_at (seen_ports c.args.ports.now) (port_name c.args.name)) (Some (seen_port c.in-Some.port.now)) =
    ap (joined_at (seen_ports c.args.ports.now)) (sym c.name.ensures) ∙ sym (rw c.in-Some.is at c.joined_at.ensures) in
    let empty : pieces_in (Some (seen_port c.in-Some.port.now)) ≡ [] = ap (λ o. or_none (option_map pieces_of o)) c.in_default-spans.is in
    no_drives c.args.draft.now (by_at c.args.source) (pieces_in (joined_at (seen_ports c.args.ports.now) (port_name c.args.name))) (ap pieces_in some ∙ empty)
