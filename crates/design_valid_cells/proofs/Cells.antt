-- A cell without a state fits where its widths do.
use Rattle.std.proofs.Common.{◌≡◌, ℕ, ◌+◌, ◌-◌, ◌^◌, ◌≤◌, min, List, Bool, true, false, None, refl, ◌∙◌, ap, arith, cond, length}
use Rattle.std.specs.Prelude.{nat_le}
use Rattle.std.proofs.lemmas.Bool.{and_from, and_parts, le-leb}
use Rattle.circuit.specs.Signal.{sig_width}
use Rattle.circuit.specs.Valid.{Widths, cell_fits, cell_holds, sig_fits, widest, widths_fit, widths_of}
use Rattle.circuit.specs.declared.cell.Op.{Op}
use Rattle.circuit.specs.declared.fault.DesignKind.TheVariants as kind
use Rattle.circuit.specs.declared.netlist.Net.{Net}
use Rattle.circuit.specs.declared.netlist.Piece.{Piece}
use Rattle.cell_library.specs.Checks.{first_fault, limit_checks, line_checks}
use Rattle.cell_library.specs.Fit.{cell_widths, width_of}
use Rattle.cell_library.specs.Lines.{TypeLine}
use Rattle.cell_library.specs.Names.{port_name}
use Rattle.cell_library.specs.Values.{number}
use Rattle.cell_library.specs.declared.line.Parameter.TheVariants as parameter
use Rattle.cell_library.specs.declared.line.PortName.{PortName}
use Rattle.cell_library.specs.declared.line.PortName.TheVariants as port
use Rattle.cell_library.specs.declared.written.Setting.{Setting}
use Rattle.rtlil_signals.specs.Drives.{by_at}
use Rattle.rtlil_signals.specs.declared.drives.Source.TheVariants as source
use Rattle.design_parts.specs.Parts.{Made, both_made}
use Rattle.design_cells.specs.Cells.{cell_made, cell_of, has, offset_of, signal_at}
use Rattle.design_cells.specs.Joined.{Joined, connections_of, joined_at, pieces_in}
use Rattle.design_valid.specs.Wired.{AreWired}
use Rattle.design_valid.proofs.Driven.{driven_fits}
use Rattle.design_valid.proofs.Lists.{all_one, last_stands}
use Rattle.design_valid.proofs.Wiring.{drivers_in}
use Rattle.design_valid_cells.proofs.Offsets.{less_offset}
use Rattle.design_valid_cells.proofs.Ports.{all_fit, pieces_fit, pieces_within, port_within, signal_of, signal_wide}

offset_within : (l : TypeLine) (settings : List Setting) → offset_of l settings ≤ number settings parameter.Offset
offset_within l settings = by (has l parameter.Offset)
  where
    by : (b : Bool) → cond b (min (number settings parameter.Offset) (2 ^ 32 - 1)) 0 ≤ number settings parameter.Offset
    by true = omega arith
    by false = omega arith

module _ (l : TypeLine) (settings : List Setting) (js : List Joined) (passed : first_fault (line_checks l settings (connections_of js)) ≡ None) (limits : first_fault (limit_checks settings widest kind.TooWide l.ports) ≡ None) (o : Op) (fits : widths_fit o (cell_widths l settings) ≡ true) where
  abbrev wide : ℕ → ℕ → ℕ → Widths
  wide a b s = record { width = width_of l settings port.Y; offset = offset_of l settings; a = a; b = b; s = s }

  widths_are : widths_of (cell_of o l settings js) ≡ wide (width_of l settings port.A) (width_of l settings port.B) (width_of l settings port.S)
  widths_are =
      let a = signal_wide l settings js passed limits port.A in
      let b = signal_wide l settings js passed limits port.B in
      let s = signal_wide l settings js passed limits port.S in
      ap (λ n. wide n (sig_width (signal_at l settings js port.B)) (sig_width (signal_at l settings js port.S))) a
      ∙ ap (λ n. wide (width_of l settings port.A) n (sig_width (signal_at l settings js port.S))) b
      ∙ ap (λ n. wide (width_of l settings port.A) (width_of l settings port.B) n) s

  module _ (nets : List Net) (fit : all_fit nets js ≡ true) where
    signal_fits : (name : PortName) → sig_fits nets (signal_at l settings js name) ≡ true
    signal_fits name = (and_parts (sig_fits nets (signal_at l settings js name)) _ (signal_of l settings js passed limits nets fit name)).0

    one_fits : cell_fits nets (cell_of o l settings js) ≡ true
    one_fits =
        let widths : widths_fit o (widths_of (cell_of o l settings js)) ≡ true = ap (widths_fit o) widths_are ∙ less_offset o (cell_widths l settings) (offset_of l settings) (offset_within l settings) fits in
        and_from (sig_fits nets (signal_at l settings js port.A)) _ (signal_fits port.A)
        (and_from (sig_fits nets (signal_at l settings js port.B)) _ (signal_fits port.B)
        (and_from (sig_fits nets (signal_at l settings js port.S)) _ (signal_fits port.S)
        (and_from (nat_le (width_of l settings port.Y) widest) (widths_fit o (widths_of (cell_of o l settings js))) (le-leb (width_of l settings port.Y) widest (port_within l settings js passed limits port.Y)) widths)))

  pub cell_wired : (m : Made) → let made = cell_made o l settings js m in all_fit (both_made m made).nets js ≡ true → AreWired (both_made m made) made
  cell_wired m fit =
      let made : Made = cell_made o l settings js m in
      let all : Made = both_made m made in
      let ps : List Piece = pieces_in (joined_at js (port_name port.Y)) in
      let few = pieces_within l settings js passed limits port.Y in
      record {
        nets = refl;
        drives = driven_fits (drivers_in all) (by_at (source.Cell (length m.cells))) 0 ps (pieces_fit all.nets js (port_name port.Y) fit)
            (λ at width le. ap (cell_holds (at + width)) (last_stands m.cells (cell_of o l settings js)) ∙ le-leb (at + width) (width_of l settings port.Y) (omega (arith, few, le)));
        cells = all_one (cell_fits all.nets) (cell_of o l settings js) (one_fits all.nets fit);
        regs = refl;
        mems = refl;
        diags = refl;
      }
