-- A register or a latch fits where its widths do.
use Rattle.std.proofs.Common.{◌≡◌, ℕ, ◌+◌, ◌==◌, ◌&&◌, List, Bool, true, false, Option, Some, None, refl, sym, ◌∙◌, ap, arith, cond, length, find, bytes_eq}
use Rattle.std.specs.Prelude.{nat_le}
use Rattle.std.specs.Option.{is_some}
use Rattle.std.proofs.lemmas.Bool.{and_from, eq-eqb, le-leb}
use Rattle.sim_base.specs.BitValue.{BitValue, zeros}
use Rattle.circuit.specs.Valid.{ports_of_kind, register_fits, register_has, register_holds, sig_of, widest}
use Rattle.circuit.specs.declared.fault.DesignKind.TheVariants as kind
use Rattle.circuit.specs.declared.netlist.Net.{Net}
use Rattle.circuit.specs.declared.netlist.Piece.{Piece}
use Rattle.circuit.specs.declared.register.Reg.{Reg}
use Rattle.circuit.specs.declared.register.RegKind.{RegKind}
use Rattle.cell_library.specs.Checks.{first_fault, limit_checks, line_checks, port_width}
use Rattle.cell_library.specs.Fit as library
use Rattle.cell_library.specs.Fit.{RegisterWidths, asked_widths, first_of, port_of, register_widths, width_of}
use Rattle.cell_library.specs.Lines.{TypeLine}
use Rattle.cell_library.specs.Names.{parameter_name, port_name}
use Rattle.cell_library.specs.declared.line.Parameter.{Parameter}
use Rattle.cell_library.specs.declared.line.Parameter.TheVariants as parameter
use Rattle.cell_library.specs.declared.line.Port.{Port}
use Rattle.cell_library.specs.declared.line.PortName.{PortName}
use Rattle.cell_library.specs.declared.line.PortName.TheVariants as port
use Rattle.cell_library.specs.declared.written.Setting.{Setting}
use Rattle.rtlil_tree.specs.declared.module.Setting.{Setting as WrittenSetting}
use Rattle.rtlil_signals.specs.Drives.{by_at}
use Rattle.rtlil_signals.specs.declared.drives.Source.TheVariants as source
use Rattle.design_parts.specs.Parts.{Made, both_made}
use Rattle.design_cells.specs.Cells.{bits_at, bits_or_zeros, clear_port, has, register_made, register_of, reset_value, signal_at}
use Rattle.design_cells.specs.Joined.{Joined, connections_of, joined_at, pieces_in}
use Rattle.design_valid.specs.Wired.{AreWired}
use Rattle.design_valid.proofs.Driven.{driven_fits}
use Rattle.design_valid.proofs.Lists.{all_one, last_stands}
use Rattle.design_valid.proofs.Wiring.{drivers_in}
use Rattle.design_valid_cells.proofs.Ports.{all_fit, pieces_fit, pieces_within, port_within, signal_of}

-- ---- what a reset gives has the register's width

bits_wide : (o : Option WrittenSetting) (width : ℕ) → (bits_or_zeros o width).width ≡ width
bits_wide None width = refl
bits_wide (Some s) width = refl

reset_wide : (l : TypeLine) (ss : List WrittenSetting) (width : ℕ) → (reset_value l ss width).width ≡ width
reset_wide l ss width = by (has l parameter.ArstValue) (has l parameter.SrstValue)
  where
    at : Parameter → BitValue
    at p = bits_at ss p width

    at_wide : (p : Parameter) → (bits_at ss p width).width ≡ width
    at_wide p = bits_wide (find (λ s. bytes_eq s.name (parameter_name p)) ss) width

    by : (a s : Bool) → (cond a (bits_at ss parameter.ArstValue width) (cond s (bits_at ss parameter.SrstValue width) (zeros width))).width ≡ width
    by true s = at_wide parameter.ArstValue
    by false true = at_wide parameter.SrstValue
    by false false = refl

-- ---- the port that clears

clear_is : (l : TypeLine) (settings : List Setting) → width_of l settings (clear_port l) ≡ port_width settings (library.clear_port l)
clear_is l settings = by (port_of l port.Clr) (port_of l port.Arst) refl refl
  where
    by : (c a : Option Port) → port_of l port.Clr ≡ c → port_of l port.Arst ≡ a → width_of l settings (cond (is_some c) port.Clr (cond (is_some a) port.Arst port.Srst)) ≡ port_width settings (first_of c (first_of a (port_of l port.Srst)))
    by None None e f = refl
    by None (Some p) e f = ap (port_width settings) f
    by (Some p) a e f = ap (port_width settings) e

module _ (l : TypeLine) (settings : List Setting) (js : List Joined) (passed : first_fault (line_checks l settings (connections_of js)) ≡ None) (limits : first_fault (limit_checks settings widest kind.TooWide l.ports) ≡ None) (k : RegKind) (ss : List WrittenSetting)
    (are : register_widths l settings ≡ asked_widths (ports_of_kind k) (width_of l settings port.Q)) where
  abbrev one : Reg
  one = register_of k l ss settings js

  abbrev asked : RegisterWidths
  asked = asked_widths (ports_of_kind k) (width_of l settings port.Q)

  module _ (nets : List Net) (fit : all_fit nets js ≡ true) where
    as_asked : (name : PortName) (width : ℕ) → width_of l settings name ≡ width → sig_of nets width (signal_at l settings js name) ≡ true
    as_asked name width e = ap (λ w. sig_of nets w (signal_at l settings js name)) (sym e) ∙ signal_of l settings js passed limits nets fit name

    has_ports : register_has nets (ports_of_kind k) one ≡ true
    has_ports =
        and_from (sig_of nets asked.clk one.clk) _ (as_asked port.Clk asked.clk (ap (λ (w : RegisterWidths). w.clk) are))
        (and_from (sig_of nets asked.d one.d) _ (as_asked port.D asked.d (ap (λ (w : RegisterWidths). w.d) are))
        (and_from (sig_of nets asked.en one.en) _ (as_asked port.En asked.en (ap (λ (w : RegisterWidths). w.en) are))
        (and_from (sig_of nets asked.set one.set) _ (as_asked port.Set asked.set (ap (λ (w : RegisterWidths). w.set) are))
        (and_from (sig_of nets asked.clr one.clr) _ (as_asked (clear_port l) asked.clr (clear_is l settings ∙ ap (λ (w : RegisterWidths). w.clr) are))
        (and_from (sig_of nets asked.load one.load) (sig_of nets asked.ad one.ad) (as_asked port.Aload asked.load (ap (λ (w : RegisterWidths). w.load) are))
        (as_asked port.Ad asked.ad (ap (λ (w : RegisterWidths). w.ad) are)))))))

    one_fits : register_fits nets one ≡ true
    one_fits =
        and_from (nat_le one.width widest) _ (le-leb one.width widest (port_within l settings js passed limits port.Q))
        (and_from (register_has nets (ports_of_kind k) one) (one.value.width == one.width && one.init.width == one.width) has_ports
        (and_from (one.value.width == one.width) (one.init.width == one.width) (eq-eqb one.value.width one.width (reset_wide l ss one.width)) (eq-eqb one.width one.width refl)))

  pub register_wired : (m : Made) → let made = register_made k l ss settings js m in all_fit (both_made m made).nets js ≡ true → AreWired (both_made m made) made
  register_wired m fit =
      let made : Made = register_made k l ss settings js m in
      let all : Made = both_made m made in
      let ps : List Piece = pieces_in (joined_at js (port_name port.Q)) in
      let few = pieces_within l settings js passed limits port.Q in
      record {
        nets = refl;
        drives = driven_fits (drivers_in all) (by_at (source.Register (length m.regs))) 0 ps (pieces_fit all.nets js (port_name port.Q) fit)
            (λ at width le. ap (register_holds (at + width)) (last_stands m.regs one) ∙ le-leb (at + width) one.width (omega (arith, few, le)));
        cells = refl;
        regs = all_one (register_fits all.nets) one (one_fits all.nets fit);
        mems = refl;
        diags = refl;
      }
