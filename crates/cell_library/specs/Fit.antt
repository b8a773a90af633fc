-- The widths of a cell that passes its checks: they are those that a valid circuit asks for.
use Rattle.std.specs.Prelude.{◌≡◌, ℕ, List, true, Option, Some, None, slice_get, if◌then◌else◌}
use Rattle.circuit.specs.Valid.{Widths, widths_fit, Ports, ports_of_kind, width_where}
use Rattle.cell_library.specs.declared.line.Gives.{Gives}
use Rattle.cell_library.specs.declared.line.Gives.TheVariants as gives
use Rattle.cell_library.specs.declared.line.Parameter.TheVariants as p
use Rattle.cell_library.specs.declared.line.Port.{Port}
use Rattle.cell_library.specs.declared.line.PortName.{PortName}
use Rattle.cell_library.specs.declared.line.PortName.TheVariants as port
use Rattle.cell_library.specs.declared.written.Connection.{Connection}
use Rattle.cell_library.specs.declared.written.Setting.{Setting}
use Rattle.cell_library.specs.Checks.{first_fault, line_checks, port_named, port_width}
use Rattle.cell_library.specs.Lines.{TypeLine}
use Rattle.cell_library.specs.Names.{port_name}
use Rattle.cell_library.specs.Table.{line_of}
use Rattle.cell_library.specs.Values.{number, span_width}

abbrev pub port_of : TypeLine → PortName → Option Port
port_of l name = port_named l.ports (port_name name)

abbrev pub width_of : TypeLine → List Setting → PortName → ℕ
width_of l settings name = port_width settings (port_of l name)

-- ---- cells without a state

abbrev pub cell_widths : TypeLine → List Setting → Widths
cell_widths l settings = record {
  width = width_of l settings port.Y;
  offset = number settings p.Offset;
  a = width_of l settings port.A;
  b = width_of l settings port.B;
  s = width_of l settings port.S;
}

-- ---- registers and latches

-- the widths of a register's signals
pub record RegisterWidths : Type 0 where
  pub clk : ℕ
  pub d : ℕ
  pub en : ℕ
  pub set : ℕ
  pub clr : ℕ
  pub load : ℕ
  pub ad : ℕ

-- those that a valid circuit asks for, by the ports of the register's kind and its width
abbrev pub asked_widths : Ports → ℕ → RegisterWidths
asked_widths ports width = record {
  clk = width_where ports.clk 1;
  d = width_where ports.d width;
  en = width_where ports.en 1;
  set = width_where ports.bits width;
  clr = if ports.bits then width else width_where ports.reset 1;
  load = width_where ports.load 1;
  ad = width_where ports.load width;
}

abbrev pub first_of : Option Port → Option Port → Option Port
first_of None other = other
first_of (Some one) other = Some one

-- what clears or resets: no type has two of these ports
abbrev pub clear_port : TypeLine → Option Port
clear_port l = first_of (port_of l port.Clr) (first_of (port_of l port.Arst) (port_of l port.Srst))

abbrev pub register_widths : TypeLine → List Setting → RegisterWidths
register_widths l settings = record {
  clk = width_of l settings port.Clk;
  d = width_of l settings port.D;
  en = width_of l settings port.En;
  set = width_of l settings port.Set;
  clr = port_width settings (clear_port l);
  load = width_of l settings port.Aload;
  ad = width_of l settings port.Ad;
}

-- ---- all types

abbrev pub GivesFitting : Gives → TypeLine → List Setting → Type 0
GivesFitting (gives.Cell o) l settings = widths_fit o (cell_widths l settings) ≡ true
GivesFitting (gives.Register k) l settings = register_widths l settings ≡ asked_widths (ports_of_kind k) (width_of l settings port.Q)

-- a cell of a line that passes its checks has widths that fit
abbrev pub Fits : TypeLine → Type 0
Fits l = (settings : List Setting) (cs : List Connection) → first_fault (line_checks l settings cs) ≡ None → GivesFitting l.gives l settings

-- so has a cell of each type
abbrev pub AreFitting : Type 0
AreFitting = (name : List ℕ) (l : TypeLine) → line_of name ≡ Some l → Fits l

-- each port of a cell that passes its checks is joined to as many bits as its type has there
abbrev pub AreJoined : Type 0
AreJoined = (l : TypeLine) (settings : List Setting) (cs : List Connection) (i : ℕ) (c : Connection) → first_fault (line_checks l settings cs) ≡ None
    → slice_get cs i ≡ Some c → (x : Port) × (port_named l.ports c.port ≡ Some x) × (c.width ≡ span_width settings x.span)
