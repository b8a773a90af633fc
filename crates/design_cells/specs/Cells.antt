-- What a cell of the library becomes.
use Rattle.std.specs.Prelude.{ℕ, ◌-◌, ◌^◌, ◌==◌, min, List, [], ◌∷◌, length, Bool, not, ◌&&◌, ◌||◌, Option, Some, None, bytes_eq, find, if◌then◌else◌}
use Rattle.std.specs.List.{list_any}
use Rattle.std.specs.Option.{is_some}
use Rattle.sim_base.specs.BitValue.{BitValue, zeros}
use Rattle.circuit.specs.declared.cell.Cell.{Cell}
use Rattle.circuit.specs.declared.cell.Op.{Op}
use Rattle.circuit.specs.declared.netlist.Piece.{Piece}
use Rattle.circuit.specs.declared.netlist.Piece.TheVariants as piece
use Rattle.circuit.specs.declared.register.Polarity.{Polarity}
use Rattle.circuit.specs.declared.register.Reg.{Reg}
use Rattle.circuit.specs.declared.register.RegKind.{RegKind}
use Rattle.cell_library.specs.Checks.{port_named, port_width}
use Rattle.cell_library.specs.Lines.{TypeLine}
use Rattle.cell_library.specs.Names.{parameter_name, port_name}
use Rattle.cell_library.specs.Values.{number}
use Rattle.cell_library.specs.declared.line.Gives.{Gives}
use Rattle.cell_library.specs.declared.line.Gives.TheVariants as gives
use Rattle.cell_library.specs.declared.line.Parameter.{Parameter}
use Rattle.cell_library.specs.declared.line.Parameter.TheVariants as parameter
use Rattle.cell_library.specs.declared.line.PortName.{PortName}
use Rattle.cell_library.specs.declared.line.PortName.TheVariants as port
use Rattle.cell_library.specs.declared.written.Setting.{Setting}
use Rattle.rtlil_tree.specs.declared.module.Cell.{Cell as Written}
use Rattle.rtlil_tree.specs.declared.module.Setting.{Setting as WrittenSetting}
use Rattle.rtlil_signals.specs.Drives.{by_at, driven_from}
use Rattle.rtlil_signals.specs.Signals.{Scope, whole}
use Rattle.rtlil_signals.specs.Spans.{value_part}
use Rattle.rtlil_signals.specs.Values.{const_value}
use Rattle.rtlil_signals.specs.declared.drives.Source.TheVariants as source
use Rattle.design_parts.specs.Parts.{Made, Walk, give, guard, none_made}
use Rattle.design_cells.specs.Joined.{Joined, joined_at, joined_in, pieces_in, settings_of}
use Rattle.design_cells.specs.Rules.{has_room, kind_checks, located}

-- ---- what a cell reads of its settings

abbrev pub has : TypeLine → Parameter → Bool
has l p = list_any (λ q. bytes_eq (parameter_name p) (parameter_name q)) l.parameters

-- a parameter of the type, as a flag
abbrev pub flag : TypeLine → List Setting → Parameter → Bool
flag l settings p = has l p && not (number settings p == 0)

abbrev pub width_at : TypeLine → List Setting → PortName → ℕ
width_at l settings name = port_width settings (port_named l.ports (port_name name))

-- the signal at a port of the type; where nothing is joined, zeros of its width
abbrev pub signal_or_zeros : Option Joined → ℕ → List Piece
signal_or_zeros (Some j) width = pieces_in (Some j)
signal_or_zeros None width = whole (piece.Const (zeros width))

abbrev pub signal_at : TypeLine → List Setting → List Joined → PortName → List Piece
signal_at l settings js name = signal_or_zeros (joined_at js (port_name name)) (width_at l settings name)

-- ---- a cell without a state

-- an offset is a number of 32 bits
abbrev pub offset_of : TypeLine → List Setting → ℕ
offset_of l settings = if has l parameter.Offset then min (number settings parameter.Offset) (2 ^ 32 - 1) else 0

abbrev pub cell_of : Op → TypeLine → List Setting → List Joined → Cell
cell_of op l settings js = record {
  op = op;
  a = signal_at l settings js port.A;
  b = signal_at l settings js port.B;
  s = signal_at l settings js port.S;
  a_signed = flag l settings parameter.ASigned;
  b_signed = flag l settings parameter.BSigned;
  width = width_at l settings port.Y;
  offset = offset_of l settings;
}

-- a cell drives what its output is joined to
abbrev pub cell_made : Op → TypeLine → List Setting → List Joined → Made → Made
cell_made op l settings js m = record none_made {
  cells = cell_of op l settings js ∷ [];
  drives = driven_from (by_at (source.Cell (length m.cells))) 0 (pieces_in (joined_at js (port_name port.Y)));
}

-- ---- a register or a latch

abbrev pub has_port : TypeLine → PortName → Bool
has_port l name = is_some (port_named l.ports (port_name name))

-- what clears it or resets it: no type has two of these ports
abbrev pub clear_port : TypeLine → PortName
clear_port l = if has_port l port.Clr then port.Clr else if has_port l port.Arst then port.Arst else port.Srst

abbrev pub polarity_of : TypeLine → List Setting → Polarity
polarity_of l settings = record {
  clk = flag l settings parameter.ClkPolarity;
  en = flag l settings parameter.EnPolarity;
  set = flag l settings parameter.SetPolarity;
  clr = flag l settings parameter.ClrPolarity || (flag l settings parameter.ArstPolarity || flag l settings parameter.SrstPolarity);
  load = flag l settings parameter.AloadPolarity;
}

-- the bits of a parameter, so many of them
abbrev pub bits_or_zeros : Option WrittenSetting → ℕ → BitValue
bits_or_zeros None width = zeros width
bits_or_zeros (Some s) width = value_part (const_value s.value) 0 width

abbrev pub bits_at : List WrittenSetting → Parameter → ℕ → BitValue
bits_at ss p width = bits_or_zeros (find (λ s. bytes_eq s.name (parameter_name p)) ss) width

-- what a reset gives
abbrev pub reset_value : TypeLine → List WrittenSetting → ℕ → BitValue
reset_value l ss width =
    if has l parameter.ArstValue then bits_at ss parameter.ArstValue width else
    if has l parameter.SrstValue then bits_at ss parameter.SrstValue width else zeros width

-- the value before the first sample is not looked for here: it is 0
abbrev pub register_of : RegKind → TypeLine → List WrittenSetting → List Setting → List Joined → Reg
register_of kind l ss settings js = record {
  kind = kind;
  width = width_at l settings port.Q;
  clk = signal_at l settings js port.Clk;
  d = signal_at l settings js port.D;
  en = signal_at l settings js port.En;
  set = signal_at l settings js port.Set;
  clr = signal_at l settings js (clear_port l);
  load = signal_at l settings js port.Aload;
  ad = signal_at l settings js port.Ad;
  pol = polarity_of l settings;
  value = reset_value l ss (width_at l settings port.Q);
  init = zeros (width_at l settings port.Q);
}

abbrev pub register_made : RegKind → TypeLine → List WrittenSetting → List Setting → List Joined → Made → Made
register_made kind l ss settings js m = record none_made {
  regs = register_of kind l ss settings js ∷ [];
  drives = driven_from (by_at (source.Register (length m.regs))) 0 (pieces_in (joined_at js (port_name port.Q)));
}

-- ---- a cell of the library

abbrev pub made_by : Gives → TypeLine → List WrittenSetting → List Setting → List Joined → Made → Made
made_by (gives.Cell op) l ss settings js m = cell_made op l settings js m
made_by (gives.Register kind) l ss settings js m = register_made kind l ss settings js m

-- a cell of this name whose type has this line
unfoldable pub taken : List ℕ → List ℕ → TypeLine → List WrittenSetting → List Setting → List Joined → Walk
taken owner name l ss settings js = guard (λ m. located owner name (kind_checks l settings js (has_room m))) (give (made_by l.gives l ss settings js))

-- a cell as it is written in an instance
abbrev pub library_cell : List ℕ → Scope → TypeLine → Written → Walk
library_cell owner scope l c = taken owner c.name l c.settings (settings_of c.settings) (joined_in scope c.connections)
