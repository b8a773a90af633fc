-- The cell library of the Yosys manual: the type of each combinational cell, register and latch by a line.
use Rattle.std.specs.Prelude.{ℕ, List, [], ◌∷◌, true, false, Option, bytes_eq, find, codes}
use Rattle.cell_library.specs.Lines.{TypeLine}
use Rattle.cell_library.specs.declared.line.Line.{Line}
use Rattle.cell_library.specs.declared.line.Gives.TheVariants as gives
use Rattle.circuit.specs.declared.cell.Op.{Op}
use Rattle.circuit.specs.declared.cell.Op.TheVariants as op
use Rattle.circuit.specs.declared.register.RegKind.{RegKind}
use Rattle.circuit.specs.declared.register.RegKind.TheVariants as kind
use Rattle.cell_library.specs.declared.line.Parameter.{Parameter}
use Rattle.cell_library.specs.declared.line.Parameter.TheVariants.{ASigned, BSigned, AWidth, BWidth, YWidth, Width, SWidth, Offset, ClkPolarity, EnPolarity, ArstPolarity, ArstValue, SrstPolarity, SrstValue, AloadPolarity, SetPolarity, ClrPolarity}
use Rattle.cell_library.specs.declared.line.Port.{Port}
use Rattle.cell_library.specs.declared.line.PortName.{PortName}
use Rattle.cell_library.specs.declared.line.PortName.TheVariants as port
use Rattle.cell_library.specs.declared.line.Span.{Span}
use Rattle.cell_library.specs.declared.line.Span.TheVariants.{One, Of, Sum, Product, Scaled}
use Rattle.cell_library.specs.declared.line.Way.TheVariants as way

-- ---- words of the table

abbrev pub input : PortName → Span → Port
input name span = record { name = name; way = way.In; span = span }

abbrev pub output : PortName → Span → Port
output name span = record { name = name; way = way.Out; span = span }

-- a cell without a state, whose ports may be of any width
abbrev pub cell : List ℕ → Op → List Parameter → List Port → TypeLine
cell name o parameters ports = record { name = name; gives = gives.Cell o; parameters = parameters; ports = ports; arithmetic = false }

-- a register or a latch
abbrev pub register : List ℕ → RegKind → List Parameter → List Port → TypeLine
register name k parameters ports = record { name = name; gives = gives.Register k; parameters = parameters; ports = ports; arithmetic = false }

-- a type whose ports have 128 bits at most
abbrev pub arithmetic : TypeLine → TypeLine
arithmetic l = record l { arithmetic = true }

-- cells with one operand, and with two
abbrev pub unary : List ℕ → Op → TypeLine
unary name o = cell name o (ASigned ∷ AWidth ∷ YWidth ∷ []) (input port.A (Of AWidth) ∷ output port.Y (Of YWidth) ∷ [])

abbrev pub binary : List ℕ → Op → TypeLine
binary name o =
    cell name o (ASigned ∷ BSigned ∷ AWidth ∷ BWidth ∷ YWidth ∷ [])
    (input port.A (Of AWidth) ∷ input port.B (Of BWidth) ∷ output port.Y (Of YWidth) ∷ [])

-- ---- the table

-- the types without a state, then the registers and latches; memories, diagnostics and cells without effect are no lines
unfoldable pub table : List TypeLine
table =
    unary (codes "$not") op.Not
    ∷ unary (codes "$pos") op.Pos
    ∷ unary (codes "$reduce_and") op.ReduceAnd
    ∷ unary (codes "$reduce_or") op.ReduceOr
    ∷ unary (codes "$reduce_bool") op.ReduceBool
    ∷ unary (codes "$reduce_xor") op.ReduceXor
    ∷ unary (codes "$reduce_xnor") op.ReduceXnor
    ∷ unary (codes "$logic_not") op.LogicNot
    ∷ arithmetic (unary (codes "$neg") op.Neg)
    ∷ binary (codes "$and") op.And
    ∷ binary (codes "$or") op.Or
    ∷ binary (codes "$xor") op.Xor
    ∷ binary (codes "$xnor") op.Xnor
    ∷ binary (codes "$logic_and") op.LogicAnd
    ∷ binary (codes "$logic_or") op.LogicOr
    ∷ binary (codes "$eq") op.Eq
    ∷ binary (codes "$ne") op.Ne
    ∷ binary (codes "$eqx") op.Eqx
    ∷ binary (codes "$nex") op.Nex
    ∷ binary (codes "$shl") op.Shl
    ∷ binary (codes "$sshl") op.Sshl
    ∷ binary (codes "$shr") op.Shr
    ∷ binary (codes "$sshr") op.Sshr
    ∷ binary (codes "$shift") op.Shift
    ∷ binary (codes "$shiftx") op.Shiftx
    ∷ arithmetic (binary (codes "$add") op.Add)
    ∷ arithmetic (binary (codes "$sub") op.Sub)
    ∷ arithmetic (binary (codes "$mul") op.Mul)
    ∷ arithmetic (binary (codes "$div") op.Div)
    ∷ arithmetic (binary (codes "$mod") op.Mod)
    ∷ arithmetic (binary (codes "$divfloor") op.DivFloor)
    ∷ arithmetic (binary (codes "$modfloor") op.ModFloor)
    ∷ arithmetic (binary (codes "$lt") op.Lt)
    ∷ arithmetic (binary (codes "$le") op.Le)
    ∷ arithmetic (binary (codes "$ge") op.Ge)
    ∷ arithmetic (binary (codes "$gt") op.Gt)
    ∷ cell (codes "$mux") op.Mux (Width ∷ [])
    (input port.A (Of Width) ∷ input port.B (Of Width) ∷ input port.S One ∷ output port.Y (Of Width) ∷ [])
    ∷ cell (codes "$pmux") op.Pmux (Width ∷ SWidth ∷ [])
    (input port.A (Of Width) ∷ input port.B (Product Width SWidth) ∷ input port.S (Of SWidth) ∷ output port.Y (Of Width) ∷ [])
    ∷ cell (codes "$bmux") op.Bmux (Width ∷ SWidth ∷ [])
    (input port.A (Scaled Width SWidth) ∷ input port.S (Of SWidth) ∷ output port.Y (Of Width) ∷ [])
    ∷ cell (codes "$demux") op.Demux (Width ∷ SWidth ∷ [])
    (input port.A (Of Width) ∷ input port.S (Of SWidth) ∷ output port.Y (Scaled Width SWidth) ∷ [])
    ∷ cell (codes "$bwmux") op.Bwmux (Width ∷ [])
    (input port.A (Of Width) ∷ input port.B (Of Width) ∷ input port.S (Of Width) ∷ output port.Y (Of Width) ∷ [])
    ∷ cell (codes "$bweqx") op.Bweqx (Width ∷ [])
    (input port.A (Of Width) ∷ input port.B (Of Width) ∷ output port.Y (Of Width) ∷ [])
    ∷ cell (codes "$slice") op.Slice (Offset ∷ AWidth ∷ YWidth ∷ [])
    (input port.A (Of AWidth) ∷ output port.Y (Of YWidth) ∷ [])
    ∷ cell (codes "$concat") op.Concat (AWidth ∷ BWidth ∷ [])
    (input port.A (Of AWidth) ∷ input port.B (Of BWidth) ∷ output port.Y (Sum AWidth BWidth) ∷ [])
    ∷ register (codes "$dff") kind.Dff (Width ∷ ClkPolarity ∷ [])
    (input port.Clk One ∷ input port.D (Of Width) ∷ output port.Q (Of Width) ∷ [])
    ∷ register (codes "$dffe") kind.Dffe (Width ∷ ClkPolarity ∷ EnPolarity ∷ [])
    (input port.Clk One ∷ input port.En One ∷ input port.D (Of Width) ∷ output port.Q (Of Width) ∷ [])
    ∷ register (codes "$adff") kind.Adff (Width ∷ ClkPolarity ∷ ArstPolarity ∷ ArstValue ∷ [])
    (input port.Clk One ∷ input port.Arst One ∷ input port.D (Of Width) ∷ output port.Q (Of Width) ∷ [])
    ∷ register (codes "$adffe") kind.Adffe (Width ∷ ClkPolarity ∷ EnPolarity ∷ ArstPolarity ∷ ArstValue ∷ [])
    (input port.Clk One ∷ input port.En One ∷ input port.Arst One ∷ input port.D (Of Width) ∷ output port.Q (Of Width) ∷ [])
    ∷ register (codes "$sdff") kind.Sdff (Width ∷ ClkPolarity ∷ SrstPolarity ∷ SrstValue ∷ [])
    (input port.Clk One ∷ input port.Srst One ∷ input port.D (Of Width) ∷ output port.Q (Of Width) ∷ [])
    ∷ register (codes "$sdffe") kind.Sdffe (Width ∷ ClkPolarity ∷ EnPolarity ∷ SrstPolarity ∷ SrstValue ∷ [])
    (input port.Clk One ∷ input port.En One ∷ input port.Srst One ∷ input port.D (Of Width) ∷ output port.Q (Of Width) ∷ [])
    ∷ register (codes "$sdffce") kind.Sdffce (Width ∷ ClkPolarity ∷ EnPolarity ∷ SrstPolarity ∷ SrstValue ∷ [])
    (input port.Clk One ∷ input port.En One ∷ input port.Srst One ∷ input port.D (Of Width) ∷ output port.Q (Of Width) ∷ [])
    ∷ register (codes "$aldff") kind.Aldff (Width ∷ ClkPolarity ∷ AloadPolarity ∷ [])
    (input port.Clk One ∷ input port.Aload One ∷ input port.Ad (Of Width) ∷ input port.D (Of Width) ∷ output port.Q (Of Width) ∷ [])
    ∷ register (codes "$aldffe") kind.Aldffe (Width ∷ ClkPolarity ∷ EnPolarity ∷ AloadPolarity ∷ [])
    (input port.Clk One ∷ input port.En One ∷ input port.Aload One ∷ input port.Ad (Of Width) ∷ input port.D (Of Width) ∷ output port.Q (Of Width) ∷ [])
    ∷ register (codes "$dffsr") kind.Dffsr (Width ∷ ClkPolarity ∷ SetPolarity ∷ ClrPolarity ∷ [])
    (input port.Clk One ∷ input port.Set (Of Width) ∷ input port.Clr (Of Width) ∷ input port.D (Of Width) ∷ output port.Q (Of Width) ∷ [])
    ∷ register (codes "$dffsre") kind.Dffsre (Width ∷ ClkPolarity ∷ EnPolarity ∷ SetPolarity ∷ ClrPolarity ∷ [])
    (input port.Clk One ∷ input port.En One ∷ input port.Set (Of Width) ∷ input port.Clr (Of Width) ∷ input port.D (Of Width) ∷ output port.Q (Of Width) ∷ [])
    ∷ register (codes "$sr") kind.Sr (Width ∷ SetPolarity ∷ ClrPolarity ∷ [])
    (input port.Set (Of Width) ∷ input port.Clr (Of Width) ∷ output port.Q (Of Width) ∷ [])
    ∷ register (codes "$dlatch") kind.Dlatch (Width ∷ EnPolarity ∷ [])
    (input port.En One ∷ input port.D (Of Width) ∷ output port.Q (Of Width) ∷ [])
    ∷ register (codes "$adlatch") kind.Adlatch (Width ∷ EnPolarity ∷ ArstPolarity ∷ ArstValue ∷ [])
    (input port.En One ∷ input port.Arst One ∷ input port.D (Of Width) ∷ output port.Q (Of Width) ∷ [])
    ∷ register (codes "$dlatchsr") kind.Dlatchsr (Width ∷ EnPolarity ∷ SetPolarity ∷ ClrPolarity ∷ [])
    (input port.En One ∷ input port.Set (Of Width) ∷ input port.Clr (Of Width) ∷ input port.D (Of Width) ∷ output port.Q (Of Width) ∷ [])
    ∷ []

-- the first line of a name
abbrev pub line_in : List TypeLine → List ℕ → Option TypeLine
line_in lines name = find (λ l. bytes_eq l.name name) lines

abbrev pub line_of : List ℕ → Option TypeLine
line_of name = line_in table name

-- a line of the code's table
abbrev pub seen : Line → TypeLine
seen l = record { name = l.name.now; gives = l.gives; parameters = l.parameters.now; ports = l.ports.now; arithmetic = l.arithmetic }
