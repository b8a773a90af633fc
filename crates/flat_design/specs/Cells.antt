-- What a cell of the text adds to a circuit: a cell or a register, and the drive of the net that its output is joined to.
use Rattle.std.specs.Prelude.{ℕ, ◌+◌, ◌≤◌, List, [], ◌∷◌, ◌++◌, length, map, Bool, true, false, ◌==◌, ◌&&◌, ◌||◌, Option, Some, None, option_and_then, slice_get, codes, if◌then◌else◌}
use Rattle.std.specs.List.{list_all, list_any}
use Rattle.sim_base.specs.BitValue.{BitValue, zeros}
use Rattle.flat_text.specs.declared.module.Wire.{Wire}
use Rattle.flat_text.specs.declared.module.Cell.{Cell}
use Rattle.flat_text.specs.declared.module.Parameter.{Parameter}
use Rattle.circuit.specs.declared.netlist.Circuit.{Circuit}
use Rattle.circuit.specs.declared.cell.Cell.{Cell as Adder}
use Rattle.circuit.specs.declared.register.Reg.{Reg}
use Rattle.circuit.specs.declared.register.RegKind.TheVariants as kind
use Rattle.circuit.specs.declared.register.Polarity.{Polarity}
use Rattle.circuit.specs.declared.cell.Op.TheVariants as op
use Rattle.circuit.specs.declared.netlist.Drive.{Drive}
use Rattle.circuit.specs.declared.netlist.By.{By}
use Rattle.circuit.specs.declared.netlist.By.TheVariants as by
use Rattle.circuit.specs.declared.netlist.Piece.{Piece}
use Rattle.circuit.specs.declared.netlist.Piece.TheVariants as piece
use Rattle.circuit.specs.Signal.{piece_width}
use Rattle.flat_design.specs.Names.{same_name, are_distinct}
use Rattle.flat_design.specs.Wires.{start_of}
use Rattle.flat_design.specs.Ports.{joined, joined_with_width, has_parameter, is_number}

abbrev pub is_adder_port : List ℕ → Bool
is_adder_port name = same_name name (codes "\\A") || (same_name name (codes "\\B") || same_name name (codes "\\Y"))

abbrev pub is_adder_width : List ℕ → Bool
is_adder_width name = same_name name (codes "\\A_WIDTH") || (same_name name (codes "\\B_WIDTH") || same_name name (codes "\\Y_WIDTH"))

abbrev pub is_adder_sign : List ℕ → Bool
is_adder_sign name = same_name name (codes "\\A_SIGNED") || same_name name (codes "\\B_SIGNED")

abbrev pub is_register_port : List ℕ → Bool
is_register_port name = same_name name (codes "\\CLK") || (same_name name (codes "\\D") || same_name name (codes "\\Q"))

abbrev pub is_register_parameter : List ℕ → Bool
is_register_parameter name = same_name name (codes "\\WIDTH") || same_name name (codes "\\CLK_POLARITY")

-- an adder has no other ports and parameters than its own, each at most once, and its operands are unsigned
abbrev pub is_adder_parameter : Parameter → Bool
is_adder_parameter p = is_adder_width p.name || (is_adder_sign p.name && is_number 0 p.value)

unfoldable pub has_adder_form : Cell → Bool
has_adder_form x =
    (are_distinct (map (λ c. c.port) x.connections) && list_all (λ c. is_adder_port c.port) x.connections)
    && (are_distinct (map (λ p. p.name) x.parameters) && list_all is_adder_parameter x.parameters)

-- a register has no other ports and parameters than its own, each at most once, and takes the rising edge
unfoldable pub has_register_form : Cell → Bool
has_register_form x =
    (are_distinct (map (λ c. c.port) x.connections) && list_all (λ c. is_register_port c.port) x.connections)
    && ((are_distinct (map (λ p. p.name) x.parameters) && list_all (λ p. is_register_parameter p.name) x.parameters)
    && has_parameter x.parameters (codes "\\CLK_POLARITY") 1)

abbrev pub reads : ℕ → Piece → Bool
reads net (piece.Const v) = false
reads net (piece.Part n at width) = n == net

abbrev pub sig_reads : ℕ → List Piece → Bool
sig_reads net pieces = list_any (reads net) pieces

abbrev pub cell_reads : ℕ → Adder → Bool
cell_reads net x = sig_reads net x.a || sig_reads net x.b

abbrev pub is_driven : List Drive → ℕ → Bool
is_driven drives net = list_any (λ d. d.net == net) drives

abbrev pub whole_drive : ℕ → ℕ → By → Drive
whole_drive net width source = record { net = net; at = 0; width = width; by = source }

abbrev pub adder_of : Piece → Piece → ℕ → Adder
adder_of a b width = record { op = op.Add; a = a ∷ []; b = b ∷ []; s = []; a_signed = false; b_signed = false; width = width; offset = 0 }

abbrev pub with_adder_on : Circuit → Adder → ℕ → ℕ → Circuit
with_adder_on c x net width = record c {
  cells = c.cells ++ x ∷ [];
  drives = c.drives ++ whole_drive net width (by.Cell (length c.cells) 0) ∷ [];
}

-- the output is joined to a wire that nothing else drives, and that no cell up to this one reads
unfoldable pub with_adder_to : Circuit → Piece → Piece → Piece → Option Circuit
with_adder_to c a b (piece.Const v) = None
with_adder_to c a b (piece.Part net at width) =
    if is_driven c.drives net || (list_any (cell_reads net) c.cells || cell_reads net (adder_of a b width))
    then None
    else Some (with_adder_on c (adder_of a b width) net width)

unfoldable pub with_adder : List Wire → Circuit → Cell → Option Circuit
with_adder wires c x = if has_adder_form x then
    option_and_then (λ a.
    option_and_then (λ b.
    option_and_then (λ y. with_adder_to c a b y)
    (joined_with_width wires x (codes "\\Y") (codes "\\Y_WIDTH")))
    (joined_with_width wires x (codes "\\B") (codes "\\B_WIDTH")))
    (joined_with_width wires x (codes "\\A") (codes "\\A_WIDTH"))
    else None

-- the rising edge; the polarity of a port that a register lacks says nothing, and is true
abbrev pub rising_edge : Polarity
rising_edge = record { clk = true; en = true; set = true; clr = true; load = true }

abbrev pub register_of : Piece → Piece → ℕ → BitValue → Reg
register_of clk d width init = record {
  kind = kind.Dff;
  width = width;
  clk = clk ∷ [];
  d = d ∷ [];
  en = [];
  set = [];
  clr = [];
  load = [];
  ad = [];
  pol = rising_edge;
  value = zeros width;
  init = init;
}

abbrev pub with_register_on : Circuit → Reg → ℕ → ℕ → Circuit
with_register_on c x net width = record c {
  regs = c.regs ++ x ∷ [];
  drives = c.drives ++ whole_drive net width (by.Reg (length c.regs) 0) ∷ [];
}

abbrev pub start_at : ℕ → Option Wire → BitValue
start_at width None = zeros width
start_at width (Some w) = start_of w

-- the output is joined to a wire that nothing else drives
unfoldable pub with_register_to : List Wire → Circuit → Piece → Piece → Piece → Option Circuit
with_register_to wires c clk d (piece.Const v) = None
with_register_to wires c clk d (piece.Part net at width) =
    if is_driven c.drives net
    then None
    else Some (with_register_on c (register_of clk d width (start_at width (slice_get wires net))) net width)

abbrev pub of_width : ℕ → Piece → Option Piece
of_width width p = if piece_width p == width then Some p else None

unfoldable pub with_register : List Wire → Circuit → Cell → Option Circuit
with_register wires c x = if has_register_form x then
    option_and_then (λ clk.
    option_and_then (λ d.
    option_and_then (λ q. with_register_to wires c clk d q)
    (joined_with_width wires x (codes "\\Q") (codes "\\WIDTH")))
    (joined_with_width wires x (codes "\\D") (codes "\\WIDTH")))
    (option_and_then (of_width 1) (joined wires x.connections (codes "\\CLK")))
    else None

-- the types of cells that are known
unfoldable pub with_cell : List Wire → Circuit → Cell → Option Circuit
with_cell wires c x =
    if same_name x.kind (codes "$add") then with_adder wires c x
    else (if same_name x.kind (codes "$dff") then with_register wires c x else None)

-- the cells in their order, each added to what stands before it
unfoldable pub with_cells : List Wire → Circuit → List Cell → Option Circuit
with_cells wires c [] = Some c
with_cells wires c (x ∷ xs) = option_and_then (λ d. with_cells wires d xs) (with_cell wires c x)

-- each cell adds at most one adder or register
abbrev pub GrowsByOne : Circuit → Circuit → Type 0
GrowsByOne c d = (length d.cells ≤ length c.cells + 1) × (length d.regs ≤ length c.regs + 1)
