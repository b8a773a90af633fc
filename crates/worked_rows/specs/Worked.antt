-- Small circuits and what they do, worked by hand from the cell library. Laws say that the definitions give just this.
use Rattle.std.specs.Prelude.{ℕ, List, [], ◌∷◌, map, Bool, true, false, Option, Some, None, pos, slice_index_or}
use Rattle.sim_base.specs.BitValue.{BitValue, bit_value}
use Rattle.circuit.specs.Output.{modulo, formula}
use Rattle.circuit.specs.Next.{RegisterInputs}
use Rattle.circuit.specs.Rounds.{Run, rounds_at}
use Rattle.circuit.specs.Shown.{hits, shown}
use Rattle.circuit.specs.declared.netlist.Circuit.{Circuit}
use Rattle.circuit.specs.declared.netlist.Net.{Net}
use Rattle.circuit.specs.declared.netlist.Drive.{Drive}
use Rattle.circuit.specs.declared.netlist.By.{By}
use Rattle.circuit.specs.declared.netlist.By.TheVariants as by
use Rattle.circuit.specs.declared.netlist.Piece.{Piece}
use Rattle.circuit.specs.declared.netlist.Piece.TheVariants as piece
use Rattle.circuit.specs.declared.cell.Cell.{Cell}
use Rattle.circuit.specs.declared.cell.Op.{Op}
use Rattle.circuit.specs.declared.cell.Op.TheVariants as op
use Rattle.circuit.specs.declared.register.Reg.{Reg}
use Rattle.circuit.specs.declared.register.Polarity.{Polarity}
use Rattle.circuit.specs.declared.register.RegKind.TheVariants as kind
use Rattle.circuit.specs.declared.memory.Mem.{Mem}
use Rattle.circuit.specs.declared.memory.ReadPort.{ReadPort}
use Rattle.circuit.specs.declared.memory.WritePort.{WritePort}
use Rattle.circuit.specs.declared.item.Item.{Item}
use Rattle.circuit.specs.declared.item.ItemKind.TheVariants as item
use Rattle.circuit.specs.declared.diagnostic.Diag.{Diag}
use Rattle.circuit.specs.declared.diagnostic.DiagKind.{DiagKind}
use Rattle.circuit.specs.declared.diagnostic.DiagKind.TheVariants as diag
use Rattle.circuit.specs.declared.diagnostic.Trigger.{Trigger}

-- ---- one cell

-- the output of this width of a cell with two operands, both signed or both unsigned
abbrev pub binary : Op → Bool → ℕ → BitValue → BitValue → ℕ
binary o signed width a b =
    modulo width (formula o (record { width = width; offset = 0; a_signed = signed; b_signed = signed; a = a; b = b; s = bit_value 0 0 }))

-- the same of a cell with one operand
abbrev pub unary : Op → Bool → ℕ → BitValue → ℕ
unary o signed width a = binary o signed width a (bit_value 0 0)

-- the output of this width of a cell that selects
abbrev pub selected : Op → ℕ → BitValue → BitValue → BitValue → ℕ
selected o width a b s = modulo width (formula o (record { width = width; offset = 0; a_signed = false; b_signed = false; a = a; b = b; s = s }))

-- ---- whole circuits

abbrev pub net_of : ℕ → Net
net_of width = record { path = []; width = width }

-- a whole net of this width, from its least bit on
abbrev pub driven_by : ℕ → ℕ → By → Drive
driven_by net width source = record { net = net; at = 0; width = width; by = source }

abbrev pub whole : ℕ → ℕ → List Piece
whole net width = piece.Part net 0 width ∷ []

abbrev pub fixed : ℕ → ℕ → List Piece
fixed width number = piece.Const (bit_value width number) ∷ []

abbrev pub node : ℕ → Item
node net = record { name = []; scope = 0; kind = item.Node net (pos 0) false false; src = None; first_slot = net }

-- a memory as an item that stands behind so many nodes
abbrev pub rows_behind : ℕ → ℕ → Item
rows_behind nodes mem = record { name = []; scope = 0; kind = item.Memory mem; src = None; first_slot = nodes }

abbrev pub all_high : Polarity
all_high = record { clk = true; en = true; set = true; clr = true; load = true }

-- a register of one bit that takes a signal at the rising edge of a clock
abbrev pub flip_flop : List Piece → List Piece → Reg
flip_flop clk d = record {
  kind = kind.Dff;
  width = 1;
  clk = clk;
  d = d;
  en = [];
  set = [];
  clr = [];
  load = [];
  ad = [];
  pol = all_high;
  value = bit_value 1 0;
  init = bit_value 1 0;
}

abbrev pub inverter : List Piece → Cell
inverter a = record { op = op.Not; a = a; b = []; s = []; a_signed = false; b_signed = false; width = 1; offset = 0 }

-- a circuit without memories and diagnostics, whose nets are its items
abbrev pub circuit_of : List Net → List Drive → List Cell → List Reg → List ℕ → List Item → Circuit
circuit_of nets drives cells regs inputs items = record {
  nets = nets;
  drives = drives;
  cells = cells;
  regs = regs;
  mems = [];
  inputs = inputs;
  items = items;
  scopes = [];
  diags = [];
}

-- a run over these inputs, a sample each
abbrev pub run_of : Circuit → ℕ → List (List ℕ) → Run
run_of c count rows = record { circuit = c; count = count; row = λ k. record { time = k; inputs = slice_index_or rows k [] } }

-- what a slot shows at the first samples
abbrev pub traced : Run → List ℕ → ℕ → List ℕ
traced run samples slot = map (λ k. shown run k slot) samples

-- the numbers of the nets in each round of a sample
abbrev pub nets_in_rounds : Run → ℕ → List (List ℕ)
nets_in_rounds run k = map (λ r. r.now) (rounds_at run k)

-- a register that takes 1, whose clock (net 0) is 1 from the first sample on; its value is net 1
abbrev pub already_high : Run
already_high = run_of (circuit_of (net_of 1 ∷ net_of 1 ∷ []) (driven_by 0 1 (by.Input 0 0) ∷ driven_by 1 1 (by.Reg 0 0) ∷ []) [] (flip_flop (whole 0 1) (fixed 1 1) ∷ []) (0 ∷ []) (node 0 ∷ node 1 ∷ [])) 1 ((1 ∷ []) ∷ [])

-- two registers of one clock (net 0), of which the second (net 2) takes the first (net 1), which takes 1
abbrev pub chained : Run
chained = run_of (circuit_of (net_of 1 ∷ net_of 1 ∷ net_of 1 ∷ [])
    (driven_by 0 1 (by.Input 0 0) ∷ driven_by 1 1 (by.Reg 0 0) ∷ driven_by 2 1 (by.Reg 1 0) ∷ []) []
    (flip_flop (whole 0 1) (fixed 1 1) ∷ flip_flop (whole 0 1) (whole 1 1) ∷ []) (0 ∷ []) (node 0 ∷ node 1 ∷ node 2 ∷ []))
    4 ((0 ∷ []) ∷ (1 ∷ []) ∷ (0 ∷ []) ∷ (1 ∷ []) ∷ [])

-- x (net 1) takes 1 at the clock (net 0), g (net 2) takes its inverse (net 4) at the clock, y (net 3) takes x at g
abbrev pub derived_clock : Run
derived_clock = run_of (circuit_of (net_of 1 ∷ net_of 1 ∷ net_of 1 ∷ net_of 1 ∷ net_of 1 ∷ [])
    (driven_by 0 1 (by.Input 0 0) ∷ driven_by 1 1 (by.Reg 0 0) ∷ driven_by 2 1 (by.Reg 1 0) ∷ driven_by 3 1 (by.Reg 2 0) ∷ driven_by 4 1 (by.Cell 0 0) ∷ [])
    (inverter (whole 2 1) ∷ [])
    (flip_flop (whole 0 1) (fixed 1 1) ∷ flip_flop (whole 0 1) (whole 4 1) ∷ flip_flop (whole 2 1) (whole 1 1) ∷ []) (0 ∷ []) (node 0 ∷ node 1 ∷ node 2 ∷ node 3 ∷ node 4 ∷ []))
    2 ((0 ∷ []) ∷ (1 ∷ []) ∷ [])

-- a latch (net 1) that takes its own inverse (net 2) while it is enabled (net 0)
abbrev pub restless : Run
restless = run_of (circuit_of (net_of 1 ∷ net_of 1 ∷ net_of 1 ∷ [])
    (driven_by 0 1 (by.Input 0 0) ∷ driven_by 1 1 (by.Reg 0 0) ∷ driven_by 2 1 (by.Cell 0 0) ∷ [])
    (inverter (whole 1 1) ∷ [])
    (record (flip_flop [] (whole 2 1)) { kind = kind.Dlatch; en = whole 0 1 } ∷ []) (0 ∷ []) (node 0 ∷ node 1 ∷ node 2 ∷ []))
    2 ((0 ∷ []) ∷ (1 ∷ []) ∷ [])

-- a read port that reads row 2 at the rising edge of net 0
abbrev pub reader : List Bool → ReadPort
reader see = record { clocked = true; rising = true; clk = whole 0 1; en = fixed 1 1; addr = fixed 2 2; see = see; init = bit_value 8 0 }

-- a write port that writes to row 2 at the rising edge of net 0
abbrev pub writer : List Piece → List Piece → WritePort
writer en word = record { rising = true; clk = whole 0 1; en = en; addr = fixed 2 2; word = word }

abbrev pub four_rows : List ReadPort → List WritePort → Mem
four_rows reads writes = record { width = 8; size = 4; offset = 0; init = bit_value 32 0; reads = reads; writes = writes }

-- a net of one bit, eight times
abbrev pub eightfold : ℕ → List Piece
eightfold net = let p = piece.Part net 0 1 in p ∷ p ∷ p ∷ p ∷ p ∷ p ∷ p ∷ p ∷ []

-- the clock (net 0), two ports that read the row that is written (nets 1 and 2), of which the first sees what is written at
-- the same edge, the word (net 3) and its enable (net 4)
abbrev pub read_and_written : Run
read_and_written = run_of (record (circuit_of (net_of 1 ∷ net_of 8 ∷ net_of 8 ∷ net_of 8 ∷ net_of 1 ∷ [])
    (driven_by 0 1 (by.Input 0 0) ∷ driven_by 1 8 (by.Read 0 0 0) ∷ driven_by 2 8 (by.Read 0 1 0) ∷ driven_by 3 8 (by.Input 1 0) ∷ driven_by 4 1 (by.Input 2 0) ∷ [])
    [] [] (0 ∷ 3 ∷ 4 ∷ []) (node 0 ∷ node 1 ∷ node 2 ∷ node 3 ∷ node 4 ∷ []))
    { mems = four_rows (reader (true ∷ []) ∷ reader (false ∷ []) ∷ []) (writer (eightfold 4) (whole 3 8) ∷ []) ∷ [] })
    4 ((0 ∷ 165 ∷ 1 ∷ []) ∷ (1 ∷ 165 ∷ 1 ∷ []) ∷ (0 ∷ 165 ∷ 1 ∷ []) ∷ (1 ∷ 165 ∷ 1 ∷ []) ∷ [])

-- two ports that write to one row at one edge; net 1 reads it without a clock
abbrev pub written_twice : Run
written_twice = run_of (record (circuit_of (net_of 1 ∷ net_of 8 ∷ [])
    (driven_by 0 1 (by.Input 0 0) ∷ driven_by 1 8 (by.Read 0 0 0) ∷ []) [] [] (0 ∷ []) (node 0 ∷ node 1 ∷ []))
    { mems = record (four_rows (record (reader (false ∷ false ∷ [])) { clocked = false } ∷ []) (writer (fixed 8 255) (fixed 8 255) ∷ writer (fixed 8 255) (fixed 8 0) ∷ [])) { init = bit_value 32 0xAB0000 } ∷ [] })
    2 ((0 ∷ []) ∷ (1 ∷ []) ∷ [])

-- a diagnostic that wants net 1 to be 1
abbrev pub wanted : DiagKind → Option Trigger → Diag
wanted kind trigger = record { kind = kind; text = []; src = None; a = whole 1 1; en = fixed 1 1; trigger = trigger }

-- a register that takes 1 (net 1) at its clock (net 0); a memory whose row 2 takes 0x5A at the same edge; and two diagnostics
-- that want the register to be 1, an assertion at each sample and an assumption at each edge of the clock
abbrev pub watched : Run
watched = run_of (record (circuit_of (net_of 1 ∷ net_of 1 ∷ []) (driven_by 0 1 (by.Input 0 0) ∷ driven_by 1 1 (by.Reg 0 0) ∷ []) []
    (flip_flop (whole 0 1) (fixed 1 1) ∷ []) (0 ∷ []) (node 0 ∷ node 1 ∷ rows_behind 2 0 ∷ [])) {
      mems = record (four_rows [] (writer (fixed 8 255) (fixed 8 0x5A) ∷ [])) { init = bit_value 32 0xAB0000 } ∷ [];
      diags = wanted diag.Assert None ∷ wanted diag.Assume (Some (record { on = whole 0 1; rising = true ∷ [] })) ∷ [];
    })
    4 ((0 ∷ []) ∷ (1 ∷ []) ∷ (0 ∷ []) ∷ (1 ∷ []) ∷ [])

-- whether a diagnostic of these kinds fires at the first samples
abbrev pub hit_at : Bool → Bool → List ℕ → List Bool
hit_at asserts assumes samples = map (λ k. hits watched k (record { asserts = asserts; assumes = assumes })) samples

-- ---- registers at an edge, with these ports

abbrev pub at_edge : Bool → Bool → Bool → RegisterInputs
at_edge enabled reset all_set = record {
  edge = true;
  enabled = enabled;
  reset = reset;
  loaded = false;
  set = λ _. all_set;
  cleared = λ _. all_set;
  input = 1;
  load = 0;
  value = 2;
}
