-- What a circuit has to be.
use Rattle.std.specs.Prelude.{ℕ, ◌+◌, ◌*◌, ◌^◌, ◌==◌, List, [], ◌∷◌, length, Bool, true, false, not, ◌&&◌, nat_le, nat_lt, bytes_eq, Option, Some, None, slice_get, sum_by, if◌then◌else◌}
use Rattle.std.specs.List.{list_all, list_any, count_by}
use Rattle.std.specs.Cmp.Lexicographic.{slice_cmp}
use Rattle.std.specs.Ordering.{nat_cmp, is_lt}
use Rattle.std.specs.Str.{is_utf8}
use Rattle.sim_base.specs.Values.{words_of}
use Rattle.circuit.specs.Signal.{sig_width}
use Rattle.circuit.specs.Shown.{slots_of}
use Rattle.circuit.specs.Valuation.{bits_of}
use Rattle.circuit.specs.declared.netlist.Circuit.{Circuit}
use Rattle.circuit.specs.declared.netlist.Net.{Net}
use Rattle.circuit.specs.declared.netlist.Drive.{Drive}
use Rattle.circuit.specs.declared.netlist.By.{By}
use Rattle.circuit.specs.declared.netlist.By.TheVariants as by
use Rattle.circuit.specs.declared.netlist.Piece.{Piece}
use Rattle.circuit.specs.declared.netlist.Piece.TheVariants as piece
use Rattle.circuit.specs.declared.cell.Cell.{Cell}
use Rattle.circuit.specs.declared.cell.Op.{Op}
use Rattle.circuit.specs.declared.cell.Op.TheVariants as op
use Rattle.circuit.specs.declared.register.Reg.{Reg}
use Rattle.circuit.specs.declared.register.RegKind.{RegKind}
use Rattle.circuit.specs.declared.register.RegKind.TheVariants as kind
use Rattle.circuit.specs.declared.memory.Mem.{Mem}
use Rattle.circuit.specs.declared.memory.ReadPort.{ReadPort}
use Rattle.circuit.specs.declared.memory.WritePort.{WritePort}
use Rattle.circuit.specs.declared.item.Item.{Item}
use Rattle.circuit.specs.declared.item.ItemKind.{ItemKind}
use Rattle.circuit.specs.declared.item.ItemKind.TheVariants as item
use Rattle.circuit.specs.declared.item.Scope.{Scope}
use Rattle.circuit.specs.declared.diagnostic.Diag.{Diag}
use Rattle.circuit.specs.declared.diagnostic.Trigger.{Trigger}

-- ---- limits

-- the most bits of a wire and of a port
abbrev pub widest : ℕ
widest = 65536

-- the most bits of a port of an arithmetic cell
abbrev pub widest_arithmetic : ℕ
widest_arithmetic = 128

-- fewer than a number of 32 bits can name
abbrev pub is_countable : ℕ → Bool
is_countable n = nat_lt n (2 ^ 32)

-- ---- nets, signals and drives

abbrev pub reaches : ℕ → Option Net → Bool
reaches end None = false
reaches end (Some x) = nat_le end x.width

-- a net is there, and has so many bits at least
abbrev pub net_holds : List Net → ℕ → ℕ → Bool
net_holds nets net end = reaches end (slice_get nets net)

abbrev pub piece_fits : List Net → Piece → Bool
piece_fits nets (piece.Const v) = true
piece_fits nets (piece.Part net at width) = net_holds nets net (at + width)

-- each part of a signal lies inside its net
abbrev pub sig_fits : List Net → List Piece → Bool
sig_fits nets ps = list_all (piece_fits nets) ps && nat_le (sig_width ps) widest

-- the same, and it has so many bits
abbrev pub sig_of : List Net → ℕ → List Piece → Bool
sig_of nets width ps = sig_fits nets ps && sig_width ps == width

-- the lists that a drive names
pub record Drivers : Type 0 where
  pub nets : List Net
  pub inputs : List ℕ
  pub cells : List Cell
  pub regs : List Reg
  pub mems : List Mem

abbrev pub drivers_of : Circuit → Drivers
drivers_of c = record { nets = c.nets; inputs = c.inputs; cells = c.cells; regs = c.regs; mems = c.mems }

abbrev pub input_holds : List Net → ℕ → Option ℕ → Bool
input_holds nets end None = false
input_holds nets end (Some net) = net_holds nets net end

abbrev pub cell_holds : ℕ → Option Cell → Bool
cell_holds end None = false
cell_holds end (Some x) = nat_le end x.width

abbrev pub register_holds : ℕ → Option Reg → Bool
register_holds end None = false
register_holds end (Some r) = nat_le end r.width

abbrev pub port_holds : ℕ → ℕ → Option Mem → Bool
port_holds n end None = false
port_holds n end (Some m) = nat_lt n (length m.reads) && nat_le end m.width

-- what drives is there, and has so many bits from the first that is taken on
abbrev pub driver_fits : Drivers → ℕ → By → Bool
driver_fits from width (by.Const v) = v.width == width
driver_fits from width (by.Input n at) = input_holds from.nets (at + width) (slice_get from.inputs n)
driver_fits from width (by.Wire n at) = net_holds from.nets n (at + width)
driver_fits from width (by.Cell n at) = cell_holds (at + width) (slice_get from.cells n)
driver_fits from width (by.Reg n at) = register_holds (at + width) (slice_get from.regs n)
driver_fits from width (by.Read m n at) = port_holds n (at + width) (slice_get from.mems m)

-- a drive lies inside its net
abbrev pub drive_fits : Drivers → Drive → Bool
drive_fits from d = net_holds from.nets d.net (d.at + d.width) && driver_fits from d.width d.by

-- ---- cells

-- the widths of a cell's output and of its signals, and its offset
pub record Widths : Type 0 where
  pub width : ℕ
  pub offset : ℕ
  pub a : ℕ
  pub b : ℕ
  pub s : ℕ

abbrev pub widths_of : Cell → Widths
widths_of x = record { width = x.width; offset = x.offset; a = sig_width x.a; b = sig_width x.b; s = sig_width x.s }

abbrev pub is_unary : Widths → Bool
is_unary w = w.b == 0 && w.s == 0

abbrev pub is_binary : Widths → Bool
is_binary w = w.s == 0

abbrev pub is_narrow : Widths → Bool
is_narrow w = nat_le w.width widest_arithmetic && (nat_le w.a widest_arithmetic && nat_le w.b widest_arithmetic)

-- each port has the width that the type gives it, and a port that the type lacks is empty
abbrev pub widths_fit : Op → Widths → Bool
widths_fit op.Not w = is_unary w
widths_fit op.Pos w = is_unary w
widths_fit op.Neg w = is_unary w && is_narrow w
widths_fit op.And w = is_binary w
widths_fit op.Or w = is_binary w
widths_fit op.Xor w = is_binary w
widths_fit op.Xnor w = is_binary w
widths_fit op.ReduceAnd w = is_unary w
widths_fit op.ReduceOr w = is_unary w
widths_fit op.ReduceBool w = is_unary w
widths_fit op.ReduceXor w = is_unary w
widths_fit op.ReduceXnor w = is_unary w
widths_fit op.LogicNot w = is_unary w
widths_fit op.LogicAnd w = is_binary w
widths_fit op.LogicOr w = is_binary w
widths_fit op.Add w = is_binary w && is_narrow w
widths_fit op.Sub w = is_binary w && is_narrow w
widths_fit op.Mul w = is_binary w && is_narrow w
widths_fit op.Div w = is_binary w && is_narrow w
widths_fit op.Mod w = is_binary w && is_narrow w
widths_fit op.DivFloor w = is_binary w && is_narrow w
widths_fit op.ModFloor w = is_binary w && is_narrow w
widths_fit op.Lt w = is_binary w && is_narrow w
widths_fit op.Le w = is_binary w && is_narrow w
widths_fit op.Eq w = is_binary w
widths_fit op.Ne w = is_binary w
widths_fit op.Ge w = is_binary w && is_narrow w
widths_fit op.Gt w = is_binary w && is_narrow w
widths_fit op.Eqx w = is_binary w
widths_fit op.Nex w = is_binary w
widths_fit op.Shl w = is_binary w
widths_fit op.Sshl w = is_binary w
widths_fit op.Shr w = is_binary w
widths_fit op.Sshr w = is_binary w
widths_fit op.Shift w = is_binary w
widths_fit op.Shiftx w = is_binary w
widths_fit op.Mux w = w.a == w.width && (w.b == w.width && w.s == 1)
widths_fit op.Pmux w = w.a == w.width && w.b == w.width * w.s
widths_fit op.Bmux w = w.a == w.width * 2 ^ w.s && w.b == 0
widths_fit op.Demux w = w.width == w.a * 2 ^ w.s && w.b == 0
widths_fit op.Bwmux w = w.a == w.width && (w.b == w.width && w.s == w.width)
widths_fit op.Bweqx w = w.a == w.width && (w.b == w.width && w.s == 0)
widths_fit op.Slice w = nat_le (w.offset + w.width) w.a && is_unary w
widths_fit op.Concat w = w.width == w.a + w.b && w.s == 0

abbrev pub cell_fits : List Net → Cell → Bool
cell_fits nets x = sig_fits nets x.a && (sig_fits nets x.b && (sig_fits nets x.s && (nat_le x.width widest && widths_fit x.op (widths_of x))))

-- ---- registers and latches

-- which ports a kind has: a bit for the clock, the enable and the load, one bit or one for each bit of the register for
-- the rest
pub record Ports : Type 0 where
  pub clk : Bool
  pub d : Bool
  pub en : Bool
  pub load : Bool
  -- one bit that resets
  pub reset : Bool
  -- set and clear, bit by bit
  pub bits : Bool

abbrev pub flip_flop : Ports
flip_flop = record { clk = true; d = true; en = false; load = false; reset = false; bits = false }

abbrev pub latch : Ports
latch = record { clk = false; d = true; en = true; load = false; reset = false; bits = false }

abbrev pub ports_of_kind : RegKind → Ports
ports_of_kind kind.Dff = flip_flop
ports_of_kind kind.Dffe = record flip_flop { en = true }
ports_of_kind kind.Adff = record flip_flop { reset = true }
ports_of_kind kind.Adffe = record flip_flop { reset = true; en = true }
ports_of_kind kind.Sdff = record flip_flop { reset = true }
ports_of_kind kind.Sdffe = record flip_flop { reset = true; en = true }
ports_of_kind kind.Sdffce = record flip_flop { reset = true; en = true }
ports_of_kind kind.Aldff = record flip_flop { load = true }
ports_of_kind kind.Aldffe = record flip_flop { load = true; en = true }
ports_of_kind kind.Dffsr = record flip_flop { bits = true }
ports_of_kind kind.Dffsre = record flip_flop { bits = true; en = true }
ports_of_kind kind.Sr = record flip_flop { clk = false; d = false; bits = true }
ports_of_kind kind.Dlatch = latch
ports_of_kind kind.Adlatch = record latch { reset = true }
ports_of_kind kind.Dlatchsr = record latch { bits = true }

abbrev pub width_where : Bool → ℕ → ℕ
width_where there width = if there then width else 0

abbrev pub register_has : List Net → Ports → Reg → Bool
register_has nets p r =
    sig_of nets (width_where p.clk 1) r.clk
    && (sig_of nets (width_where p.d r.width) r.d
    && (sig_of nets (width_where p.en 1) r.en
    && (sig_of nets (width_where p.bits r.width) r.set
    && (sig_of nets (if p.bits then r.width else width_where p.reset 1) r.clr
    && (sig_of nets (width_where p.load 1) r.load
    && sig_of nets (width_where p.load r.width) r.ad)))))

abbrev pub register_fits : List Net → Reg → Bool
register_fits nets r = nat_le r.width widest && (register_has nets (ports_of_kind r.kind) r && (r.value.width == r.width && r.init.width == r.width))

-- ---- memories

abbrev pub read_fits : List Net → Mem → ℕ → ReadPort → Bool
read_fits nets m abits p =
    sig_of nets 1 p.clk && (sig_of nets 1 p.en && (sig_of nets abits p.addr && (length p.see == length m.writes && p.init.width == m.width)))

abbrev pub write_fits : List Net → Mem → ℕ → WritePort → Bool
write_fits nets m abits p = sig_of nets 1 p.clk && (sig_of nets m.width p.en && (sig_of nets abits p.addr && sig_of nets m.width p.word))

-- the width of a memory's addresses, which is that of the first port that has one
abbrev pub address_width : List ReadPort → List WritePort → ℕ
address_width (p ∷ reads) writes = sig_width p.addr
address_width [] (p ∷ writes) = sig_width p.addr
address_width [] [] = 0

abbrev pub mem_fits : List Net → Mem → Bool
mem_fits nets m =
    nat_le m.width widest
    && (m.init.width == m.size * m.width
    && (is_countable (length m.reads)
    && (list_all (read_fits nets m (address_width m.reads m.writes)) m.reads
    && list_all (write_fits nets m (address_width m.reads m.writes)) m.writes)))

-- ---- items, scopes and inputs

abbrev pub kind_fits : List Net → List Mem → ItemKind → Bool
kind_fits nets mems (item.Node net lsb_at input output) = nat_lt net (length nets)
kind_fits nets mems (item.Memory m) = nat_lt m (length mems)

abbrev pub text_fits : Option (List ℕ) → Bool
text_fits None = true
text_fits (Some text) = is_utf8 text

abbrev pub item_fits : List Net → List Mem → List Scope → Item → Bool
item_fits nets mems scopes i =
    nat_lt i.scope (length scopes) && (kind_fits nets mems i.kind && (is_countable (length i.name) && (is_utf8 i.name && text_fits i.src)))

-- the first slots are the sums of the slots before them
unfoldable pub slots_run : List Mem → ℕ → List Item → Bool
slots_run mems before [] = true
slots_run mems before (i ∷ is) = i.first_slot == before && slots_run mems (before + slots_of mems i.kind) is

abbrev pub is_before : List ℕ → List ℕ → Bool
is_before x y = is_lt (slice_cmp nat_cmp x y)

abbrev pub stands_before : Item → List Item → Bool
stands_before i [] = true
stands_before i (j ∷ is) = is_before i.name j.name

-- the names stand in the byte order, and none twice: each is before the next one
unfoldable pub names_rise : List Item → Bool
names_rise [] = true
names_rise (i ∷ is) = stands_before i is && names_rise is

abbrev pub scope_fits : Scope → Bool
scope_fits s = is_utf8 s.name && (is_utf8 s.module && (text_fits s.module_src && text_fits s.cell_src))

-- no name stands twice
unfoldable pub names_differ : List Scope → Bool
names_differ [] = true
names_differ (s ∷ ss) = not (list_any (λ other. bytes_eq s.name other.name) ss) && names_differ ss

abbrev pub is_node_of : ℕ → ItemKind → Bool
is_node_of net (item.Node n lsb_at input output) = n == net
is_node_of net (item.Memory m) = false

-- a net is that of exactly one item
abbrev pub is_shown_once : List Item → ℕ → Bool
is_shown_once items net = count_by (λ i. is_node_of net i.kind) items == 1

-- no number stands twice
unfoldable pub numbers_differ : List ℕ → Bool
numbers_differ [] = true
numbers_differ (n ∷ ns) = not (list_any (λ other. other == n) ns) && numbers_differ ns

abbrev pub inputs_fit : List Net → List Item → List ℕ → Bool
inputs_fit nets items inputs = list_all (λ net. nat_lt net (length nets) && is_shown_once items net) inputs && numbers_differ inputs

-- ---- diagnostics

abbrev pub trigger_fits : List Net → Option Trigger → Bool
trigger_fits nets None = true
trigger_fits nets (Some t) = sig_fits nets t.on && length t.rising == sig_width t.on

abbrev pub diag_fits : List Net → Diag → Bool
diag_fits nets d =
    sig_of nets 1 d.a && (sig_of nets 1 d.en && (trigger_fits nets d.trigger && (is_countable (length d.text) && (is_utf8 d.text && text_fits d.src))))

-- ---- the whole

-- how many slots there are: those of the items, and one for each diagnostic
abbrev pub slot_count : Circuit → ℕ
slot_count c = sum_by (λ i. slots_of c.mems i.kind) c.items + length c.diags

-- how many nodes an order can have: the cells, and the read ports of the memories
abbrev pub node_count : Circuit → ℕ
node_count c = length c.cells + sum_by (λ m. length m.reads) c.mems

-- how many words of 64 bits the values of all nets take, of all outputs of cells, and of all registers
abbrev pub net_words : List Net → ℕ
net_words nets = sum_by (λ n. words_of n.width) nets

abbrev pub output_words : List Cell → ℕ
output_words cells = sum_by (λ x. words_of x.width) cells

abbrev pub register_words : List Reg → ℕ
register_words regs = sum_by (λ r. words_of r.init.width) regs

-- slots, nodes, the bits of all nets and the words of all values can be numbered too
abbrev pub counts_fit : Circuit → Bool
counts_fit c =
    is_countable (length c.nets) && (is_countable (length c.cells) && (is_countable (length c.regs) && (is_countable (length c.mems)
    && (is_countable (length c.inputs) && (is_countable (length c.scopes)
    && (is_countable (slot_count c) && (is_countable (node_count c) && (is_countable (bits_of c)
    && (is_countable (net_words c.nets) && (is_countable (output_words c.cells) && is_countable (register_words c.regs)))))))))))

-- a circuit that the other crates take
abbrev pub is_valid : Circuit → Bool
is_valid c =
    counts_fit c
    && (list_all (λ x. nat_le x.width widest) c.nets
    && (list_all (drive_fits (drivers_of c)) c.drives
    && (list_all (cell_fits c.nets) c.cells
    && (list_all (register_fits c.nets) c.regs
    && (list_all (mem_fits c.nets) c.mems
    && (inputs_fit c.nets c.items c.inputs
    && (list_all (item_fits c.nets c.mems c.scopes) c.items
    && (slots_run c.mems 0 c.items
    && (names_rise c.items
    && (list_all scope_fits c.scopes
    && (names_differ c.scopes
    && (list_any (λ s. length s.name == 0) c.scopes
    && list_all (diag_fits c.nets) c.diags))))))))))))
