-- What registers, latches and memories have next: the cell library of the Yosys manual. That an edge compares a clock with
-- its value in the round before, that a read outside a memory gives 0 whatever is written there, that of several ports which
-- write one bit the highest wins, also among those that a read port sees, and that the enable of a read port without a clock
-- is not read, is this project's own choice.
use Rattle.std.specs.Prelude.{ℕ, suc, ◌+◌, List, [], ◌∷◌, map, Bool, true, not, ◌&&◌, ◌==◌, Option, Some, None, unwrap_or, if◌then◌else◌}
use Rattle.std.specs.Int.{bit_at}
use Rattle.circuit.specs.Signal.{Digits, digits_of_nets, gathered, sig_number}
use Rattle.circuit.specs.State.{State, Stored, is_inside, addressed_row}
use Rattle.circuit.specs.declared.netlist.Circuit.{Circuit}
use Rattle.circuit.specs.declared.netlist.Piece.{Piece}
use Rattle.circuit.specs.declared.register.Reg.{Reg}
use Rattle.circuit.specs.declared.register.RegKind.{RegKind}
use Rattle.circuit.specs.declared.register.RegKind.TheVariants as kind
use Rattle.circuit.specs.declared.memory.Mem.{Mem}
use Rattle.circuit.specs.declared.memory.ReadPort.{ReadPort}
use Rattle.circuit.specs.declared.memory.WritePort.{WritePort}

-- ---- ports

-- whether a port of one bit is active
abbrev pub is_active : Bool → Digits → List Piece → Bool
is_active high digits port = sig_number digits port == (if high then 1 else 0)

-- whether a bit of a port is active
abbrev pub is_active_at : Bool → Digits → List Piece → ℕ → Bool
is_active_at high digits port i = bit_at (sig_number digits port) i == (if high then 1 else 0)

-- whether a clock was inactive in the valuation of the round before and is active in this one
abbrev pub has_edge : Bool → Digits → Digits → List Piece → Bool
has_edge rising before now clk = not (is_active rising before clk) && is_active rising now clk

-- ---- registers and latches

-- what a register's table asks: its ports in this round, and its clock's edge since the one before
pub record RegisterInputs : Type 0 where
  pub edge : Bool
  pub enabled : Bool
  -- of the ports that reset or load all bits
  pub reset : Bool
  pub loaded : Bool
  -- of the ports that set or clear a bit
  pub set : ℕ → Bool
  pub cleared : ℕ → Bool
  pub input : ℕ
  pub load : ℕ
  pub value : ℕ

abbrev pub register_inputs : Digits → Digits → Reg → RegisterInputs
register_inputs before now r = record {
  edge = has_edge r.pol.clk before now r.clk;
  enabled = is_active r.pol.en now r.en;
  reset = is_active r.pol.clr now r.clr;
  loaded = is_active r.pol.load now r.load;
  set = is_active_at r.pol.set now r.set;
  cleared = is_active_at r.pol.clr now r.clr;
  input = sig_number now r.d;
  load = sig_number now r.ad;
  value = r.value.number;
}

-- each bit cleared, set, or what the rest gives
abbrev pub bit_by_bit : ℕ → RegisterInputs → ℕ → ℕ
bit_by_bit width a rest = gathered (λ i. if a.cleared i then 0 else (if a.set i then 1 else bit_at rest i)) width

-- the first line of the register's table that holds gives its next number; where none holds it keeps its own
abbrev pub next_by : RegKind → ℕ → RegisterInputs → ℕ → ℕ
next_by kind.Dff w a own = if a.edge then a.input else own
next_by kind.Dffe w a own = if a.edge && a.enabled then a.input else own
next_by kind.Adff w a own = if a.reset then a.value else (if a.edge then a.input else own)
next_by kind.Adffe w a own = if a.reset then a.value else (if a.edge && a.enabled then a.input else own)
next_by kind.Sdff w a own = if a.edge && a.reset then a.value else (if a.edge then a.input else own)
next_by kind.Sdffe w a own = if a.edge && a.reset then a.value else (if a.edge && a.enabled then a.input else own)
next_by kind.Sdffce w a own = if a.edge && (a.enabled && a.reset) then a.value else (if a.edge && a.enabled then a.input else own)
next_by kind.Aldff w a own = if a.loaded then a.load else (if a.edge then a.input else own)
next_by kind.Aldffe w a own = if a.loaded then a.load else (if a.edge && a.enabled then a.input else own)
next_by kind.Dffsr w a own = bit_by_bit w a (if a.edge then a.input else own)
next_by kind.Dffsre w a own = bit_by_bit w a (if a.edge && a.enabled then a.input else own)
next_by kind.Sr w a own = bit_by_bit w a own
next_by kind.Dlatch w a own = if a.enabled then a.input else own
next_by kind.Adlatch w a own = if a.reset then a.value else (if a.enabled then a.input else own)
next_by kind.Dlatchsr w a own = bit_by_bit w a (if a.enabled then a.input else own)

-- the register's next number, from its present one
abbrev pub next_number : Digits → Digits → Reg → ℕ → ℕ
next_number before now r own = next_by r.kind r.width (register_inputs before now r) own

unfoldable pub next_numbers : Digits → Digits → List Reg → List ℕ → List ℕ
next_numbers before now [] presents = []
next_numbers before now (r ∷ rs) [] = []
next_numbers before now (r ∷ rs) (p ∷ ps) = next_number before now r p ∷ next_numbers before now rs ps

-- ---- memories

-- a port writes bit i of the row of an address
abbrev pub writes_at : Digits → Digits → ℕ → ℕ → WritePort → Bool
writes_at before now address i p =
    has_edge p.rising before now p.clk && (sig_number now p.addr == address && bit_at (sig_number now p.en) i == 1)

-- the first of two that is there
abbrev pub or_else : Option ℕ → Option ℕ → Option ℕ
or_else (Some n) other = Some n
or_else None other = other

-- the digit that the highest port writes to bit i of an address, among the ports that are marked
unfoldable pub highest_write : Digits → Digits → ℕ → ℕ → List Bool → List WritePort → Option ℕ
highest_write before now address i marks [] = None
highest_write before now address i [] (p ∷ ps) = None
highest_write before now address i (mark ∷ marks) (p ∷ ps) =
    or_else (highest_write before now address i marks ps) (if mark && writes_at before now address i p then Some (bit_at (sig_number now p.word) i) else None)

-- all ports
abbrev pub all_marked : List WritePort → List Bool
all_marked ports = map (λ _. true) ports

-- a row bit by bit: what the highest port writes to it, or else what it had
abbrev pub next_row : Digits → Digits → Mem → List Bool → ℕ → ℕ → ℕ
next_row before now m marks address own = gathered (λ i. unwrap_or (highest_write before now address i marks m.writes) (bit_at own i)) m.width

-- the rows from a place on
unfoldable pub next_rows : Digits → Digits → Mem → ℕ → List ℕ → List ℕ
next_rows before now m place [] = []
next_rows before now m place (own ∷ rows) = next_row before now m (all_marked m.writes) (place + m.offset) own ∷ next_rows before now m (suc place) rows

-- what a read port with a clock takes: the row with what is written to it at this edge by the ports that it sees; outside
-- the memory 0
abbrev pub transparent_read : Digits → Digits → Mem → List ℕ → ReadPort → ℕ
transparent_read before now m rows p =
    let address = sig_number now p.addr in
    if is_inside m address then next_row before now m p.see address (addressed_row m rows address) else 0

abbrev pub next_read : Digits → Digits → Mem → List ℕ → ReadPort → ℕ → ℕ
next_read before now m rows p own =
    if p.clocked && (has_edge p.rising before now p.clk && is_active true now p.en) then transparent_read before now m rows p else own

unfoldable pub next_reads : Digits → Digits → Mem → List ℕ → List ReadPort → List ℕ → List ℕ
next_reads before now m rows [] owns = []
next_reads before now m rows (p ∷ ps) [] = []
next_reads before now m rows (p ∷ ps) (own ∷ owns) = next_read before now m rows p own ∷ next_reads before now m rows ps owns

abbrev pub next_stored : Digits → Digits → Mem → Stored → Stored
next_stored before now m kept = record { rows = next_rows before now m 0 kept.rows; reads = next_reads before now m kept.rows m.reads kept.reads }

unfoldable pub next_mems : Digits → Digits → List Mem → List Stored → List Stored
next_mems before now [] kept = []
next_mems before now (m ∷ ms) [] = []
next_mems before now (m ∷ ms) (k ∷ ks) = next_stored before now m k ∷ next_mems before now ms ks

-- the next state, from the valuations of the round before and of this one
abbrev pub next : Circuit → State → List ℕ → List ℕ → State
next c state before now = record {
  regs = next_numbers (digits_of_nets before) (digits_of_nets now) c.regs state.regs;
  mems = next_mems (digits_of_nets before) (digits_of_nets now) c.mems state.mems;
}
