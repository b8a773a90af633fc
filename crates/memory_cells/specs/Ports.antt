-- Memories and their ports over the values of nets in two rounds.
use Rattle.std.specs.Prelude.{◌≡◌, ℕ, ◌+◌, ◌-◌, ◌*◌, ◌≤◌, ◌==◌, List, length, All, Bool, false, Option, Some, None, slice_index, slice_set, if◌then◌else◌}
use Rattle.std.specs.Int.{bit_at}
use Rattle.sim_base.specs.BitValue.{BitValue}
use Rattle.circuit.specs.Signal.{Digits, gathered, sig_number, sig_width}
use Rattle.circuit.specs.Next.{all_marked, has_edge, next_row}
use Rattle.circuit.specs.State.{is_inside, Stored}
use Rattle.circuit.specs.Valid.{widest}
use Rattle.circuit.specs.declared.memory.Mem.{Mem}
use Rattle.circuit.specs.declared.memory.ReadPort.{ReadPort}
use Rattle.circuit.specs.declared.memory.WritePort.{WritePort}
use Rattle.sim_base.specs.Values.{numbers}
use Rattle.signal_words.specs.Values.{AreInside}
use Rattle.memory_cells.specs.Rows.{RowValues}

-- the signals lie inside the nets, the clock in both rounds, and have their widths
pub record IsReadPortOf (before now : List BitValue) (m : Mem) (p : ReadPort) : Type 0 where
  pub clk_before : AreInside before p.clk
  pub clk : AreInside now p.clk
  pub clk_width : sig_width p.clk ≡ 1
  pub en : AreInside now p.en
  pub en_width : sig_width p.en ≡ 1
  pub addr : AreInside now p.addr
  pub addr_width : sig_width p.addr ≤ widest
  pub see : length p.see ≡ length m.writes

pub record IsWritePortOf (before now : List BitValue) (m : Mem) (p : WritePort) : Type 0 where
  pub clk_before : AreInside before p.clk
  pub clk : AreInside now p.clk
  pub clk_width : sig_width p.clk ≡ 1
  pub en : AreInside now p.en
  pub en_width : sig_width p.en ≡ m.width
  pub addr : AreInside now p.addr
  pub addr_width : sig_width p.addr ≤ widest
  pub word : AreInside now p.word
  pub word_width : sig_width p.word ≡ m.width

pub record IsMemoryOf (before now : List BitValue) (m : Mem) : Type 0 where
  pub width : m.width ≤ widest
  pub init : m.init.width ≡ m.size * m.width
  pub reads : All (IsReadPortOf before now m) m.reads
  pub writes : All (IsWritePortOf before now m) m.writes

-- the place of the row that an address names, if it is inside the memory
abbrev pub place_of_address : Mem → ℕ → Option ℕ
place_of_address m address = if is_inside m address then Some (address - m.offset) else None

abbrev pub is_place : Option ℕ → ℕ → Bool
is_place None place = false
is_place (Some found) place = found == place

-- a digit of a word where the mask has a 1, and an own digit elsewhere
abbrev pub masked_digit : ℕ → ℕ → ℕ → ℕ → ℕ
masked_digit mask word own i = if bit_at mask i == 1 then bit_at word i else bit_at own i

-- a row after a port that writes these bits of a word, or does not write
abbrev pub row_by : Bool → ℕ → ℕ → ℕ → ℕ → ℕ
row_by writes mask word own width = if writes then gathered (masked_digit mask word own) width else own

-- the place of the row to which a port writes
abbrev pub place_written : Digits → Digits → Mem → WritePort → Option ℕ
place_written before now m p = if has_edge p.rising before now p.clk then place_of_address m (sig_number now p.addr) else None

-- the rows with what all ports write to the one at a place, if there is one
abbrev pub renewed_rows : Digits → Digits → Mem → Option ℕ → List ℕ → List ℕ
renewed_rows before now m None rows = rows
renewed_rows before now m (Some place) rows = slice_set rows place (next_row before now m (all_marked m.writes) (place + m.offset) (slice_index rows place))

-- the rows, and the values of the read ports
abbrev pub stored : RowValues → List BitValue → Stored
stored rows outs = record { rows = rows.rows; reads = numbers outs }
