-- What a circuit keeps from round to round.
use Rattle.std.specs.Prelude.{ℕ, ◌+◌, ◌-◌, List, Bool, ◌&&◌, nat_eq, nat_le, nat_lt, slice_index, if◌then◌else◌}
use Rattle.std.specs.Cmp.Lexicographic.{pointwise}
use Rattle.circuit.specs.declared.memory.Mem.{Mem}

-- the rows of one memory, and a value for each of its read ports; one without a clock keeps its start value
pub record Stored : Type 0 where
  pub rows : List ℕ
  pub reads : List ℕ

-- the number of each register, and each memory
pub record State : Type 0 where
  pub regs : List ℕ
  pub mems : List Stored

abbrev pub same_stored : Stored → Stored → Bool
same_stored s t = pointwise nat_eq s.rows t.rows && pointwise nat_eq s.reads t.reads

abbrev pub same_state : State → State → Bool
same_state s t = pointwise nat_eq s.regs t.regs && pointwise same_stored s.mems t.mems

-- row r stands for the address r + offset
abbrev pub is_inside : Mem → ℕ → Bool
is_inside m address = nat_le m.offset address && nat_lt address (m.offset + m.size)

-- the row of an address; outside the memory 0
abbrev pub addressed_row : Mem → List ℕ → ℕ → ℕ
addressed_row m rows address = if is_inside m address then slice_index rows (address - m.offset) else 0
