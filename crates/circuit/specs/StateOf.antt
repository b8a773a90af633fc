-- A state that belongs to a circuit: it keeps something for each place of the circuit.
use Rattle.std.specs.Prelude.{◌≡◌, ℕ, length, Some, slice_get}
use Rattle.circuit.specs.State.{State, Stored}
use Rattle.circuit.specs.declared.netlist.Circuit.{Circuit}
use Rattle.circuit.specs.declared.memory.Mem.{Mem}

-- one number for each register, and for each memory one for each row and each read port
pub record IsStateOf (c : Circuit) (s : State) : Type 0 where
  pub regs : length s.regs ≡ length c.regs
  pub mems : length s.mems ≡ length c.mems
  pub rows : (n : ℕ) (m : Mem) (kept : Stored) → slice_get c.mems n ≡ Some m → slice_get s.mems n ≡ Some kept → length kept.rows ≡ m.size
  pub reads : (n : ℕ) (m : Mem) (kept : Stored) → slice_get c.mems n ≡ Some m → slice_get s.mems n ≡ Some kept → length kept.reads ≡ length m.reads
