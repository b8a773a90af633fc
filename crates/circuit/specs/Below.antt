-- Numbers below 2 to their widths: the values of bits that a state begins with and takes, and the numbers that it keeps.
use Rattle.std.specs.Prelude.{◌≡◌, ℕ, ◌^◌, ◌<◌, List, Some, slice_get, slice_index}
use Rattle.sim_base.specs.BitValue.{BitValue}
use Rattle.circuit.specs.State.{State, Stored}
use Rattle.circuit.specs.declared.netlist.Circuit.{Circuit}
use Rattle.circuit.specs.declared.netlist.Piece.{Piece}
use Rattle.circuit.specs.declared.netlist.Piece.TheVariants as piece
use Rattle.circuit.specs.declared.register.Reg.{Reg}
use Rattle.circuit.specs.declared.memory.Mem.{Mem}
use Rattle.circuit.specs.declared.memory.ReadPort.{ReadPort}

-- ---- values of bits, whose numbers are always below: so what follows is true of every circuit that a program holds

abbrev pub IsBelow : BitValue → Type 0
IsBelow v = v.number < 2 ^ v.width

-- each constant of a signal
abbrev pub AreConstantsBelow : List Piece → Type 0
AreConstantsBelow ps = (i : ℕ) (v : BitValue) → slice_get ps i ≡ Some (piece.Const v) → IsBelow v

-- what a register takes, loads, is reset to and begins with
pub record IsRegisterBelow (r : Reg) : Type 0 where
  pub d : AreConstantsBelow r.d
  pub ad : AreConstantsBelow r.ad
  pub value : IsBelow r.value
  pub init : IsBelow r.init

-- the values of bits that come into a circuit's state
pub record AreValuesBelow (c : Circuit) : Type 0 where
  pub regs : (n : ℕ) (r : Reg) → slice_get c.regs n ≡ Some r → IsRegisterBelow r
  pub reads : (n port : ℕ) (m : Mem) (p : ReadPort) → slice_get c.mems n ≡ Some m → slice_get m.reads port ≡ Some p → IsBelow p.init

-- ---- states

-- each row of each memory
abbrev pub AreRowsBelow : Circuit → State → Type 0
AreRowsBelow c s = (n row : ℕ) (m : Mem) (kept : Stored) → slice_get c.mems n ≡ Some m → slice_get s.mems n ≡ Some kept → slice_index kept.rows row < 2 ^ m.width

-- the number of each register, each row of each memory, and what each read port keeps
pub record IsStateBelow (c : Circuit) (s : State) : Type 0 where
  pub regs : (n : ℕ) (r : Reg) → slice_get c.regs n ≡ Some r → slice_index s.regs n < 2 ^ r.width
  pub rows : AreRowsBelow c s
  pub reads : (n port : ℕ) (m : Mem) (kept : Stored) → slice_get c.mems n ≡ Some m → slice_get s.mems n ≡ Some kept → slice_index kept.reads port < 2 ^ m.width
