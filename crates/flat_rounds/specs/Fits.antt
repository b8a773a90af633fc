-- Numbers that belong to a circuit.
use Rattle.std.specs.Prelude.{◌≡◌, ℕ, ◌<◌, ◌^◌, List, [], length, Some, slice_get, slice_index}
use Rattle.circuit.specs.Rounds.{Standing}
use Rattle.circuit.specs.declared.netlist.Circuit.{Circuit}
use Rattle.circuit.specs.declared.netlist.Net.{Net}
use Rattle.circuit.specs.declared.register.Reg.{Reg}

-- one number for each input, below 2 to the width of its net
pub record AreInputs (c : Circuit) (inputs : List ℕ) : Type 0 where
  pub long : length inputs ≡ length c.inputs
  pub below : (n : ℕ) (x : Net) → slice_get c.nets (slice_index c.inputs n) ≡ Some x → slice_index inputs n < 2 ^ x.width

-- one number for each net and each register, below 2 to its width, and no memory
pub record IsStandingOf (c : Circuit) (s : Standing) : Type 0 where
  pub nets : length s.nets ≡ length c.nets
  pub nets_below : (n : ℕ) (x : Net) → slice_get c.nets n ≡ Some x → slice_index s.nets n < 2 ^ x.width
  pub regs : length s.state.regs ≡ length c.regs
  pub regs_below : (n : ℕ) (x : Reg) → slice_get c.regs n ≡ Some x → slice_index s.state.regs n < 2 ^ x.width
  pub mems : s.state.mems ≡ []
