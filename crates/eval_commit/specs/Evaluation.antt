-- What one valuation is computed from.
use Rattle.std.specs.Prelude.{◌≡◌, ℕ, List, length, map, true, Some, slice_get, slice_index}
use Rattle.sim_base.specs.BitValue.{BitValue}
use Rattle.circuit.specs.State.{State, Stored}
use Rattle.circuit.specs.declared.netlist.Circuit.{Circuit}
use Rattle.circuit.specs.declared.netlist.Drive.{Drive}
use Rattle.circuit.specs.declared.memory.Mem.{Mem}
use Rattle.circuit.specs.declared.memory.ReadPort.{ReadPort}
use Rattle.circuit.specs.declared.store.Store.{Store}
use Rattle.driver_check.specs.Depends.{Bit}
use Rattle.eval_plan.specs.Roots.{CoversIn}
use Rattle.memory_cells.specs.Rows.{RowValues}
use Rattle.sim_base.specs.Values.{numbers, widths}
use Rattle.signal_words.specs.Values.{digits_in}

-- the width of an input, which is a net
abbrev pub input_width : Circuit → ℕ → ℕ
input_width c net = slice_index (map (λ x. x.width) c.nets) net

-- one value for each input, of the width of its net
abbrev pub AreInputsOf : Circuit → List BitValue → Type 0
AreInputsOf c inputs = widths inputs ≡ map (input_width c) c.inputs

-- a state is what a store and the rows of the memories keep; a read port without a clock keeps nothing
pub record Holds (c : Circuit) (rows : List RowValues) (store : Store) (state : State) : Type 0 where
  pub regs : state.regs ≡ numbers store.regs
  pub mems : length state.mems ≡ length c.mems
  pub rows_are : (m : ℕ) (kept : Stored) (r : RowValues) → slice_get state.mems m ≡ Some kept → slice_get rows m ≡ Some r → kept.rows ≡ r.rows
  pub reads_are : (m n : ℕ) (x : Mem) (p : ReadPort) (kept : Stored) (outs : List BitValue) → slice_get c.mems m ≡ Some x → slice_get x.reads n ≡ Some p → p.clocked ≡ true
      → slice_get state.mems m ≡ Some kept → slice_get store.reads m ≡ Some outs → slice_index kept.reads n ≡ slice_index (numbers outs) n

-- each bit that no root covers is 0
abbrev pub IsBlank : List Drive → List BitValue → Type 0
IsBlank roots nets = (x : Bit) → ((i : ℕ) (r : Drive) → CoversIn roots i r x → ⊥) → digits_in nets x.0 x.1 ≡ 0
