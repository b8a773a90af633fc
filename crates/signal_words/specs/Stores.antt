-- What belongs to a store of a circuit.
use Rattle.std.specs.Prelude.{◌≡◌, ℕ, ◌<◌, ◌≤◌, length, map, true}
use Rattle.circuit.specs.Valid.{widest, widths_fit, widths_of}
use Rattle.circuit.specs.declared.netlist.Circuit.{Circuit}
use Rattle.circuit.specs.declared.cell.Cell.{Cell}
use Rattle.circuit.specs.declared.store.Store.{Store}
use Rattle.sim_base.specs.Values.{width_at, widths}
use Rattle.signal_words.specs.Values.{IsSignalOf}

-- each value has the width of what it is the value of
pub record IsStoreOf (c : Circuit) (store : Store) : Type 0 where
  pub nets : widths store.nets ≡ map (λ x. x.width) c.nets
  pub cells : widths store.cells ≡ map (λ x. x.width) c.cells
  pub regs : widths store.regs ≡ map (λ x. x.width) c.regs
  pub reads : map widths store.reads ≡ map (λ m. map (λ _. m.width) m.reads) c.mems

-- a cell whose output has the place `out`: its signals lie inside the nets, and the widths are those that its type gives
pub record IsCellOf (store : Store) (out : ℕ) (c : Cell) : Type 0 where
  pub a : IsSignalOf store.nets c.a
  pub b : IsSignalOf store.nets c.b
  pub s : IsSignalOf store.nets c.s
  pub width : c.width ≤ widest
  pub fits : widths_fit c.op (widths_of c) ≡ true
  pub there : out < length store.cells
  pub out_width : width_at store.cells out ≡ c.width
