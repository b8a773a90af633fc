-- A store of which one net or one output has another number.
use Rattle.std.proofs.Common.{◌≡◌, ℕ, List, ◌∙◌, ap}
use Rattle.sim_base.specs.BitValue.{BitValue}
use Rattle.sim_base.specs.Values.{widths, with_number}
use Rattle.sim_base.proofs.Held.{widths_kept}
use Rattle.circuit.specs.declared.netlist.Circuit.{Circuit}
use Rattle.circuit.specs.declared.store.Store.{Store}
use Rattle.signal_words.specs.Stores.{IsStoreOf}

pub net_written : (c : Circuit) (store : Store) (n number : ℕ) (nets : List BitValue) → nets ≡ with_number store.nets n number → IsStoreOf c store → IsStoreOf c (record store { nets = nets })
net_written c store n number nets e is = record {
  nets = ap widths e ∙ widths_kept store.nets n number ∙ is.nets;
  cells = is.cells;
  regs = is.regs;
  reads = is.reads;
}

pub output_written : (c : Circuit) (store : Store) (n number : ℕ) (cells : List BitValue) → cells ≡ with_number store.cells n number → IsStoreOf c store → IsStoreOf c (record store { cells = cells })
output_written c store n number cells e is = record {
  nets = is.nets;
  cells = ap widths e ∙ widths_kept store.cells n number ∙ is.cells;
  regs = is.regs;
  reads = is.reads;
}
