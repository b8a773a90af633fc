-- The numbers of nets, cells, registers and read ports before the first sample.
use Rattle.std.specs.Prelude.{map, if◌then◌else◌}
use Rattle.sim_base.specs.BitValue.{BitValue, zeros}
use Rattle.circuit.specs.declared.netlist.Circuit.{Circuit}
use Rattle.circuit.specs.declared.memory.Mem.{Mem}
use Rattle.circuit.specs.declared.memory.ReadPort.{ReadPort}
use Rattle.circuit.specs.declared.store.Store.{Store}

-- a read port without a clock keeps nothing
abbrev pub start_read : Mem → ReadPort → BitValue
start_read m p = if p.clocked then p.init else zeros m.width

-- registers and read ports with a clock have their start values, and all else is 0
abbrev pub start_store : Circuit → Store
start_store c = record {
  nets = map (λ n. zeros n.width) c.nets;
  cells = map (λ x. zeros x.width) c.cells;
  regs = map (λ r. r.init) c.regs;
  reads = map (λ m. map (start_read m) m.reads) c.mems;
}
