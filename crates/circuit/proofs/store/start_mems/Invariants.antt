use Rattle.std.proofs.Common.{◌≡◌, map, take}
use Rattle.circuit.specs.Store.{start_read}
use Rattle.circuit.proofs.store.start_mems.Given as goal

abbrev pub invariant-loop-mem : goal.invariant-loop-mem
invariant-loop-mem l = l.values ≡ map (λ m. map (start_read m) m.reads) (take l.mem-index l.mems)
