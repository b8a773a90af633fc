use Rattle.std.proofs.Common.{◌≡◌, map, take}
use Rattle.circuit.specs.Store.{start_read}
use Rattle.circuit.proofs.store.start_reads.Given as goal

abbrev pub invariant-loop-port : goal.invariant-loop-port
invariant-loop-port l = l.values ≡ map (start_read l.mem) (take l.port-index l.port-items)
