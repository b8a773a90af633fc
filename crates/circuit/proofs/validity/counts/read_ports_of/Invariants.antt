use Rattle.std.proofs.Common.{◌≡◌, ◌+◌, ◌≤◌, length, min, sum_by, drop}
use Rattle.circuit.proofs.validity.counts.read_ports_of.Given as goal

abbrev pub invariant-loop-mem : goal.invariant-loop-mem
invariant-loop-mem l =
    (l.ports ≤ 4294967296)
    × (min (l.ports + sum_by (λ m. length m.reads) (drop l.mem-index l.mems)) 4294967296 ≡ min (sum_by (λ m. length m.reads) l.mems) 4294967296)
