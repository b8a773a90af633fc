use Rattle.std.proofs.Common.{◌≡◌, length, min, sum_by, take}
use Rattle.design_finish.proofs.nodes.read_ports_of.Given as goal

abbrev pub invariant-loop-mem : goal.invariant-loop-mem
invariant-loop-mem l = l.ports ≡ min (sum_by (λ m. length m.reads) (take l.mem-index l.mems)) 18446744073709551615
