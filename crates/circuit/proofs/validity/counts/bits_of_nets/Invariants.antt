use Rattle.std.proofs.Common.{◌≡◌, ◌+◌, ◌≤◌, min, sum_by, drop}
use Rattle.circuit.proofs.validity.counts.bits_of_nets.Given as goal

abbrev pub invariant-loop-net : goal.invariant-loop-net
invariant-loop-net l =
    (l.bits ≤ 4294967296)
    × (min (l.bits + sum_by (λ n. n.width) (drop l.net-index l.nets)) 4294967296 ≡ min (sum_by (λ n. n.width) l.nets) 4294967296)
