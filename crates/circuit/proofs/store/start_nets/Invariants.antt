use Rattle.std.proofs.Common.{◌≡◌, map, take}
use Rattle.circuit.proofs.store.start_nets.Given as goal

abbrev pub invariant-loop-net : goal.invariant-loop-net
invariant-loop-net l = l.widths.items ≡ map (λ n. n.width) (take l.net-index l.nets)
