use Rattle.std.proofs.Common.{◌≡◌, map, take}
use Rattle.eval_commit.proofs.ports.start_ports.Given as goal

abbrev pub invariant-loop-mem : goal.invariant-loop-mem
invariant-loop-mem l = l.ports ≡ map (λ m. map (λ p. p.init) m.reads) (take l.mem-index l.mem-items)
