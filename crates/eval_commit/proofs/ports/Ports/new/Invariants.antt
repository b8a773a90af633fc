use Rattle.std.proofs.Common.{◌≡◌, map, take}
use Rattle.eval_commit.proofs.ports.Ports.new.Given as goal

abbrev pub invariant-loop-port : goal.invariant-loop-port
invariant-loop-port l = l.outs.items ≡ map (λ p. p.init) (take l.port-index l.port-items)
