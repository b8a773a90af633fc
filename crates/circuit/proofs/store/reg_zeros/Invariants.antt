use Rattle.std.proofs.Common.{◌≡◌, map, take}
use Rattle.circuit.proofs.store.reg_zeros.Given as goal

abbrev pub invariant-loop-reg : goal.invariant-loop-reg
invariant-loop-reg l = l.widths.items ≡ map (λ r. r.init.width) (take l.reg-index l.regs)
