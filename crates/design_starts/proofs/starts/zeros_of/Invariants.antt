use Rattle.std.proofs.Common.{◌≡◌, map, take}
use Rattle.sim_base.specs.BitValue.{zeros}
use Rattle.design_starts.proofs.starts.zeros_of.Given as goal

abbrev pub invariant-loop-reg : goal.invariant-loop-reg
invariant-loop-reg l = l.values ≡ map (λ r. zeros r.width) (take l.reg-index l.regs)
