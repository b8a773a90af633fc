use Rattle.std.proofs.Common.{◌≡◌, map, take}
use Rattle.sim_base.proofs.values.zeros_like.Given as goal

abbrev pub invariant-loop-value : goal.invariant-loop-value
invariant-loop-value l = l.widths.items ≡ map (λ v. v.width) (take l.value-index l.values)
