use Rattle.std.proofs.Common.{◌≡◌, ◌++◌, map, take}
use Rattle.circuit.proofs.shape.push_diags.Given as goal

abbrev pub invariant-loop-diag : goal.invariant-loop-diag
invariant-loop-diag l = l.widths.items ≡ l.fn.widths.items ++ map (λ _. 1) (take l._diag-index l.diags)
