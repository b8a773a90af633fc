use Rattle.std.proofs.Common.{◌≡◌, map, take, get_or}
use Rattle.flat_stimulus.proofs.stimulus.copy_inputs.Given as goal

abbrev pub invariant-loop-i : goal.invariant-loop-i
invariant-loop-i l = take l.i l.into ≡ map (λ column. get_or l.values column 0) (take l.i l.columns)
