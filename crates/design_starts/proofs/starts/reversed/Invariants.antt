use Rattle.std.proofs.Common.{◌≡◌, ◌++◌, length}
use Rattle.std.specs.Prelude.{reverse}
use Rattle.design_starts.proofs.starts.reversed.Given as goal

abbrev pub invariant-registers : goal.invariant-registers
invariant-registers l = reverse l.fn.regs ≡ l.found ++ reverse l.rest

abbrev pub decreases-registers : goal.decreases-registers
decreases-registers l = length l.rest
