use Rattle.std.proofs.Common.{◌≡◌, length, min, sum_by, take}
use Rattle.rtlil_check.proofs.counts.counts_of.Given as goal

abbrev pub invariant-loop-module : goal.invariant-loop-module
invariant-loop-module l = l.statements ≡ min (sum_by (λ m. length m.statements) (take l.module-index l.file.modules)) 18446744073709551615
