use Rattle.std.proofs.Common.{ℕ}
use Rattle.driver_check.specs.Numbers.{IsIn}
use Rattle.driver_check.specs.Search.{Has}
use Rattle.driver_check.specs.declared.search.Mark.TheVariants as mark
use Rattle.driver_check.proofs.walk.stuck_within.Given as goal

abbrev pub invariant-loop-at : goal.invariant-loop-at
invariant-loop-at l = (w : ℕ) → IsIn l.span.first l.at w → Has l.marks mark.Stuck w → ⊥
