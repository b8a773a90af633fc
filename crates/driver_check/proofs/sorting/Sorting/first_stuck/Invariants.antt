use Rattle.std.proofs.Common.{ℕ, ◌<◌}
use Rattle.driver_check.specs.Search.{Has}
use Rattle.driver_check.specs.declared.search.Mark.TheVariants as mark
use Rattle.driver_check.proofs.sorting.Sorting.first_stuck.Given as goal

abbrev pub invariant-loop-number : goal.invariant-loop-number
invariant-loop-number l = (u : ℕ) → u < l.number → Has l.self.search.marks.items mark.Stuck u → ⊥
