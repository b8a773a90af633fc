use Rattle.std.proofs.Common.{◌≡◌, ◌++◌}
use Rattle.design_starts.specs.Marks.{marks_below}
use Rattle.design_starts.proofs.marks.push_marks.Given as goal

abbrev pub invariant-loop-bit : goal.invariant-loop-bit
invariant-loop-bit l = l.found.items ≡ l.fn.found.items ++ marks_below l.net l.constant l.bit
