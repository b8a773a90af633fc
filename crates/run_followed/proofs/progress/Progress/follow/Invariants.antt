use Rattle.std.proofs.Common.{◌+◌, ◌-◌, if◌then◌else◌}
use Rattle.run_followed.specs.Progress.{IsProgress}
use Rattle.run_followed.proofs.progress.Progress.follow.Given as goal

abbrev pub invariant-loop-self : goal.invariant-loop-self
invariant-loop-self l = IsProgress l.circuit l.stimulus l.self

abbrev pub decreases-loop-self : goal.decreases-loop-self
decreases-loop-self l = (l.want - l.self.cursor.given) + (if l.self.cursor.stuck then 0 else 1)
