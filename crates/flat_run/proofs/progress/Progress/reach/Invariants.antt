use Rattle.std.proofs.Common.{◌+◌, ◌-◌, if◌then◌else◌}
use Rattle.flat_run.specs.Progress.{IsProgress}
use Rattle.flat_run.proofs.progress.Progress.reach.Given as goal

abbrev pub invariant-loop-self : goal.invariant-loop-self
invariant-loop-self l = IsProgress l.circuit l.stimulus l.self

abbrev pub decreases-loop-self : goal.decreases-loop-self
decreases-loop-self l = (l.want - l.self.settled) + (if l.self.stuck then 0 else 1)
