use Rattle.std.proofs.Common.{◌<◌, length, subst, sym}
use Rattle.std.specs.Arc.{arc_value}
use Rattle.stimulus_blocks.specs.Courses.{Course}
use Rattle.run_followed.proofs.run.FollowedRun.count.Goals as goal

pub returns-clause-some : goal.returns-clause-some
returns-clause-some c =
    c.count.ensures.some (subst (λ (s : Course). 0 < length s.blocks) (sym c.deref.ensures) (c.law_of_blocks.ensures (arc_value c.self.inside.run.circuit) (arc_value c.self.inside.run.stimulus) c.self.invariant.0))
