use Rattle.std.proofs.Common.{◌<◌, ◌^◌, subst}
use Rattle.dirty_set.proofs.set.DirtySet.size.Goals as goal

pub returns-clause-below : goal.returns-clause-below
returns-clause-below c = subst (λ v. v.number < 2 ^ v.width) c.self.view_is c.self.invariant.below
