use Rattle.sim_base.proofs.Held.{below}
use Rattle.sim_base.proofs.values.Values.width.Goals as goal

pub returns-clause-below : goal.returns-clause-below
returns-clause-below c = below _ _ _ _ c.args.n c.self.invariant c.self.view_is c.requires
