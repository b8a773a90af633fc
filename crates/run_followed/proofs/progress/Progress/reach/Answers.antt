use Rattle.std.proofs.Common.{◌∙◌, arith}
use Rattle.run_followed.proofs.progress.Progress.reach.Goals as goal

pub returns-clause-settled : goal.returns-clause-settled
returns-clause-settled c = c.min.ensures ∙ omega (arith, c.follow.ensures.least, c.follow.ensures.most)
