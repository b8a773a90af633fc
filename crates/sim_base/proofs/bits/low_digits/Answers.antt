use Rattle.sim_base.proofs.OneWord.{masked}
use Rattle.sim_base.proofs.bits.low_digits.Goals as goal

pub returns : goal.returns
returns c = masked c.args.v c.args.n c.requires.small
