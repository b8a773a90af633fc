use Rattle.eval_commit.proofs.Starting.{no_width}
use Rattle.eval_commit.proofs.start.input_width.Goals as goal

pub returns-in-None : goal.returns-in-None
returns-in-None c = let e = c.in-None.ensures in no_width c.args.circuit.now.nets c.args.net e.value
