use Rattle.signal_words.proofs.Fitting.{start_of}
use Rattle.signal_words.proofs.laws.law_of_start.Goals as goal

pub returns : goal.returns
returns c x v = start_of x v
