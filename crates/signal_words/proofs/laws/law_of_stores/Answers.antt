use Rattle.signal_words.proofs.Fitting.{signal_of, cell_of}
use Rattle.signal_words.proofs.laws.law_of_stores.Goals as goal

pub returns-clause-signal : goal.returns-clause-signal
returns-clause-signal c = signal_of

pub returns-clause-cell : goal.returns-clause-cell
returns-clause-cell c = cell_of
