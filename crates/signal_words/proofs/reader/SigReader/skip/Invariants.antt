use Rattle.std.proofs.Common.{◌+◌, length}
use Rattle.signal_words.proofs.Steps.{IsPassing}
use Rattle.signal_words.proofs.reader.SigReader.skip.Given as goal

abbrev pub invariant-loop-more : goal.invariant-loop-more
invariant-loop-more l = IsPassing l.self-inside.nets.now l.pieces l.at l.n l.more l.fn.self

abbrev pub decreases-loop-more : goal.decreases-loop-more
decreases-loop-more l = length l.pieces + l.more
