use Rattle.std.proofs.Common.{◌+◌, ◌-◌, length}
use Rattle.signal_words.proofs.Steps.{IsReading}
use Rattle.signal_words.proofs.reader.SigReader.take_across.Given as goal

abbrev pub invariant-loop-taken : goal.invariant-loop-taken
invariant-loop-taken l = IsReading l.self-inside.nets.now l.pieces l.at l.n l.fn.self.width l.fn.self.number l.word l.taken

abbrev pub decreases-loop-taken : goal.decreases-loop-taken
decreases-loop-taken l = length l.pieces + (l.n - l.taken)
