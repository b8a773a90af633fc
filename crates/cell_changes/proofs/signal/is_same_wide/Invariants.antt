use Rattle.circuit.specs.Signal.{sig_number}
use Rattle.signal_words.specs.Values.{digits_in}
use Rattle.cell_changes.proofs.Same.{AreCompared}
use Rattle.cell_changes.proofs.signal.is_same_wide.Given as goal

abbrev pub invariant-loop-left : goal.invariant-loop-left
invariant-loop-left l = AreCompared (sig_number (digits_in l.before) l.sig) (sig_number (digits_in l.now) l.sig) l.left l.old.number l.new.number

abbrev pub decreases-loop-left : goal.decreases-loop-left
decreases-loop-left l = l.left
