use Rattle.std.proofs.Common.{◌-◌, ◌+◌, ◌≤◌}
use Rattle.circuit.specs.Signal.{sig_number}
use Rattle.signal_words.specs.Values.{digits_in}
use Rattle.memory_cells.proofs.HighDigits.{HighPart}
use Rattle.memory_cells.proofs.address.small_number.Given as goal

abbrev pub invariant-loop-at : goal.invariant-loop-at
invariant-loop-at l = record {
  near : l.at ≤ l.width + 63;
  high : HighPart (sig_number (digits_in l.nets) l.sig) l.reader.number l.at l.word;
}

abbrev pub decreases-loop-at : goal.decreases-loop-at
decreases-loop-at l = l.width - l.at
