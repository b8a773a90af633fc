use Rattle.std.proofs.Common.{◌≡◌, ◌-◌, ◌/◌, ◌^◌, ◌<◌, ◌≤◌}
use Rattle.circuit.specs.Signal.{gathered, sig_number}
use Rattle.signal_words.specs.Values.{digits_in}
use Rattle.memory_cells.proofs.Placed.{Placed}
use Rattle.memory_cells.specs.Ports.{masked_digit}
use Rattle.memory_cells.proofs.write.write_enabled.Given as goal

abbrev pub invariant-loop-at : goal.invariant-loop-at
invariant-loop-at l = record {
  inside : l.at ≤ l.width;
  width : l.row.width ≡ l.width;
  below : l.row.number < 2 ^ l.row.width;
  en : l.en.number ≡ sig_number (digits_in l.now) l.port.en / 2 ^ l.at;
  word : l.word.number ≡ sig_number (digits_in l.now) l.port.word / 2 ^ l.at;
  placed : Placed (gathered (masked_digit (sig_number (digits_in l.now) l.port.en) (sig_number (digits_in l.now) l.port.word) l.fn.row.number) l.width) l.fn.row.number l.at l.row.number;
}

abbrev pub decreases-loop-at : goal.decreases-loop-at
decreases-loop-at l = l.width - l.at
