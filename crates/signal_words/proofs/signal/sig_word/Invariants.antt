use Rattle.std.proofs.Common.{◌≡◌, ◌<◌, ◌^◌, take}
use Rattle.circuit.specs.Signal.{sig_number, sig_width}
use Rattle.signal_words.specs.Values.{digits_in}
use Rattle.signal_words.proofs.signal.sig_word.Given as goal

abbrev pub invariant-loop-piece : goal.invariant-loop-piece
invariant-loop-piece l = record {
  offset : l.offset ≡ sig_width (take l.piece-index l.sig);
  word : l.word ≡ sig_number (digits_in l.nets) (take l.piece-index l.sig);
  below : l.word < 2 ^ l.offset;
}
