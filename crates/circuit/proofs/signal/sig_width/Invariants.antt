use Rattle.std.proofs.Common.{◌≡◌, ◌<◌, ◌^◌, take}
use Rattle.circuit.specs.Signal.{AreBits, Digits, sig_number, sig_width}
use Rattle.circuit.proofs.Signals.{AreFirstBelow}
use Rattle.circuit.proofs.signal.sig_width.Given as goal

abbrev pub invariant-loop-piece : goal.invariant-loop-piece
invariant-loop-piece l = record {
  width : l.width ≡ sig_width (take l.piece-index l.sig);
  below : (digits : Digits) → AreBits digits → sig_number digits (take l.piece-index l.sig) < 2 ^ sig_width (take l.piece-index l.sig);
  constants : AreFirstBelow l.sig l.piece-index;
}
