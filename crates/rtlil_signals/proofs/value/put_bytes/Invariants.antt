use Rattle.std.proofs.Common.{◌≡◌, ◌-◌, ◌*◌, ◌^◌, ◌<◌, drop, length}
use Rattle.rtlil_signals.specs.Values.{bytes_number}
use Rattle.rtlil_signals.proofs.value.put_bytes.Given as goal

abbrev pub invariant-loop-done : goal.invariant-loop-done
invariant-loop-done l = record {
  width : l.bits.width ≡ l.fn.bits.width;
  number : l.bits.number ≡ bytes_number (drop (length l.bytes - l.done) l.bytes);
  below : l.bits.number < 2 ^ (8 * l.done);
}
