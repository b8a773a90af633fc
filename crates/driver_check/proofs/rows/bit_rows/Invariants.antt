use Rattle.std.proofs.Common.{◌≡◌, ◌<◌, length, Some}
use Rattle.std.specs.Prelude.{slice_get}
use Rattle.driver_check.specs.Depends.{Bit}
use Rattle.driver_check.specs.Numbers.{IsBit, bit_number}
use Rattle.driver_check.specs.Vertices.{bit_span}
use Rattle.driver_check.proofs.rows.bit_rows.Given as goal

abbrev pub invariant-loop-number : goal.invariant-loop-number
invariant-loop-number l = record {
  long : length l.bits.items ≡ l.number;
  bit : (x : Bit) → IsBit l.circuit.nets x → bit_number l.circuit.nets x < l.number → slice_get l.bits.items (bit_number l.circuit.nets x) ≡ Some (bit_span l.circuit x);
}
