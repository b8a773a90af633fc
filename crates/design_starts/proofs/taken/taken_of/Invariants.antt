use Rattle.std.proofs.Common.{◌≡◌, ◌-◌, drop, length, Some}
use Rattle.std.specs.Prelude.{find, slice_get}
use Rattle.circuit.specs.Valuation.{covers}
use Rattle.driver_check.specs.Depends.{Bit}
use Rattle.driver_check.specs.Numbers.{IsBit, bit_number}
use Rattle.design_starts.specs.Chains.{taken_at}
use Rattle.design_starts.proofs.taken.taken_of.Given as goal

abbrev pub invariant-loop-done : goal.invariant-loop-done
invariant-loop-done l = record {
  long : length l.table.items ≡ l.places.bits;
  taken : (x : Bit) → IsBit l.circuit.nets x → slice_get l.table.items (bit_number l.circuit.nets x)
      ≡ Some (taken_at x.1 (find (covers x.0 x.1) (drop (length l.circuit.drives - l.done) l.circuit.drives)));
}
