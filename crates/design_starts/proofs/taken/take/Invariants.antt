use Rattle.std.proofs.Common.{◌≡◌, ◌+◌, ◌-◌, ◌&&◌, length, cond, Some, nat_eq, nat_le, nat_lt}
use Rattle.std.specs.Prelude.{slice_get}
use Rattle.driver_check.specs.Depends.{Bit}
use Rattle.driver_check.specs.Numbers.{IsBit, bit_number}
use Rattle.design_starts.specs.Chains.{taken_by}
use Rattle.design_starts.proofs.taken.take.Given as goal

abbrev pub invariant-loop-i : goal.invariant-loop-i
invariant-loop-i l = record {
  long : length l.table.items ≡ length l.fn.table.items;
  taken : (x : Bit) → IsBit l.nets x → slice_get l.table.items (bit_number l.nets x)
      ≡ cond (nat_eq l.drive.net x.0 && (nat_le l.drive.at x.1 && nat_lt x.1 (l.drive.at + l.i))) (Some (taken_by l.drive.by (x.1 - l.drive.at))) (slice_get l.fn.table.items (bit_number l.nets x));
}
