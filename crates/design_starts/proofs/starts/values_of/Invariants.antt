use Rattle.std.proofs.Common.{◌≡◌, ◌-◌, drop, length}
use Rattle.driver_check.specs.Numbers.{IsNumbering}
use Rattle.design_starts.specs.Chains.{IsTable}
use Rattle.design_starts.specs.Starts.{HaveDigits}
use Rattle.design_starts.proofs.starts.values_of.Given as goal

abbrev pub invariant-loop-done : goal.invariant-loop-done
invariant-loop-done l = record {
  places : IsNumbering l.circuit.nets l.chains.places.firsts.items l.chains.places.bits;
  long : length l.chains.table.items ≡ l.chains.places.bits;
  table : IsTable l.circuit l.chains.table.items;
  digits : HaveDigits l.circuit (drop (length l.marks - l.done) l.marks) l.values;
}
