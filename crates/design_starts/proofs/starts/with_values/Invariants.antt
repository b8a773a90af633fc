use Rattle.std.proofs.Common.{◌≡◌, ◌+◌, ◌++◌, drop, length}
use Rattle.std.specs.Prelude.{reverse}
use Rattle.design_starts.specs.Starts.{with_values}
use Rattle.design_starts.proofs.starts.with_values.Given as goal

abbrev pub invariant-registers : goal.invariant-registers
invariant-registers l = record {
  long : length l.found + length l.rest ≡ length l.values;
  so_far : with_values l.fn.regs l.values ≡ l.found ++ with_values (reverse l.rest) (drop (length l.found) l.values);
}

abbrev pub decreases-registers : goal.decreases-registers
decreases-registers l = length l.rest
