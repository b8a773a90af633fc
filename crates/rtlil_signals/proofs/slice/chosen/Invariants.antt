use Rattle.std.proofs.Common.{◌≡◌, ◌≤◌, ◌+◌, drop}
use Rattle.rtlil_signals.specs.Slices.{chosen}
use Rattle.rtlil_signals.proofs.slice.chosen.Given as goal

abbrev pub invariant-loop-slice : goal.invariant-loop-slice
invariant-loop-slice l = record {
  same : chosen (record { at = 0; width = l.fn.width }) l.slices ≡ chosen l.range (drop l.slice-index l.slices);
  room : l.range.at + l.range.width ≤ l.fn.width;
}
