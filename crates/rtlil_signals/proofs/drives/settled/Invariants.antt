use Rattle.std.proofs.Common.{◌≡◌, ◌≤◌, length}
use Rattle.rtlil_signals.specs.Drives.{bit_of}
use Rattle.rtlil_signals.proofs.drives.settled.Given as goal

abbrev pub invariant-loop-part : goal.invariant-loop-part
invariant-loop-part l = record {
  same : bit_of l.spans l.position ≡ bit_of l.spans l.fn.from;
  here : l.position.part ≡ l.part;
  near : l.position.skipped ≤ l.fn.from.skipped;
}
