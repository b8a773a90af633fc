use Rattle.std.proofs.Common.{◌≡◌, ◌+◌, ◌++◌, drop}
use Rattle.circuit.specs.Signal.{sig_width}
use Rattle.rtlil_signals.specs.Drives.{by_at, driven_from}
use Rattle.rtlil_signals.specs.Spans.{pieces_of}
use Rattle.rtlil_signals.proofs.drives.drive.Given as goal

abbrev pub invariant-loop-part : goal.invariant-loop-part
invariant-loop-part l = record {
  same : l.drives ++ driven_from (by_at l.source) l.at (pieces_of (drop l.part-index l.left)) ≡ l.fn.drives ++ driven_from (by_at l.source) 0 (pieces_of l.left);
  bits : l.at + sig_width (pieces_of (drop l.part-index l.left)) ≡ sig_width (pieces_of l.left);
}
