use Rattle.std.proofs.Common.{◌≡◌, ◌+◌, ◌++◌, drop}
use Rattle.circuit.specs.Signal.{sig_width}
use Rattle.rtlil_signals.specs.Drives.{onto}
use Rattle.rtlil_signals.specs.Spans.{pieces_of}
use Rattle.rtlil_signals.proofs.drives.drive_net.Given as goal

abbrev pub invariant-loop-part : goal.invariant-loop-part
invariant-loop-part l = record {
  same : l.drives ++ onto l.net l.next (pieces_of (drop l.part-index l.parts)) ≡ l.fn.drives ++ onto l.net l.fn.from (pieces_of l.parts);
  bits : l.next + sig_width (pieces_of (drop l.part-index l.parts)) ≡ l.fn.from + sig_width (pieces_of l.parts);
}
