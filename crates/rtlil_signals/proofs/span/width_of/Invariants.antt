use Rattle.std.proofs.Common.{◌≡◌, ◌≤◌, ◌+◌, ◌*◌, ◌^◌, drop}
use Rattle.circuit.specs.Signal.{sig_width}
use Rattle.rtlil_signals.specs.Spans.{pieces_of}
use Rattle.rtlil_signals.proofs.span.width_of.Given as goal

abbrev pub invariant-loop-span : goal.invariant-loop-span
invariant-loop-span l = record {
  same : l.width + sig_width (pieces_of (drop l.span-index l.spans)) ≡ sig_width (pieces_of l.spans);
  small : l.width ≤ l.span-index * 2 ^ 64;
}
