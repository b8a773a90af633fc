use Rattle.std.proofs.Common.{◌≡◌, ◌≤◌, ◌*◌, ◌^◌, ◌++◌, drop, length, take}
use Rattle.circuit.specs.Signal.{sig_width}
use Rattle.rtlil_signals.specs.Drives.{bit_of, connected, connected_from}
use Rattle.rtlil_signals.specs.Spans.{pieces_of}
use Rattle.rtlil_signals.proofs.drives.connect.Given as goal

abbrev pub invariant-loop-part : goal.invariant-loop-part
invariant-loop-part l = record {
  same : l.drives ++ connected_from (bit_of l.right l.position) (pieces_of (drop l.part-index l.left)) (pieces_of l.right) ≡ l.fn.drives ++ connected (pieces_of l.left) (pieces_of l.right);
  within : l.position.part ≤ length l.right;
  small : l.position.skipped ≤ l.part-index * 2 ^ 64;
}
