use Rattle.std.proofs.Common.{◌≡◌, ◌++◌, drop}
use Rattle.rtlil_signals.specs.Spans.{pieces_of}
use Rattle.circuit.specs.Signal.{sig_part}
use Rattle.rtlil_signals.proofs.span.part_of.Given as goal

abbrev pub invariant-loop-span : goal.invariant-loop-span
invariant-loop-span l = sig_part l.fn.at l.fn.width (pieces_of l.spans) ≡ pieces_of l.found ++ sig_part l.skipped l.left (pieces_of (drop l.span-index l.spans))
