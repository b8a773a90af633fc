use Rattle.std.proofs.Common.{◌≡◌, drop}
use Rattle.rtlil_signals.specs.Spans.{pieces_of}
use Rattle.design_wires.specs.Connects.{has_no_constant}
use Rattle.design_wires.proofs.assignment.has_no_constant.Given as goal

abbrev pub invariant-loop-span : goal.invariant-loop-span
invariant-loop-span l = has_no_constant (pieces_of l.spans) ≡ has_no_constant (pieces_of (drop l.span-index l.spans))
