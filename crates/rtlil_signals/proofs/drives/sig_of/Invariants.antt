use Rattle.std.proofs.Common.{◌≡◌, take}
use Rattle.rtlil_signals.specs.Spans.{pieces_of}
use Rattle.rtlil_signals.proofs.drives.sig_of.Given as goal

abbrev pub invariant-loop-span : goal.invariant-loop-span
invariant-loop-span l = l.sig ≡ pieces_of (take l.span-index l.spans)
