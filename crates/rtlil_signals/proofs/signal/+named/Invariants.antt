use Rattle.std.proofs.Common.{◌≡◌, drop}
use Rattle.std.specs.List.{list_all}
use Rattle.rtlil_signals.specs.Signals.{is_named}
use Rattle.rtlil_signals.proofs.signal.+named.Given as goal

abbrev pub invariant-are_named-loop-part : goal.invariant-are_named-loop-part
invariant-are_named-loop-part l = list_all (is_named l.scope) l.parts ≡ list_all (is_named l.scope) (drop l.part-index l.parts)
