use Rattle.std.proofs.Common.{◌≡◌, ◌-◌, ◌≤◌, drop, map, length, Option, Some, List}
use Rattle.circuit.specs.declared.netlist.Piece.{Piece}
use Rattle.rtlil_signals.specs.Signals.{concatenated, sig_pieces}
use Rattle.rtlil_signals.specs.Spans.{pieces_of}
use Rattle.rtlil_signals.proofs.signal.+draw.Given as goal

abbrev pub invariant-concatenated-loop-done : goal.invariant-concatenated-loop-done
invariant-concatenated-loop-done l = ◌≡◌ {A = Option (List Piece)} (concatenated (map (sig_pieces l.scope) (drop (length l.parts - l.done) l.parts))) (Some (pieces_of l.found))
