use Rattle.std.proofs.Common.{◌≡◌, ◌++◌, take}
use Rattle.driver_check.specs.Vertices.{sig_spans}
use Rattle.driver_check.proofs.rows.push_signal.Given as goal

abbrev pub invariant-loop-piece : goal.invariant-loop-piece
invariant-loop-piece l = l.spans ≡ l.fn.spans ++ sig_spans l.circuit.nets (take l.piece-index l.pieces)
