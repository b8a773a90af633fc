use Rattle.std.proofs.Common.{◌≡◌, min, ◌+◌, ◌≤◌, drop}
use Rattle.circuit.specs.Signal.{sig_width}
use Rattle.circuit.proofs.validity.signals.capped_width.Given as goal

abbrev pub invariant-loop-piece : goal.invariant-loop-piece
invariant-loop-piece l =
    (l.width ≤ 65537) × (min (l.width + sig_width (drop l.piece-index l.pieces)) 65537 ≡ min (sig_width l.pieces) 65537)
