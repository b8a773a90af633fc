use Rattle.std.proofs.Common.{◌<◌, ◌^◌, subst, sym}
use Rattle.circuit.specs.Signal.{piece_number, piece_width}
use Rattle.circuit.proofs.Signals.{part_below}
use Rattle.circuit.proofs.netlist.Piece.width.Goals as goal

pub returns-in-Part-clause-below : goal.returns-in-Part-clause-below
returns-in-Part-clause-below c digits small =
    subst (λ p. piece_number digits p < 2 ^ piece_width p) (sym c.in-Part.is) (part_below digits small c.in-Part.net c.in-Part.at c.in-Part.width)
