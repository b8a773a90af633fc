-- What drives signals, in drives that each lie in one piece on both sides.
use Rattle.std.specs.Prelude.{ℕ, ◌+◌, List, [], ◌∷◌, ◌++◌, take}
use Rattle.circuit.specs.declared.netlist.By.{By}
use Rattle.circuit.specs.declared.netlist.By.TheVariants as by
use Rattle.circuit.specs.declared.netlist.Drive.{Drive}
use Rattle.circuit.specs.declared.netlist.Piece.{Piece}
use Rattle.circuit.specs.declared.netlist.Piece.TheVariants as piece
use Rattle.circuit.specs.Signal.{piece_width, sig_part, sig_width}
use Rattle.rtlil_signals.specs.Spans.{pieces_of}
use Rattle.rtlil_signals.specs.declared.drives.Source.{Source}
use Rattle.rtlil_signals.specs.declared.drives.Source.TheVariants as source
use Rattle.rtlil_signals.specs.declared.drives.Position.{Position}
use Rattle.rtlil_signals.specs.declared.span.Span.{Span}

abbrev pub by_of : Piece → By
by_of (piece.Const v) = by.Const v
by_of (piece.Part net at width) = by.Wire net at

-- pieces, one behind the other, as drivers of a net from a bit on
unfoldable pub onto : ℕ → ℕ → List Piece → List Drive
onto net at [] = []
onto net at (p ∷ ps) = (record { net = net; at = at; width = piece_width p; by = by_of p }) ∷ onto net (at + piece_width p) ps

-- a piece that is driven by pieces of as many bits; what would drive a constant is dropped
abbrev pub driven : Piece → List Piece → List Drive
driven (piece.Const v) ps = []
driven (piece.Part net at width) ps = onto net at ps

-- a signal that is driven by another one, from a bit of that on: each piece by the pieces of the bits that lie behind it
unfoldable pub connected_from : ℕ → List Piece → List Piece → List Drive
connected_from done [] right = []
connected_from done (p ∷ ps) right = driven p (sig_part done (piece_width p) right) ++ connected_from (done + piece_width p) ps right

abbrev pub connected : List Piece → List Piece → List Drive
connected left right = connected_from 0 left right

-- a signal that is driven by something of as many bits, which is named with the first bit that is taken
unfoldable pub driven_from : (ℕ → By) → ℕ → List Piece → List Drive
driven_from source done [] = []
driven_from source done (piece.Const v ∷ ps) = driven_from source (done + v.width) ps
driven_from source done (piece.Part net at width ∷ ps) = (record { net = net; at = at; width = width; by = source done }) ∷ driven_from source (done + width) ps

-- ---- what drives

abbrev pub by_at : Source → ℕ → By
by_at (source.Input n) at = by.Input n at
by_at (source.Net n) at = by.Wire n at
by_at (source.Cell n) at = by.Cell n at
by_at (source.Register n) at = by.Reg n at
by_at (source.Read mem port) at = by.Read mem port at

-- the bit of a signal at which a position stands
abbrev pub bit_of : List Span → Position → ℕ
bit_of spans p = sig_width (pieces_of (take p.part spans)) + p.skipped
