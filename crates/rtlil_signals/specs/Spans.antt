-- Parts of constants and of nets, as pieces of a signal.
use Rattle.std.specs.Prelude.{ℕ, ◌-◌, ◌/◌, ◌%◌, ◌^◌, List, [], ◌∷◌, map, nat_eq, if◌then◌else◌}
use Rattle.sim_base.specs.BitValue.{BitValue, bit_value}
use Rattle.circuit.specs.declared.netlist.Piece.{Piece}
use Rattle.circuit.specs.declared.netlist.Piece.TheVariants as piece
use Rattle.circuit.specs.Signal.{piece_part}
use Rattle.rtlil_signals.specs.Values.{const_value}
use Rattle.rtlil_signals.specs.declared.span.Span.{Span}
use Rattle.rtlil_signals.specs.declared.span.Span.TheVariants as span

-- bits of a piece, so many from its bit `at` on, where there is one
abbrev pub some_part : ℕ → ℕ → Piece → List Piece
some_part at width p = if nat_eq width 0 then [] else piece_part at width p ∷ []

-- bits of a value, so many from its bit `at` on
abbrev pub value_part : BitValue → ℕ → ℕ → BitValue
value_part v at width = bit_value width (v.number / 2 ^ at % 2 ^ width)

-- the piece that a part stands for
abbrev pub piece_of : Span → Piece
piece_of (span.Const of from to) = piece.Const (value_part (const_value of.now) from (to - from))
piece_of (span.Net net from to) = piece.Part net from (to - from)

abbrev pub pieces_of : List Span → List Piece
pieces_of spans = map piece_of spans
