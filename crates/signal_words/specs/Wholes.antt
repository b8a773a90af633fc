-- Signals of one piece.
use Rattle.std.specs.Prelude.{ℕ, ◌==◌, List, [], ◌∷◌, Bool, true, false, ◌&&◌, nat_le}
use Rattle.sim_base.specs.BitValue.{BitValue}
use Rattle.circuit.specs.Signal.{piece_width}
use Rattle.circuit.specs.declared.netlist.Piece.{Piece}
use Rattle.circuit.specs.declared.netlist.Piece.TheVariants as piece
use Rattle.signal_words.specs.Values.{width_at}

-- a constant, or a net that the piece is the whole of
abbrev pub is_whole : List BitValue → Piece → Bool
is_whole values (piece.Const v) = true
is_whole values (piece.Part net at width) = width == width_at values net

abbrev pub is_whole_of : List BitValue → ℕ → Piece → Bool
is_whole_of values width p = is_whole values p && piece_width p == width

-- it has at most 64 bits
abbrev pub is_small : Piece → Bool
is_small p = nat_le (piece_width p) 64

abbrev pub is_small_whole : List BitValue → Piece → Bool
is_small_whole values p = is_whole values p && is_small p

-- a signal is one piece of this kind
abbrev pub is_one : (Piece → Bool) → List Piece → Bool
is_one kind [] = false
is_one kind (p ∷ []) = kind p
is_one kind (p ∷ q ∷ ps) = false

-- the same, or it has no piece
abbrev pub is_at_most_one : (Piece → Bool) → List Piece → Bool
is_at_most_one kind [] = true
is_at_most_one kind (p ∷ []) = kind p
is_at_most_one kind (p ∷ q ∷ ps) = false
