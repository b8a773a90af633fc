-- Signals and cells whose numbers are single words.
use Rattle.std.specs.Prelude.{◌≡◌, ℕ, ◌<◌, ◌≤◌, ◌^◌, List, [], ◌∷◌, length, false, slice_index}
use Rattle.circuit.specs.declared.cell.Cell.{Cell}
use Rattle.circuit.specs.declared.cell.Op.TheVariants as op
use Rattle.circuit.specs.declared.netlist.Piece.{Piece}
use Rattle.circuit.specs.declared.netlist.Piece.TheVariants as piece

-- a constant of at most 64 bits, or all bits of a net
abbrev pub IsWordPiece : List ℕ → Piece → Type 0
IsWordPiece nets (piece.Const v) = v.width ≤ 64
IsWordPiece nets (piece.Part net at width) = (at ≡ 0) × (net < length nets) × (slice_index nets net < 2 ^ width)

-- one such piece
abbrev pub IsWordSig : List ℕ → List Piece → Type 0
IsWordSig nets [] = ⊥
IsWordSig nets (p ∷ []) = IsWordPiece nets p
IsWordSig nets (p ∷ q ∷ ps) = ⊥

-- an unsigned adder of such signals
pub record IsWordCell (nets : List ℕ) (x : Cell) : Type 0 where
  pub op : x.op ≡ op.Add
  pub a : IsWordSig nets x.a
  pub b : IsWordSig nets x.b
  pub a_unsigned : x.a_signed ≡ false
  pub b_unsigned : x.b_signed ≡ false
  pub width : x.width ≤ 64
