-- Signals over the values of nets.
use Rattle.std.specs.Prelude.{◌≡◌, ℕ, ◌+◌, ◌^◌, ◌<◌, ◌≤◌, List, [], ◌∷◌, length, map, slice_index}
use Rattle.sim_base.specs.BitValue.{BitValue}
use Rattle.circuit.specs.Signal.{Digits, digits_of_nets, piece_width, sig_number, sig_width}
use Rattle.circuit.specs.Valid.{widest}
use Rattle.circuit.specs.declared.netlist.Piece.{Piece}
use Rattle.circuit.specs.declared.netlist.Piece.TheVariants as piece

abbrev pub numbers : List BitValue → List ℕ
numbers values = map (λ v. v.number) values

abbrev pub widths : List BitValue → List ℕ
widths values = map (λ v. v.width) values

-- the digits of nets that have these values
abbrev pub digits_in : List BitValue → Digits
digits_in values = digits_of_nets (numbers values)

-- the width of the value at a place, and 0 where there is none
abbrev pub width_at : List BitValue → ℕ → ℕ
width_at values n = slice_index (widths values) n

-- a part of a net lies inside the net's value
abbrev pub IsInside : List BitValue → Piece → Type 0
IsInside values (piece.Const v) = Unit {0}
IsInside values (piece.Part net at width) = (net < length values) × (at + width ≤ width_at values net)

-- each part does
abbrev pub AreInside : List BitValue → List Piece → Type 0
AreInside values [] = Unit {0}
AreInside values (p ∷ ps) = IsInside values p × AreInside values ps

-- the width of the first piece
abbrev pub first_width : List Piece → ℕ
first_width [] = 0
first_width (p ∷ ps) = piece_width p

-- a place in a signal: so many bits of the first piece are passed
pub record IsPlace (values : List BitValue) (pieces : List Piece) (at : ℕ) : Type 0 where
  pub inside : AreInside values pieces
  pub fits : sig_width pieces < 2 ^ 32
  pub first : at ≤ first_width pieces

-- a signal of a circuit over these values of its nets
pub record IsSignalOf (values : List BitValue) (sig : List Piece) : Type 0 where
  pub inside : AreInside values sig
  pub width : sig_width sig ≤ widest

-- the width and the number of a signal of at most 64 bits
pub record IsWordOf (values : List BitValue) (sig : List Piece) (width number : ℕ) : Type 0 where
  pub small : width ≤ 64
  pub width_is : width ≡ sig_width sig
  pub number_is : number ≡ sig_number (digits_in values) sig
  pub below : number < 2 ^ width
