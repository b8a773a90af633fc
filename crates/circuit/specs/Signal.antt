-- The number that a signal has under a valuation of the nets.
use Rattle.std.specs.Prelude.{◌≡◌, ℕ, zero, suc, ◌+◌, ◌-◌, ◌*◌, ◌/◌, ◌%◌, ◌^◌, ◌<◌, ◌≤◌, ◌⊎◌, List, [], ◌∷◌, min, nat_eq, sum_by, slice_index, if◌then◌else◌}
use Rattle.std.specs.Int.{bit_at}
use Rattle.sim_base.specs.BitValue.{BitValue, bit_value}
use Rattle.circuit.specs.declared.netlist.Piece.{Piece}
use Rattle.circuit.specs.declared.netlist.Piece.TheVariants as piece

-- the digit of each bit of each net
abbrev pub Digits : Type 0
Digits = ℕ → ℕ → ℕ

-- each digit is 0 or 1
abbrev pub AreBits : Digits → Type 0
AreBits digits = (net bit : ℕ) → digits net bit < 2

-- the digits of nets that have these numbers
abbrev pub digits_of_nets : List ℕ → Digits
digits_of_nets numbers net bit = bit_at (slice_index numbers net) bit

-- the number with `width` digits, the least first
unfoldable pub gathered : (ℕ → ℕ) → ℕ → ℕ
gathered digit zero = 0
gathered digit (suc width) = digit width * 2 ^ width + gathered digit width

abbrev pub piece_width : Piece → ℕ
piece_width (piece.Const v) = v.width
piece_width (piece.Part net at width) = width

abbrev pub piece_number : Digits → Piece → ℕ
piece_number digits (piece.Const v) = v.number
piece_number digits (piece.Part net at width) = gathered (λ j. digits net (at + j)) width

abbrev pub sig_width : List Piece → ℕ
sig_width pieces = sum_by piece_width pieces

-- the first piece is the least significant
unfoldable pub sig_number : Digits → List Piece → ℕ
sig_number digits [] = 0
sig_number digits (p ∷ ps) = sig_number digits ps * 2 ^ piece_width p + piece_number digits p

-- the width of a signal, and its number
abbrev pub sig_value : Digits → List Piece → BitValue
sig_value digits pieces = bit_value (sig_width pieces) (sig_number digits pieces)

-- bits of a piece, so many from its bit `at` on
abbrev pub piece_part : ℕ → ℕ → Piece → Piece
piece_part at width (piece.Const v) = piece.Const (bit_value width (v.number / 2 ^ at % 2 ^ width))
piece_part at width (piece.Part net from all) = piece.Part net (from + at) width

-- bits of a signal, so many from its bit `at` on, in pieces that each have a bit at least
unfoldable pub sig_part : ℕ → ℕ → List Piece → List Piece
sig_part at width [] = []
sig_part at width (p ∷ ps) =
    let taken = min (piece_width p - at) width in
    let rest = sig_part (at - piece_width p) (width - taken) ps in
    if nat_eq taken 0 then rest else piece_part at taken p ∷ rest

-- a signal reads a bit
unfoldable pub Reads : List Piece → ℕ → ℕ → Type 0
Reads [] net bit = ⊥
Reads (piece.Const v ∷ ps) net bit = Reads ps net bit
Reads (piece.Part n at width ∷ ps) net bit = ((n ≡ net) × (at ≤ bit) × (bit < at + width)) ⊎ Reads ps net bit
