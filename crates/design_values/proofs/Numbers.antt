-- Numbers from digits, and the numbers of signals.
use Rattle.std.proofs.Common.{◌≡◌, ℕ, zero, suc, ◌+◌, ◌*◌, ◌^◌, ◌<◌, List, [], ◌∷◌, refl, sym, ap, subst, ◌∙◌, arith}
use Rattle.std.specs.Int.{bit_at}
use Rattle.std.proofs.lemmas.List.Sums.{sum_by-cons}
use Rattle.std.proofs.lemmas.Nat.{mul-add-lt, pow-add, pow_pos}
use Rattle.std.proofs.lemmas.Nat.Bits.{bit_at-lt, same_from_bits_below}
use Rattle.sim_base.specs.BitValue.{BitValue}
use Rattle.circuit.specs.Below.{AreConstantsBelow, IsBelow}
use Rattle.circuit.specs.Signal.{AreBits, Digits, gathered, piece_number, piece_width, sig_number, sig_width}
use Rattle.circuit.specs.declared.netlist.Piece.{Piece}
use Rattle.circuit.specs.declared.netlist.Piece.TheVariants as piece
use Rattle.circuit.proofs.Gathered.{gathered_below, gathered_bit}
use Rattle.circuit.proofs.Signals.{part_below}

-- equal digits make equal numbers
pub gathered_same : (w : ℕ) (f g : ℕ → ℕ) → ((i : ℕ) → i < w → f i ≡ g i) → gathered f w ≡ gathered g w
unfolding gathered
gathered_same zero f g h = refl
gathered_same (suc w) f g h =
    ap (λ (n : ℕ). n * 2 ^ w + gathered f w) (h w (omega arith))
    ∙ ap (λ (n : ℕ). g w * 2 ^ w + n) (gathered_same w f g (λ i lt. h i (omega (arith, lt))))

regroup : (a p q g r : ℕ) → a * (p * q) + (g * p + r) ≡ (a * q + g) * p + r
regroup a p q g r = omega arith

-- digits behind others
pub gathered_more : (w m : ℕ) (f : ℕ → ℕ) → gathered f (w + m) ≡ gathered (λ j. f (w + j)) m * 2 ^ w + gathered f w
unfolding gathered
gathered_more w zero f =
    let e : w + 0 ≡ w = omega arith in
    let z : gathered f w ≡ 0 * 2 ^ w + gathered f w = omega arith in
    ap (gathered f) e ∙ z
gathered_more w (suc m) f =
    let e : w + suc m ≡ suc (w + m) = omega arith in
    ap (gathered f) e
    ∙ ap (λ (n : ℕ). f (w + m) * n + gathered f (w + m)) (pow-add 2 w m)
    ∙ ap (λ (n : ℕ). f (w + m) * (2 ^ w * 2 ^ m) + n) (gathered_more w m f)
    ∙ regroup (f (w + m)) (2 ^ w) (2 ^ m) (gathered (λ j. f (w + j)) m) (gathered f w)

-- the digits of a number
pub gathered_value : (w n : ℕ) → n < 2 ^ w → gathered (bit_at n) w ≡ n
gathered_value w n lt =
    same_from_bits_below w (gathered (bit_at n) w) n (gathered_below w (bit_at n) (bit_at-lt n)) lt (λ i at. gathered_bit w (bit_at n) (bit_at-lt n) i at)

pub gathered_zero : (w : ℕ) → gathered (bit_at 0) w ≡ 0
gathered_zero w = gathered_value w 0 (pow_pos w)

pub tail_below : (p : Piece) (ps : List Piece) → AreConstantsBelow (p ∷ ps) → AreConstantsBelow ps
tail_below p ps h i v at = h (suc i) v at

pub head_below : (u : BitValue) (ps : List Piece) → AreConstantsBelow (piece.Const u ∷ ps) → IsBelow u
head_below u ps h = h 0 u refl

piece_below : (d : Digits) → AreBits d → (p : Piece) (ps : List Piece) → AreConstantsBelow (p ∷ ps) → piece_number d p < 2 ^ piece_width p
piece_below d small (piece.Const u) ps h = head_below u ps h
piece_below d small (piece.Part net at w) ps h = part_below d small net at w

-- a signal's number is below 2 to its width
pub sig_below : (d : Digits) → AreBits d → (ps : List Piece) → AreConstantsBelow ps → sig_number d ps < 2 ^ sig_width ps
unfolding sig_number
sig_below d small [] h = omega arith
sig_below d small (p ∷ ps) h =
    let rest : sig_number d ps < 2 ^ sig_width ps = sig_below d small ps (tail_below p ps h) in
    let e : 2 ^ sig_width (p ∷ ps) ≡ 2 ^ piece_width p * 2 ^ sig_width ps = ap (λ (n : ℕ). 2 ^ n) (sum_by-cons piece_width p ps) ∙ pow-add 2 (piece_width p) (sig_width ps) in
    subst (λ (n : ℕ). sig_number d ps * 2 ^ piece_width p + piece_number d p < n) (sym e)
    (mul-add-lt (sig_number d ps) (2 ^ piece_width p) (piece_number d p) (2 ^ sig_width ps) rest (piece_below d small p ps h))
