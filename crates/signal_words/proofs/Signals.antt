-- The numbers of signals and of their pieces.
use Rattle.std.proofs.Common.{◌≡◌, ℕ, zero, suc, ◌+◌, ◌-◌, ◌*◌, ◌/◌, ◌%◌, ◌^◌, ◌<◌, ◌≤◌, List, [], ◌∷◌, ◌++◌, take, length, get_or, refl, sym, ◌∙◌, ap, subst, arith}
use Rattle.std.proofs.Math.Nat.{zero-div}
use Rattle.std.proofs.lemmas.Nat.{pow-add, shr-shr}
use Rattle.std.proofs.lemmas.Nat.Bits.{bit_at-lt}
use Rattle.std.proofs.lemmas.List.{take_more}
use Rattle.std.proofs.lemmas.List.Sums.{sum_by-cons, sum_by_more, sum_by_more_le}
use Rattle.sim_base.specs.BitValue.{BitValue, bit_value}
use Rattle.circuit.specs.Signal.{AreBits, Digits, piece_number, piece_width, sig_number, sig_width}
use Rattle.circuit.specs.declared.netlist.Piece.{Piece}
use Rattle.circuit.specs.declared.netlist.Piece.TheVariants as piece
use Rattle.sim_base.specs.Values.{number_at, numbers, width_at}
use Rattle.signal_words.specs.Values.{digits_in, first_width, IsInside, AreInside, IsPlace}
use Rattle.sim_base.proofs.Parts.{low_field, high_part, whole_field}
use Rattle.signal_words.proofs.Numbers.{field_gathered}

-- a bit of a number is 0 or 1
pub are_bits : (values : List BitValue) → AreBits (digits_in values)
are_bits values net bit = bit_at-lt (get_or (numbers values) net 0) bit

-- ---- one piece

pub same_value : (w v m n : ℕ) → w ≡ v → m ≡ n → bit_value w m ≡ bit_value v n
same_value w v m n a b = cc (a, b)

-- the value of a net that is read
pub number_read : (values : List BitValue) (n : ℕ) (v : BitValue) → v ≡ bit_value (width_at values n) (number_at values n) → number_at values n ≡ v.number
number_read values n v e = ap (λ (x : BitValue). x.number) (sym e)

pub width_read : (values : List BitValue) (n : ℕ) (v : BitValue) → v ≡ bit_value (width_at values n) (number_at values n) → width_at values n ≡ v.width
width_read values n v e = ap (λ (x : BitValue). x.width) (sym e)

-- a part is a field of its net's number
pub part_field : (values : List BitValue) (net at w : ℕ) → piece_number (digits_in values) (piece.Part net at w) ≡ get_or (numbers values) net 0 / 2 ^ at % 2 ^ w
part_field values net at w = sym (field_gathered (get_or (numbers values) net 0) at w)

-- a part as wide as its net is the net's value
pub whole_net : (values : List BitValue) (net at w : ℕ) (v : BitValue) → IsInside values (piece.Part net at w) → v ≡ bit_value (width_at values net) (number_at values net) → w ≡ v.width → v.number < 2 ^ w
    → v ≡ bit_value w (piece_number (digits_in values) (piece.Part net at w))
whole_net values net at w v h e same lt =
    let none : at ≡ 0 = omega (arith, h.1, width_read values net v e, same) in
    let n : piece_number (digits_in values) (piece.Part net at w) ≡ v.number =
    part_field values net at w ∙ ap (λ x. x / 2 ^ at % 2 ^ w) (number_read values net v e) ∙ ap (λ k. v.number / 2 ^ k % 2 ^ w) none ∙ whole_field v.number w lt in
    same_value v.width w v.number (piece_number (digits_in values) (piece.Part net at w)) (sym same) (sym n)

pub whole_number : (values : List BitValue) (net at w x : ℕ) → IsInside values (piece.Part net at w) → width_at values net ≡ w → x ≡ number_at values net → x < 2 ^ w → x ≡ piece_number (digits_in values) (piece.Part net at w)
whole_number values net at w x h same number below =
    number ∙ ap (λ (v : BitValue). v.number) (whole_net values net at w (bit_value (width_at values net) (number_at values net)) h refl (sym same) (subst (λ n. n < 2 ^ w) number below))

-- ---- a signal's first pieces

sig_push : (d : Digits) (xs : List Piece) (p : Piece) → sig_number d (xs ++ p ∷ []) ≡ piece_number d p * 2 ^ sig_width xs + sig_number d xs
unfolding sig_number
sig_push d [] p = omega arith
sig_push d (x ∷ xs) p =
    let t : sig_number d (xs ++ p ∷ []) ≡ piece_number d p * 2 ^ sig_width xs + sig_number d xs = sig_push d xs p in
    let w : sig_width (x ∷ xs) ≡ piece_width x + sig_width xs = sum_by-cons piece_width x xs in
    let q : 2 ^ sig_width (x ∷ xs) ≡ 2 ^ piece_width x * 2 ^ sig_width xs = ap (λ n. 2 ^ n) w ∙ pow-add 2 (piece_width x) (sig_width xs) in
    rw t (rw q (omega arith))

pub sig_more : (d : Digits) (ps : List Piece) (i : ℕ) (p : Piece) → i < length ps → p ≡ get_or ps i p → sig_number d (take (i + 1) ps) ≡ piece_number d p * 2 ^ sig_width (take i ps) + sig_number d (take i ps)
sig_more d ps i p lt e =
    ap (sig_number d) (take_more ps i p lt ∙ ap (λ x. take i ps ++ x ∷ []) (sym e)) ∙ sig_push d (take i ps) p

pub width_more : (ps : List Piece) (i : ℕ) (p : Piece) → i < length ps → p ≡ get_or ps i p → sig_width (take (i + 1) ps) ≡ sig_width (take i ps) + piece_width p
width_more ps i p lt e = sum_by_more piece_width ps i p lt ∙ ap (λ x. sig_width (take i ps) + piece_width x) (sym e)

pub width_inside : (ps : List Piece) (i : ℕ) (p : Piece) → i < length ps → p ≡ get_or ps i p → sig_width (take i ps) + piece_width p ≤ sig_width ps
width_inside ps i p lt e = subst (λ (x : Piece). sig_width (take i ps) + piece_width x ≤ sig_width ps) (sym e) (sum_by_more_le piece_width ps i p lt)

-- each piece lies inside
pub inside_at : (values : List BitValue) (ps : List Piece) (i : ℕ) (p : Piece) → AreInside values ps → i < length ps → p ≡ get_or ps i p → IsInside values p
inside_at values [] i p h lt e = absurd (omega (arith, lt))
inside_at values (q ∷ ps) zero p h lt e = subst (IsInside values) (sym e) h.0
inside_at values (q ∷ ps) (suc i) p h lt e = inside_at values ps i p h.1 (omega (arith, lt)) e

-- ---- a signal from a place on

number_cons : (d : Digits) (p : Piece) (qs : List Piece) → sig_number d (p ∷ qs) ≡ sig_number d qs * 2 ^ piece_width p + piece_number d p
unfolding sig_number
number_cons d p qs = refl

module _ (values : List BitValue) (ps : List Piece) (p : Piece) (qs : List Piece) (at : ℕ) (e : ps ≡ p ∷ qs) where
  pub width_of_pieces : sig_width ps ≡ piece_width p + sig_width qs
  width_of_pieces = ap sig_width e ∙ sum_by-cons piece_width p qs

  number_of_pieces : sig_number (digits_in values) ps ≡ sig_number (digits_in values) qs * 2 ^ piece_width p + piece_number (digits_in values) p
  number_of_pieces = ap (sig_number (digits_in values)) e ∙ number_cons (digits_in values) p qs

  pub inside_first : AreInside values ps → IsInside values p
  inside_first h = (subst (AreInside values) e h).0

  pub first_is : first_width ps ≡ piece_width p
  first_is = ap first_width e

  -- some bits of the first piece
  pub first_field : (k : ℕ) → at + k ≤ piece_width p → piece_number (digits_in values) p / 2 ^ at % 2 ^ k ≡ sig_number (digits_in values) ps / 2 ^ at % 2 ^ k
  first_field k le =
      sym (ap (λ n. n / 2 ^ at % 2 ^ k) number_of_pieces ∙ low_field (sig_number (digits_in values) qs) (piece_width p) (piece_number (digits_in values) p) at k le)

  -- the place behind them, in the piece
  pub place_inside : (k : ℕ) → IsPlace values ps at → at + k ≤ piece_width p → IsPlace values ps (at + k)
  place_inside k h le = record { inside = h.inside; fits = h.fits; first = omega (arith, first_is, le) }

  pub left_inside : (k : ℕ) → sig_number (digits_in values) ps / 2 ^ (at + k) ≡ sig_number (digits_in values) ps / 2 ^ at / 2 ^ k
  left_inside k = sym (shr-shr (sig_number (digits_in values) ps) at k)

  -- and behind the piece
  pub place_behind : IsPlace values ps at → IsPlace values qs 0
  place_behind h = record { inside = (subst (AreInside values) e h.inside).1; fits = omega (arith, width_of_pieces, h.fits); first = omega arith }

  pub left_behind : (k : ℕ) → piece_number (digits_in values) p < 2 ^ piece_width p → at + k ≡ piece_width p → sig_number (digits_in values) qs / 2 ^ 0 ≡ sig_number (digits_in values) ps / 2 ^ at / 2 ^ k
  left_behind k lt is =
      let z : sig_number (digits_in values) qs / 2 ^ 0 ≡ sig_number (digits_in values) qs = omega arith in
      z ∙ sym (ap (λ n. n / 2 ^ at / 2 ^ k) number_of_pieces ∙ high_part (sig_number (digits_in values) qs) (piece_width p) (piece_number (digits_in values) p) at k lt is)

-- nothing is left
pub number_at_end : (values : List BitValue) (ps : List Piece) (at : ℕ) → length ps ≡ 0 → sig_number (digits_in values) ps / 2 ^ at ≡ 0
unfolding sig_number
number_at_end values [] at e = zero-div (2 ^ at)
number_at_end values (p ∷ ps) at e = absurd (omega arith)

pub width_at_end : (ps : List Piece) (at : ℕ) → length ps ≡ 0 → sig_width ps - at ≡ 0
width_at_end [] at e = omega arith
width_at_end (p ∷ ps) at e = absurd (omega arith)
