-- The widths and numbers of pieces and signals.
use Rattle.std.proofs.Common.{◌≡◌, ℕ, ◌+◌, ◌*◌, ◌^◌, ◌<◌, ◌≤◌, List, [], ◌∷◌, ◌++◌, take, length, get_or, slice_get, Some, sym, ◌∙◌, ap, subst, arith, inl, inr}
use Rattle.std.proofs.lemmas.Bool.{cases_lt}
use Rattle.std.proofs.lemmas.Option.{get_or_from_slice_get, slice_get_within}
use Rattle.std.proofs.lemmas.Nat.{mul-add-lt, pow-add}
use Rattle.std.proofs.lemmas.List.{take_more}
use Rattle.std.proofs.lemmas.List.Sums.{sum_by-cons, sum_by_more, sum_by_more_le}
use Rattle.sim_base.specs.BitValue.{BitValue}
use Rattle.circuit.specs.Below.{AreConstantsBelow, IsBelow}
use Rattle.circuit.specs.Signal.{AreBits, Digits, piece_number, piece_width, sig_number, sig_width}
use Rattle.circuit.specs.declared.netlist.Piece.{Piece}
use Rattle.circuit.specs.declared.netlist.Piece.TheVariants as piece
use Rattle.circuit.proofs.Gathered.{gathered_below}

pub part_below : (d : Digits) → AreBits d → (net at w : ℕ) → piece_number d (piece.Part net at w) < 2 ^ w
part_below d small net at w = gathered_below w (λ j. d net (at + j)) (λ j. small net (at + j))

-- ---- a signal's first pieces

sig_push : (d : Digits) (xs : List Piece) (p : Piece) → sig_number d (xs ++ p ∷ []) ≡ piece_number d p * 2 ^ sig_width xs + sig_number d xs
unfolding sig_number
sig_push d [] p = omega arith
sig_push d (x ∷ xs) p =
    let t : sig_number d (xs ++ p ∷ []) ≡ piece_number d p * 2 ^ sig_width xs + sig_number d xs = sig_push d xs p in
    let w : sig_width (x ∷ xs) ≡ piece_width x + sig_width xs = sum_by-cons piece_width x xs in
    let q : 2 ^ sig_width (x ∷ xs) ≡ 2 ^ piece_width x * 2 ^ sig_width xs = ap (λ n. 2 ^ n) w ∙ pow-add 2 (piece_width x) (sig_width xs) in
    rw t (rw q (omega arith))

pub sig_more : (d : Digits) (ps : List Piece) (i : ℕ) (p : Piece) → i < length ps → p ≡ get_or ps i p → sig_number d (take (i + 1) ps) ≡ piece_number d p * 2 ^ sig_width (take i ps) + sig_number d (take i ps)
sig_more d ps i p lt e =
    ap (sig_number d) (take_more ps i p lt ∙ ap (λ x. take i ps ++ x ∷ []) (sym e)) ∙ sig_push d (take i ps) p

pub width_more : (ps : List Piece) (i : ℕ) (p : Piece) → i < length ps → p ≡ get_or ps i p → sig_width (take (i + 1) ps) ≡ sig_width (take i ps) + piece_width p
width_more ps i p lt e = sum_by_more piece_width ps i p lt ∙ ap (λ x. sig_width (take i ps) + piece_width x) (sym e)

pub width_inside : (ps : List Piece) (i : ℕ) (p : Piece) → i < length ps → p ≡ get_or ps i p → sig_width (take i ps) + piece_width p ≤ sig_width ps
width_inside ps i p lt e = subst (λ (x : Piece). sig_width (take i ps) + piece_width x ≤ sig_width ps) (sym e) (sum_by_more_le piece_width ps i p lt)

-- the number of one more piece
pub more_below : (d : Digits) (ps : List Piece) (i : ℕ) (p : Piece) → i < length ps → p ≡ get_or ps i p → sig_number d (take i ps) < 2 ^ sig_width (take i ps) → piece_number d p < 2 ^ piece_width p → sig_number d (take (i + 1) ps) < 2 ^ sig_width (take (i + 1) ps)
more_below d ps i p lt e low part =
    let w : ℕ = sig_width (take i ps) in
    let m : piece_number d p * 2 ^ w + sig_number d (take i ps) < 2 ^ w * 2 ^ piece_width p = mul-add-lt (piece_number d p) (2 ^ w) (sig_number d (take i ps)) (2 ^ piece_width p) part low in
    let q : 2 ^ w * 2 ^ piece_width p ≡ 2 ^ sig_width (take (i + 1) ps) = sym (pow-add 2 w (piece_width p)) ∙ ap (λ n. 2 ^ n) (sym (width_more ps i p lt e)) in
    subst (λ n. n < 2 ^ sig_width (take (i + 1) ps)) (sym (sig_more d ps i p lt e)) (subst (λ n. piece_number d p * 2 ^ w + sig_number d (take i ps) < n) q m)

-- ---- constants

-- each constant among the first pieces is below 2 to its width
abbrev pub AreFirstBelow : List Piece → ℕ → Type 0
AreFirstBelow ps n = (i : ℕ) (v : BitValue) → i < n → slice_get ps i ≡ Some (piece.Const v) → IsBelow v

pub first_more : (ps : List Piece) (n : ℕ) (p : Piece) → n < length ps → p ≡ get_or ps n p → piece_number (λ net bit. 0) p < 2 ^ piece_width p → AreFirstBelow ps n → AreFirstBelow ps (n + 1)
first_more ps n p lt is below h i v within at = elim (cases_lt i n) [
  | inl before ↦ h i v before at
  | inr last ↦
      (let here : i ≡ n = omega arith in
      let same : piece.Const v ≡ p = sym (get_or_from_slice_get ps n (piece.Const v) p (ap (slice_get ps) (sym here) ∙ at)) ∙ sym is in
      subst (λ q. piece_number (λ net bit. 0) q < 2 ^ piece_width q) (sym same) below)
]

pub all_below : (ps : List Piece) (n : ℕ) → length ps ≤ n → AreFirstBelow ps n → AreConstantsBelow ps
all_below ps n past h i v at = h i v (let lt : i < length ps = slice_get_within ps i (piece.Const v) at in omega arith) at
