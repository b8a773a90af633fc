-- Signals of one piece, or of none.
use Rattle.std.proofs.Common.{◌≡◌, ℕ, ◌<◌, ◌≤◌, ◌^◌, List, [], ◌∷◌, length, get_or, refl, sym, ◌∙◌, ap, arith, lit<, Option, Some, None}
use Rattle.std.specs.Prelude.{IfSome}
use Rattle.sim_base.specs.BitValue.{BitValue, bit_value}
use Rattle.circuit.specs.Signal.{Digits, piece_number, piece_width, sig_number, sig_value, sig_width}
use Rattle.circuit.specs.declared.netlist.Piece.{Piece}
use Rattle.signal_words.specs.Values.{digits_in, IsWordOf}
use Rattle.signal_words.specs.declared.values.SigWord.{SigWord}

pub one_number : (d : Digits) (ps : List Piece) (p : Piece) → 1 ≤ length ps → length ps < 2 → p ≡ get_or ps 0 p → piece_number d p ≡ sig_number d ps
unfolding sig_number
one_number d [] p some few e = absurd (omega arith)
one_number d (q ∷ []) p some few e = ap (piece_number d) e ∙ omega arith
one_number d (q ∷ r ∷ ps) p some few e = absurd (omega arith)

pub one_width : (ps : List Piece) (p : Piece) → 1 ≤ length ps → length ps < 2 → p ≡ get_or ps 0 p → piece_width p ≡ sig_width ps
one_width [] p some few e = absurd (omega arith)
one_width (q ∷ []) p some few e = ap piece_width e ∙ omega arith
one_width (q ∷ r ∷ ps) p some few e = absurd (omega arith)

pub no_word : (values : List BitValue) (ps : List Piece) → length ps < 1 → IsWordOf values ps 0 0
unfolding sig_number
no_word values [] few = record { small = omega arith; width_is = refl; number_is = refl; below = lit< tt }
no_word values (p ∷ ps) few = absurd (omega arith)

pub one_word_is : (values : List BitValue) (ps : List Piece) (p : Piece) (word : Option SigWord) → 1 ≤ length ps → length ps < 2 → p ≡ get_or ps 0 p
    → IfSome word (λ w. w.width ≤ 64) → IfSome word (λ w. w.width ≡ piece_width p) → IfSome word (λ w. w.number ≡ piece_number (digits_in values) p) → IfSome word (λ w. w.number < 2 ^ w.width)
    → IfSome word (λ w. IsWordOf values ps w.width w.number)
one_word_is values ps p None some few e small width number below = tt
one_word_is values ps p (Some w) some few e small width number below = record {
  small = small;
  width_is = width ∙ one_width ps p some few e;
  number_is = number ∙ one_number (digits_in values) ps p some few e;
  below = below;
}

-- the value that the only piece is
pub one_value_is : (values : List BitValue) (ps : List Piece) (p : Piece) (value : Option BitValue) → 1 ≤ length ps → length ps < 2 → p ≡ get_or ps 0 p
    → IfSome value (λ v. v ≡ bit_value (piece_width p) (piece_number (digits_in values) p)) → IfSome value (λ v. v ≡ sig_value (digits_in values) ps)
one_value_is values ps p None some few e is = tt
one_value_is values ps p (Some v) some few e is =
    is ∙ ap (λ w. bit_value w (piece_number (digits_in values) p)) (one_width ps p some few e) ∙ ap (bit_value (sig_width ps)) (one_number (digits_in values) ps p some few e)

-- the number of the only piece, of this width
pub whole_word_is : (values : List BitValue) (ps : List Piece) (p : Piece) (w : ℕ) (read : Option ℕ) → 1 ≤ length ps → length ps < 2 → p ≡ get_or ps 0 p
    → IfSome read (λ x. piece_width p ≡ w) → IfSome read (λ x. x ≡ piece_number (digits_in values) p) → IfSome read (λ x. bit_value w x ≡ sig_value (digits_in values) ps)
whole_word_is values ps p w None some few e same number = tt
whole_word_is values ps p w (Some x) some few e same number =
    ap (λ k. bit_value k x) (sym same ∙ one_width ps p some few e) ∙ ap (bit_value (sig_width ps)) (number ∙ one_number (digits_in values) ps p some few e)
