-- Signals of one word, and what is read of them.
use Rattle.std.proofs.Common.{List, ◌≡◌, ℕ, ◌%◌, ◌^◌, ◌<◌, ◌≤◌, sym, ◌∙◌, ap, subst, Bool, count_ones}
use Rattle.std.specs.Prelude.{◌==◌}
use Rattle.std.proofs.Math.Nat.{mod-eq_of_lt}
use Rattle.sim_base.specs.BitValue.{BitValue}
use Rattle.circuit.specs.Output.{modulo, ones, operand}
use Rattle.circuit.specs.Signal.{Digits, sig_number, sig_value, sig_width}
use Rattle.circuit.specs.declared.netlist.Piece.{Piece}
use Rattle.signal_words.specs.Values.{digits_in, IsWordOf}
use Rattle.sim_base.specs.Values.{IsPut}
use Rattle.cell_wide.proofs.Narrow.{cut_operand}
use Rattle.cell_wide.proofs.Truths.{ones_count}

module _ (values : List BitValue) (sig : List Piece) (width number : ℕ) (i : IsWordOf values sig width number) where
  -- all digits of the number are those of the signal's width
  pub all_digits : sig_number (digits_in values) sig % 2 ^ sig_width sig ≡ number
  all_digits = ap (λ n. n % 2 ^ sig_width sig) (sym i.number_is) ∙ ap (λ w. number % 2 ^ w) (sym i.width_is) ∙ mod-eq_of_lt i.below

  pub word_copied : (at w : ℕ) (old new : List BitValue) (changed : Bool) → sig_width sig ≡ w → IsPut at number old new changed → IsPut at (sig_number (digits_in values) sig % 2 ^ w) old new changed
  word_copied at w old new changed e h = subst (λ n. IsPut at n old new changed) (sym all_digits ∙ ap (λ w. sig_number (digits_in values) sig % 2 ^ w) e) h

  pub word_ones : (count_ones number % 2 == 1) ≡ (ones (sig_width sig) (sig_number (digits_in values) sig) % 2 == 1)
  word_ones = ap (λ n. (count_ones n % 2 == 1)) (sym all_digits) ∙ ap (λ n. (n % 2 == 1)) (sym (ones_count (sig_width sig) (sig_number (digits_in values) sig)))

-- an operand that is one piece, as long as it is not extended
pub piece_operand : (digits : Digits) (flag : Bool) (sig port : List Piece) (v : BitValue) (w : ℕ) → v ≡ sig_value digits sig → v.number < 2 ^ v.width → w ≤ v.width → sig ≡ port → v.number % 2 ^ w ≡ modulo w (operand flag (sig_width port) (sig_number digits port))
piece_operand digits flag sig port v w is below le same =
    cut_operand flag v.number v.width w below le ∙ ap (λ (u : BitValue). modulo w (operand flag u.width u.number)) (is ∙ ap (sig_value digits) same)
