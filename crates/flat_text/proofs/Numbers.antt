-- How large a number in so many decimal digits can be.
use Rattle.std.proofs.Common.{◌≡◌, ℕ, ◌+◌, ◌-◌, ◌*◌, ◌^◌, ◌<◌, ◌≤◌, List, [], ◌∷◌, length, Option, Some, None, sym, subst, ◌∙◌, arith, inl, inr}
use Rattle.std.specs.Char.{is_ascii_digit}
use Rattle.std.proofs.lemmas.Bool.{cases_lt}
use Rattle.std.proofs.Math.Nat.{pow-le-pow_right}
use Rattle.sim_base.specs.Digits.{decimal_after, digits_number}
use Rattle.sim_base.proofs.Numerals.{digits_below, digits_number_empty, digits_number_some, digits_number_within, if_some}

decimal_below : (text : List ℕ) (front i n : ℕ) → front < 10 ^ i → decimal_after front text ≡ Some n → n < 10 ^ (i + length text)
unfolding decimal_after
decimal_below [] front i n lt is =
    let same : front ≡ n = cc is in subst (λ j. n < 10 ^ j) (let e : i ≡ i + length {A = ℕ} [] = omega arith in e) (omega arith)
decimal_below (c ∷ cs) front i n lt is =
    let digit = if_some (is_ascii_digit c) (decimal_after (front * 10 + (c - 48)) cs) n is in
    subst (λ j. n < 10 ^ j) (let e : i + 1 + length cs ≡ i + length (c ∷ cs) = omega arith in e)
    (decimal_below cs (front * 10 + (c - 48)) (i + 1) n (digits_below front i c lt digit.0) digit.1)

digits_some : (most n : ℕ) (text : List ℕ) → digits_number most text ≡ Some n → 1 ≤ length text
digits_some most n text is =
    elim (cases_lt (length text) 1) [
      | inl short ↦ (let none : ◌≡◌ {A = Option ℕ} None (Some n) = sym (digits_number_empty most text short) ∙ is in cc)
      | inr le ↦ le
    ]

-- a number of at most 9 digits is below 10 ^ 9
pub nine_digits_below : (n : ℕ) (text : List ℕ) → digits_number 9 text ≡ Some n → n < 10 ^ 9
nine_digits_below n text is =
    let few = digits_number_some 9 n text is in
    let lt : n < 10 ^ (0 + length text) = decimal_below text 0 0 n (omega arith) (sym (digits_number_within 9 text (digits_some 9 n text is) few) ∙ is) in
    let same : n < 10 ^ length text = subst (λ j. n < 10 ^ j) (let e : 0 + length text ≡ length text = omega arith in e) lt in
    omega (arith, pow-le-pow_right {n = 10} (omega arith) {i = length text} {j = 9} few)
