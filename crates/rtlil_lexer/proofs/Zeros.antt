-- The first byte 0 of a text.
use Rattle.std.proofs.Common.{◌≡◌, ℕ, ◌==◌, Bool, true, false, List, length, get_or, Some, None, refl, sym, arith}
use Rattle.std.specs.List.{position_or_len}
use Rattle.std.proofs.lemmas.List.Sums.{position_or_len_is}
use Rattle.memchr.specs.Find.{IsFirstByte, is_byte}

failed : (b : Bool) → (b ≡ true → ⊥) → b ≡ false
failed true never = absurd (never refl)
failed false never = refl

pub first_zero : (xs : List ℕ) (at : ℕ) → IsFirstByte (is_byte 0) xs (Some at) → at ≡ position_or_len (λ b. b == 0) xs
first_zero xs at is = sym (position_or_len_is (λ b. b == 0) xs at 0 (omega (arith, is.0.high)) (λ k lt. failed (get_or xs k 0 == 0) (is.0.before k (omega arith) lt)) (λ lt. is.1))

pub no_zero : (xs : List ℕ) → IsFirstByte (is_byte 0) xs None → length xs ≡ position_or_len (λ b. b == 0) xs
no_zero xs is = sym (position_or_len_is (λ b. b == 0) xs (length xs) 0 (omega arith) (λ k lt. failed (get_or xs k 0 == 0) (is k (omega arith) lt)) (λ lt. absurd (omega arith)))
