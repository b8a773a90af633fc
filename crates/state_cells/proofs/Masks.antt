-- Digits of a word that is masked.
use Rattle.std.proofs.Common.{◌≡◌, ℕ, zero, suc, ◌-◌, ◌^◌, ◌<◌, min, max, w64, eqb, cond, bit_and, bit_or, refl, ◌∙◌, arith}
use Rattle.std.proofs.lemmas.Nat.Bits.{bit_at_not, bit_at_and, bit_at_or, bit_at-lt}
use Rattle.std.specs.Int.{bit_at, bit_not}

inverted : (a b : ℕ) → b < 2 → a ≡ 1 - b → eqb a 1 ≡ eqb b 0
inverted a zero lt e = rw e refl
inverted a (suc zero) lt e = rw e refl
inverted a (suc (suc b)) lt e = absurd (omega arith)

pub inverted_digit : (word j : ℕ) → word < 2 ^ 64 → j < 64 → eqb (bit_at (bit_not w64 word) j) 1 ≡ eqb (bit_at word j) 0
inverted_digit word j lt in' = inverted (bit_at (bit_not w64 word) j) (bit_at word j) (bit_at-lt word j) (bit_at_not w64 word j lt in')

chosen : (r s c x : ℕ) → r < 2 → s < 2 → c < 2 → x ≡ min (max r s) (1 - c) → x ≡ cond (eqb c 1) 0 (cond (eqb s 1) 1 r)
chosen r zero zero x a b d e = omega arith
chosen r (suc zero) zero x a b d e = omega arith
chosen r s (suc zero) x a b d e = omega arith
chosen r (suc (suc s)) c x a b d e = absurd (omega arith)
chosen r s (suc (suc c)) x a b d e = absurd (omega arith)

-- a digit of `(rest | set) & !clear`
pub overlaid_digit : (rest set clear j : ℕ) → clear < 2 ^ 64 → j < 64 → bit_at (bit_and (bit_or rest set) (bit_not w64 clear)) j ≡ cond (eqb (bit_at clear j) 1) 0 (cond (eqb (bit_at set j) 1) 1 (bit_at rest j))
overlaid_digit rest set clear j lt in' =
    chosen (bit_at rest j) (bit_at set j) (bit_at clear j) (bit_at (bit_and (bit_or rest set) (bit_not w64 clear)) j) (bit_at-lt rest j) (bit_at-lt set j) (bit_at-lt clear j)
    (bit_at_and (bit_or rest set) (bit_not w64 clear) j ∙ (let o : bit_at (bit_or rest set) j ≡ max (bit_at rest j) (bit_at set j) = bit_at_or rest set j in let n : bit_at (bit_not w64 clear) j ≡ 1 - bit_at clear j = bit_at_not w64 clear j lt in' in rw (o, n) refl))
