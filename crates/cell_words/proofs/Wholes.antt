-- Whole numbers in 128 digits and a sign.
use Rattle.std.proofs.Common.{◌≡◌, ℕ, ◌^◌, ◌<◌, Bool, true, false, arith}
use Rattle.std.proofs.lemmas.Int.{ints}
use Rattle.std.specs.Bool.{beq}
use Rattle.std.specs.Prelude.{int_lt}
use Rattle.cell_words.specs.Wholes.{whole, narrow}

-- of two numbers of which one alone is below 0 that one is the lower
pub lower_is_negative : (p q : Bool) (x y : ℕ) → x < 2 ^ 128 → beq p q ≡ false → y < 2 ^ 128 → p ≡ int_lt (whole p x) (whole q y)
lower_is_negative true true x y a ne b = absurd (cc)
lower_is_negative false false x y a ne b = absurd (cc)
lower_is_negative true false x y a ne b = omega (arith, ints)
lower_is_negative false true x y a ne b = omega (arith, ints)

pub lower_narrow : (p q : Bool) (x y : ℕ) → x < 2 ^ 64 → beq p q ≡ false → y < 2 ^ 64 → p ≡ int_lt (narrow p x) (narrow q y)
lower_narrow true true x y a ne b = absurd (cc)
lower_narrow false false x y a ne b = absurd (cc)
lower_narrow true false x y a ne b = omega (arith, ints)
lower_narrow false true x y a ne b = omega (arith, ints)
