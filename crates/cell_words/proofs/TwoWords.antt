-- Numbers of at most two words.
use Rattle.std.proofs.Common.{◌≡◌, ℕ, ◌+◌, ◌-◌, ◌/◌, ◌%◌, ◌^◌, ◌<◌, ◌≤◌, sym, ◌∙◌, ap, arith, subst, bit_and}
use Rattle.std.proofs.Math.Pow.{mod-mod-pow}
use Rattle.std.proofs.lemmas.Nat.{shr_below, and_mask}

pub high_below : (w n : ℕ) → 64 < w → n < 2 ^ w → n / 2 ^ 64 < 2 ^ (w - 64)
high_below w n wide lt =
    let e : w ≡ w - 64 + 64 = omega arith in
    let P : ℕ → Type 0 = λ k. n < 2 ^ k in
    shr_below n (w - 64) 64 (subst P e lt)

pub low_masked : (w number low ones : ℕ) → w ≤ 64 → low ≡ number % 2 ^ 64 → ones ≡ 2 ^ w - 1 → bit_and low ones ≡ number % 2 ^ w
low_masked w number low ones le a b =
    let s : 64 - w + w ≡ 64 = omega (arith, le) in
    ap (bit_and low) b ∙ and_mask low w ∙ ap (λ x. x % 2 ^ w) a ∙ ap (λ k. number % 2 ^ k % 2 ^ w) (sym s) ∙ mod-mod-pow number (64 - w) w
