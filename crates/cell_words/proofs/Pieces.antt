-- What is read of the ports of a cell.
use Rattle.std.proofs.Common.{◌≡◌, ℕ, ◌+◌, ◌-◌, ◌*◌, ◌/◌, ◌%◌, ◌^◌, ◌<◌, ◌≤◌, ◌∙◌, ap, arith}
use Rattle.std.proofs.lemmas.Nat.{div-add-mod', shr_below, shl_below}
use Rattle.std.proofs.Math.Nat.{pow-le-pow_right, mod-eq_of_lt}
use Rattle.sim_base.specs.BitValue.{BitValue, bit_value}

-- two words of a number
pub two_words : (w v low high : ℕ) (S T : BitValue) → w ≤ 128 → v < 2 ^ w → S.number ≡ v → low ≡ S.number % 2 ^ 64 → T ≡ bit_value (S.width - 64) (S.number / 2 ^ 64) → high ≡ T.number % 2 ^ 64
    → high * 2 ^ 64 % 2 ^ 128 + low ≡ v
two_words w v low high S T le lt s l t h =
    let grows : 2 ^ w ≤ 2 ^ 128 = pow-le-pow_right {n = 2} (omega arith) le in
    let below : v < 2 ^ (64 + 64) = omega arith in
    let top : v / 2 ^ 64 < 2 ^ 64 = shr_below v 64 64 below in
    let a : high ≡ v / 2 ^ 64 = h ∙ ap (λ (x : BitValue). x.number % 2 ^ 64) t ∙ ap (λ x. x / 2 ^ 64 % 2 ^ 64) s ∙ mod-eq_of_lt top in
    let b : low ≡ v % 2 ^ 64 = l ∙ ap (λ x. x % 2 ^ 64) s in
    let c : v / 2 ^ 64 * 2 ^ 64 < 2 ^ 128 = shl_below (v / 2 ^ 64) 64 64 top in
    ap (λ x. x * 2 ^ 64 % 2 ^ 128 + low) a ∙ ap (λ x. x + low) (mod-eq_of_lt c) ∙ ap (λ x. v / 2 ^ 64 * 2 ^ 64 + x) b ∙ div-add-mod' v (2 ^ 64)
