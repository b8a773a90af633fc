-- Values of one word.
use Rattle.std.proofs.Common.{◌≡◌, ℕ, zero, suc, ◌+◌, ◌-◌, ◌*◌, ◌/◌, ◌%◌, ◌^◌, ◌<◌, ◌≤◌, sym, ◌∙◌, ap, arith, bit_and}
use Rattle.std.proofs.lemmas.Nat.{and_mask, mod_below, pow_pos, pow-add, div-add-mod', same_from_place}

top_digits : (m k : ℕ) → 0 < m → 0 < k → m * k ≡ 2 ^ 64 → (2 ^ 64 - 1) / k ≡ m - 1
top_digits zero k some below e = absurd (omega arith)
top_digits (suc d) k some below e =
    let f : (2 ^ 64 - 1) / k * k + (2 ^ 64 - 1) % k ≡ d * k + (k - 1) = div-add-mod' (2 ^ 64 - 1) k ∙ omega (arith, e, below) in
    let q : (2 ^ 64 - 1) / k ≡ d = (same_from_place ((2 ^ 64 - 1) / k) ((2 ^ 64 - 1) % k) d (k - 1) k (mod_below (2 ^ 64 - 1) k below) (omega (arith, below)) f).0 in
    omega (arith, q)

-- the digits that a mask leaves
pub masked : (word width : ℕ) → width ≤ 64 → bit_and word ((2 ^ 64 - 1) / 2 ^ (64 - width)) ≡ word % 2 ^ width
masked word width le =
    let s : width + (64 - width) ≡ 64 = omega (arith, le) in
    let p : 2 ^ width * 2 ^ (64 - width) ≡ 2 ^ 64 = sym (pow-add 2 width (64 - width)) ∙ ap (λ k. 2 ^ k) s in
    ap (bit_and word) (top_digits (2 ^ width) (2 ^ (64 - width)) (pow_pos width) (pow_pos (64 - width)) p) ∙ and_mask word width
