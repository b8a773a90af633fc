-- Operands in one word.
use Rattle.std.proofs.Common.{◌≡◌, ℕ, ◌+◌, ◌-◌, ◌*◌, ◌%◌, ◌^◌, ◌<◌, ◌≤◌, min, refl, sym, ◌∙◌, ap, arith, Bool, true, false, ◌&&◌, lit<}
use Rattle.std.proofs.Math.Nat.{mod-eq_of_lt, pow-le-pow_right}
use Rattle.std.proofs.lemmas.Bool.{cond-true, cond-false, and_from}
use Rattle.std.proofs.lemmas.Nat.{pow_pos}
use Rattle.std.specs.Int.{bit_at}
use Rattle.std.specs.Prelude.{◌==◌, pos, ◌-ℤ◌}
use Rattle.circuit.specs.Output.{modulo, operand}
use Rattle.cell_wide.specs.Words.{low_of_number, low_of_fill, low_of_chain}
use Rattle.cell_wide.proofs.Operands.{operand_low, ones_low}
use Rattle.cell_wide.proofs.Truths.{one_more}

-- an operand that is not longer than it was
pub cut_operand : (signed : Bool) (v width to : ℕ) → v < 2 ^ width → to ≤ width → v % 2 ^ to ≡ modulo to (operand signed width v)
cut_operand signed v width to lt le =
    sym (cut (signed && (bit_at v (width - 1) == 1))) ∙ operand_low signed (signed && (bit_at v (width - 1) == 1)) v width to lt refl
  where
    cut : (ones : Bool) → low_of_chain (low_of_number v) width (low_of_fill ones) to ≡ v % 2 ^ to
    cut true =
        let k : to - width ≡ 0 = omega (arith, le) in
        let m : min to width ≡ to = omega (arith, le) in
        let z : (2 ^ 0 - 1) * 2 ^ to + v % 2 ^ to ≡ v % 2 ^ to = omega arith in
        ap (λ x. (2 ^ x - 1) * 2 ^ min to width + v % 2 ^ min to width) k ∙ ap (λ x. (2 ^ 0 - 1) * 2 ^ x + v % 2 ^ x) m ∙ z
    cut false =
        let m : min to width ≡ to = omega (arith, le) in
        let z : 0 * 2 ^ to + v % 2 ^ to ≡ v % 2 ^ to = omega arith in
        ap (λ x. 0 * 2 ^ x + v % 2 ^ x) m ∙ z

-- one without a sign
pub plain_operand : (signed : Bool) (v width to : ℕ) → (signed && (bit_at v (width - 1) == 1)) ≡ false → v % 2 ^ to ≡ modulo to (operand signed width v)
plain_operand signed v width to e = ap (modulo to) (sym (cond-false (signed && (bit_at v (width - 1) == 1)) (pos v -ℤ pos (2 ^ width)) (pos v) e))

-- one below 0
pub negative_operand : (signed : Bool) (v width to : ℕ) → v < 2 ^ width → width < to → (signed && (bit_at v (width - 1) == 1)) ≡ true → v % 2 ^ to + ((2 ^ to - 1) - (2 ^ width - 1)) ≡ modulo to (operand signed width v)
negative_operand signed v width to lt longer e =
    let p : 2 ^ width ≤ 2 ^ to = pow-le-pow_right {n = 2} (lit< tt) {i = width} {j = to} (omega (arith, longer)) in
    let same : v % 2 ^ to ≡ v = mod-eq_of_lt (omega (arith, lt, p)) in
    let m : min to width ≡ width = omega (arith, longer) in
    let more : (2 ^ (to - width) - 1) * 2 ^ width + v + 2 ^ width ≡ v + 2 ^ to = one_more to width v (omega (arith, longer)) in
    let sum : v % 2 ^ to + ((2 ^ to - 1) - (2 ^ width - 1)) ≡ (2 ^ (to - width) - 1) * 2 ^ width + v = omega (arith, same, more, p, pow_pos width) in
    sum ∙ ap (λ x. (2 ^ (to - width) - 1) * 2 ^ width + x) (sym (mod-eq_of_lt lt)) ∙ sym (ap (λ k. (2 ^ (to - width) - 1) * 2 ^ k + v % 2 ^ k) m)
    ∙ ones_low v width to lt ∙ ap (modulo to) (sym (cond-true (signed && (bit_at v (width - 1) == 1)) (pos v -ℤ pos (2 ^ width)) (pos v) e))

pub both : (a b : Bool) → a ≡ true → b ≡ true → (a && b) ≡ true
both a b l r = and_from a b l r

pub neither_left : (a b : Bool) → a ≡ false → (a && b) ≡ false
neither_left false b e = refl
neither_left true b e = cc e

pub neither_right : (a b : Bool) → b ≡ false → (a && b) ≡ false
neither_right true b e = e
neither_right false b e = refl
