-- The digits of operands.
use Rattle.std.proofs.Common.{◌≡◌, ℕ, zero, suc, ◌+◌, ◌-◌, ◌*◌, ◌%◌, ◌^◌, ◌<◌, ◌≤◌, min, refl, sym, ◌∙◌, ap, arith, inl, inr, Bool, true, false, ◌&&◌, lit<}
use Rattle.std.proofs.Math.Nat.{add-mod_right, mul-mod_left, mod-eq_of_lt, pow-le-pow_right}
use Rattle.std.proofs.lemmas.Bool.{cases_lt, cond-true, cond-false}
use Rattle.std.proofs.lemmas.Nat.{mod_below, pow_pos, pow_below, pow-add}
use Rattle.std.specs.Int.{bit_at}
use Rattle.std.proofs.lemmas.Bool.Decides.{nat_tests}
use Rattle.sim_base.specs.BitValue.{digit_of}
use Rattle.std.specs.Prelude.{◌==◌, pos, ◌-ℤ◌}
use Rattle.circuit.specs.Output.{modulo, operand}
use Rattle.cell_wide.specs.Words.{low_of_number, low_of_fill, low_of_chain}
use Rattle.signal_words.proofs.Modulo.{modulo_difference}

power_split : (w width : ℕ) → w ≤ width → 2 ^ width ≡ 2 ^ (width - w) * 2 ^ w
power_split w width le = let e : width ≡ width - w + w = omega arith in ap (λ k. 2 ^ k) e ∙ pow-add 2 (width - w) w

zeros_low : (v width w : ℕ) → v < 2 ^ width → low_of_chain (low_of_number v) width (low_of_fill false) w ≡ modulo w (pos v)
zeros_low v width w lt = elim (cases_lt w width) [
  | inl a ↦
      (let m : min w width ≡ w = omega arith in
      let z : 0 * 2 ^ min w width + v % 2 ^ min w width ≡ v % 2 ^ min w width = omega arith in z ∙ ap (λ k. v % 2 ^ k) m)
  | inr b ↦
      (let m : min w width ≡ width = omega arith in
      let z : 0 * 2 ^ min w width + v % 2 ^ min w width ≡ v % 2 ^ min w width = omega arith in
      z ∙ ap (λ k. v % 2 ^ k) m ∙ mod-eq_of_lt lt ∙ sym (mod-eq_of_lt (below_power v width w lt b)))
]
  where
    below_power : (v width w : ℕ) → v < 2 ^ width → width ≤ w → v < 2 ^ w
    below_power v width w lt le = let p : 2 ^ width ≤ 2 ^ w = pow-le-pow_right {n = 2} (lit< tt) {i = width} {j = w} le in omega (arith, lt, p)

pub ones_low : (v width w : ℕ) → v < 2 ^ width → low_of_chain (low_of_number v) width (low_of_fill true) w ≡ modulo w (pos v -ℤ pos (2 ^ width))
ones_low v width w lt = elim (cases_lt width w) [
  | inr a ↦
      (let m : min w width ≡ w = omega arith in
      let k : w - width ≡ 0 = omega arith in
      let q : 2 ^ width % 2 ^ w ≡ 0 = ap (λ x. x % 2 ^ w) (power_split w width (omega arith)) ∙ mul-mod_left (2 ^ (width - w)) (2 ^ w) in
      let z : (2 ^ 0 - 1) * 2 ^ w + v % 2 ^ w ≡ v % 2 ^ w = omega arith in
      let s : v % 2 ^ w + (2 ^ w - 0) ≡ v % 2 ^ w + 2 ^ w = omega arith in
      ap (λ x. (2 ^ x - 1) * 2 ^ min w width + v % 2 ^ min w width) k ∙ ap (λ x. (2 ^ 0 - 1) * 2 ^ x + v % 2 ^ x) m ∙ z
      ∙ sym (ap (λ x. (v % 2 ^ w + (2 ^ w - x)) % 2 ^ w) q ∙ ap (λ x. x % 2 ^ w) s ∙ add-mod_right (v % 2 ^ w) (2 ^ w) ∙ mod-eq_of_lt (mod_below v (2 ^ w) (pow_pos w)))
      ∙ modulo_difference w (pos v) (pos (2 ^ width)) (v % 2 ^ w) (2 ^ width % 2 ^ w) refl refl)
  | inl c ↦
      (let m : min w width ≡ width = omega arith in
      let p : 2 ^ width < 2 ^ w = pow_below width w c in
      let e : 2 ^ (w - width) * 2 ^ width ≡ 2 ^ w = sym (power_split width w (omega arith)) in
      let r : v % 2 ^ w ≡ v = mod-eq_of_lt (omega (arith, lt, p)) in
      let q : 2 ^ width % 2 ^ w ≡ 2 ^ width = mod-eq_of_lt p in
      ap (λ x. (2 ^ (w - width) - 1) * 2 ^ x + v % 2 ^ x) m ∙ ap (λ x. (2 ^ (w - width) - 1) * 2 ^ width + x) (mod-eq_of_lt lt)
      ∙ less (2 ^ (w - width)) (2 ^ width) (2 ^ w) v e lt p
      ∙ sym (ap (λ x. (x + (2 ^ w - 2 ^ width % 2 ^ w)) % 2 ^ w) r ∙ ap (λ x. (v + (2 ^ w - x)) % 2 ^ w) q ∙ mod-eq_of_lt (omega (arith, lt, p)))
      ∙ modulo_difference w (pos v) (pos (2 ^ width)) (v % 2 ^ w) (2 ^ width % 2 ^ w) refl refl)
]
  where
    less : (a b m v : ℕ) → a * b ≡ m → v < b → b < m → (a - 1) * b + v ≡ v + (m - b)
    less zero b m v e lt p = absurd (omega (arith, e, p))
    less (suc a) b m v e lt p =
        let s : suc a * b ≡ a * b + b = omega arith in
        let k : suc a - 1 ≡ a = omega arith in
        rw k (omega (arith, e, s))

-- the digit that stands behind the last one of a signed number, and so on
pub operand_low : (signed ones : Bool) (v width w : ℕ) → v < 2 ^ width → ones ≡ (signed && (bit_at v (width - 1) == 1)) → low_of_chain (low_of_number v) width (low_of_fill ones) w ≡ modulo w (operand signed width v)
operand_low signed true v width w lt e =
    ones_low v width w lt ∙ ap (modulo w) (sym (cond-true (signed && (bit_at v (width - 1) == 1)) (pos v -ℤ pos (2 ^ width)) (pos v) (sym e)))
operand_low signed false v width w lt e =
    zeros_low v width w lt ∙ ap (modulo w) (sym (cond-false (signed && (bit_at v (width - 1) == 1)) (pos v -ℤ pos (2 ^ width)) (pos v) (sym e)))

-- the sign of an operand
pub sign_is : (signed ones : Bool) (v k i : ℕ) → signed ≡ true → digit_of ones ≡ bit_at v i → i ≡ k → ones ≡ (signed && (bit_at v k == 1))
sign_is true true v k i s d e = one (bit_at v k) (d ∙ ap (bit_at v) e)
  where
    one : (d : ℕ) → 1 ≡ d → true ≡ (d == 1)
    one d e = grind (arith, nat_tests)
sign_is true false v k i s d e = none (bit_at v k) (d ∙ ap (bit_at v) e)
  where
    none : (d : ℕ) → 0 ≡ d → false ≡ (d == 1)
    none d e = grind (arith, nat_tests)
sign_is false ones v k i s d e = cc s

pub no_sign : (signed ones : Bool) (v k : ℕ) → signed ≡ false → ones ≡ false → ones ≡ (signed && (bit_at v k == 1))
no_sign false ones v k s e = e
no_sign true ones v k s e = cc s
