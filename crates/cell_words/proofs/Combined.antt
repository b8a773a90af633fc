-- Sums, differences and products of the lowest digits.
use Rattle.std.proofs.Common.{◌≡◌, ℕ, ◌+◌, ◌-◌, ◌*◌, ◌%◌, ◌^◌, ◌<◌, ◌≤◌, refl, sym, ◌∙◌, ap, subst, arith, Bool, true, false, cond}
use Rattle.std.proofs.lemmas.Nat.{pow_pos, pow-add}
use Rattle.std.proofs.lemmas.Int.{ints}
use Rattle.std.specs.Prelude.{ℤ, pos, ◌+ℤ◌, ◌-ℤ◌, ◌*ℤ◌}
use borrow.Author.Differences.{up, down}
use Rattle.sim_base.specs.BitValue.{BitValue}
use Rattle.circuit.specs.Output.{modulo, operand, formula, left, right, CellInputs}
use Rattle.circuit.specs.declared.cell.Op.{Op}
use Rattle.circuit.specs.declared.cell.Op.TheVariants as op
use Rattle.cell_words.specs.Kinds.{is_modular}
use Rattle.cell_words.specs.Shifts.{is_below_zero}
use Rattle.signal_words.proofs.Modulo.{Is, modulo_is, modulo_of, modulo_below, modulo_lower, modulo_product, is_only, is_sum, is_difference}

digits_of : (w : ℕ) (z : ℤ) (n : ℕ) → modulo w z ≡ n → Is (2 ^ w) z n
digits_of w z n e = subst (Is (2 ^ w) z) e (modulo_is w z)

more : (m k n : ℕ) (z : ℤ) → Is m z n → Is m z (n + k * m)
more m k n z (i, j, e) = (i + k, j, omega (arith, e))

wrapped : (w k d a b : ℕ) → w ≤ 64 → k ≡ d + 1 → 2 ^ w * k ≡ 2 ^ 64 → b < 2 ^ w → a + (2 ^ w - b) + d * 2 ^ w ≡ a + (2 ^ 64 - b)
wrapped w k d a b le e p lt = let q : 2 ^ w * (d + 1) ≡ 2 ^ 64 = ap (λ t. 2 ^ w * t) (sym e) ∙ p in omega (arith, q, lt)

add_is : (w : ℕ) (y z : ℤ) (a b : ℕ) → w ≤ 64 → modulo w y ≡ a → modulo w z ≡ b → (a + b) % 2 ^ 64 % 2 ^ w ≡ modulo w (y +ℤ z)
add_is w y z a b le e f = modulo_lower w 64 (pos (a + b)) le ∙ modulo_of w (y +ℤ z) (a + b) (is_sum (2 ^ w) y z a b (digits_of w y a e) (digits_of w z b f))

sub_is : (w : ℕ) (y z : ℤ) (a b : ℕ) → w ≤ 64 → modulo w y ≡ a → modulo w z ≡ b → (a + (2 ^ 64 - b)) % 2 ^ 64 % 2 ^ w ≡ modulo w (y -ℤ z)
sub_is w y z a b le e f =
    let s : w + (64 - w) ≡ 64 = omega (arith, le) in
    let p : 2 ^ w * 2 ^ (64 - w) ≡ 2 ^ 64 = sym (pow-add 2 w (64 - w)) ∙ ap (λ k. 2 ^ k) s in
    let some : 2 ^ (64 - w) ≡ (2 ^ (64 - w) - 1) + 1 = omega (arith, pow_pos (64 - w)) in
    let lt : b < 2 ^ w = subst (λ n. n < 2 ^ w) f (modulo_below w z) in
    let is : Is (2 ^ w) (y -ℤ z) (a + (2 ^ w - b)) = is_difference (2 ^ w) y z a b (omega (arith, lt)) (digits_of w y a e) (digits_of w z b f) in
    modulo_lower w 64 (pos (a + (2 ^ 64 - b))) le
    ∙ modulo_of w (y -ℤ z) (a + (2 ^ 64 - b)) (subst (Is (2 ^ w) (y -ℤ z)) (wrapped w (2 ^ (64 - w)) (2 ^ (64 - w) - 1) a b le some p lt) (more (2 ^ w) (2 ^ (64 - w) - 1) (a + (2 ^ w - b)) (y -ℤ z) is))

mul_is : (w : ℕ) (y z : ℤ) (a b : ℕ) → w ≤ 64 → modulo w y ≡ a → modulo w z ≡ b → a * b % 2 ^ 64 % 2 ^ w ≡ modulo w (y *ℤ z)
mul_is w y z a b le e f = modulo_lower w 64 (pos (a * b)) le ∙ modulo_product w y z a b (sym e) (sym f)

pub sum_digits : (o : Op) (i : CellInputs) (w a b : ℕ) → o ≡ op.Add → w ≤ 64 → modulo w (left i) ≡ a → modulo w (right i) ≡ b → (a + b) % 2 ^ 64 % 2 ^ w ≡ modulo w (formula o i)
sum_digits o i w a b is le e f = add_is w (left i) (right i) a b le e f ∙ ap (λ p. modulo w (formula p i)) (sym is)

pub difference_digits : (o : Op) (i : CellInputs) (w a b : ℕ) → o ≡ op.Sub → w ≤ 64 → modulo w (left i) ≡ a → modulo w (right i) ≡ b → (a + (2 ^ 64 - b)) % 2 ^ 64 % 2 ^ w ≡ modulo w (formula o i)
difference_digits o i w a b is le e f = sub_is w (left i) (right i) a b le e f ∙ ap (λ p. modulo w (formula p i)) (sym is)

pub product_digits : (o : Op) (i : CellInputs) (w a b : ℕ) → is_modular o ≡ true → (o ≡ op.Add → ⊥) → (o ≡ op.Sub → ⊥) → w ≤ 64 → modulo w (left i) ≡ a → modulo w (right i) ≡ b → a * b % 2 ^ 64 % 2 ^ w ≡ modulo w (formula o i)
product_digits op.Mul i w a b kind m n le e f = mul_is w (left i) (right i) a b le e f
product_digits op.Add i w a b kind m n le e f = absurd (m refl)
product_digits op.Sub i w a b kind m n le e f = absurd (n refl)
product_digits _ i w a b kind m n le e f = absurd (cc)

-- ---- the lowest digits of an operand that has no others

signed_is : (w v : ℕ) → Is (2 ^ w) (pos v -ℤ pos (2 ^ w)) v
signed_is w v =
    let s : up (pos v -ℤ pos (2 ^ w)) + 2 ^ w ≡ down (pos v -ℤ pos (2 ^ w)) + v = omega (arith, ints) in
    (1, 0, omega (arith, s))

either : (b : Bool) (w v : ℕ) → v < 2 ^ w → modulo w (cond b (pos v -ℤ pos (2 ^ w)) (pos v)) ≡ v
either true w v lt = sym (is_only w (pos v -ℤ pos (2 ^ w)) v lt (signed_is w v))
either false w v lt = sym (is_only w (pos v) v lt (0, 0, omega arith))

pub operand_digits : (signed : Bool) (w v : ℕ) → v < 2 ^ w → modulo w (operand signed w v) ≡ v
operand_digits signed w v lt = either (is_below_zero signed w v) w v lt

-- the operand that a value of the width is
pub value_digits : (signed : Bool) (w n : ℕ) (v port : BitValue) → v ≡ port → v.width ≡ w → n < 2 ^ v.width → n ≡ v.number → modulo w (operand signed port.width port.number) ≡ n
value_digits signed w n v port is width lt number =
    ap (λ (u : BitValue). modulo w (operand signed u.width u.number)) (sym is) ∙ ap (λ k. modulo w (operand signed k v.number)) width
    ∙ ap (λ k. modulo w (operand signed w k)) (sym number) ∙ operand_digits signed w n (subst (λ k. n < 2 ^ k) width lt)
