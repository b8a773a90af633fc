-- Words compared with the highest bit turned.
use Rattle.std.proofs.Common.{◌≡◌, ℕ, ◌+◌, ◌-◌, ◌*◌, ◌/◌, ◌%◌, ◌^◌, ◌<◌, ◌≤◌, sym, ◌∙◌, ap, subst, arith, lit<, inl, inr, Bool, true, false, not, cond}
use Rattle.std.proofs.lemmas.Bool.{cases_lt, lt-ltb, le-ltb}
use Rattle.std.proofs.lemmas.Int.{ints}
use Rattle.std.proofs.lemmas.Nat.{pow_pos, pow-add, mod_below, div-add-mod', same_from_place}
use Rattle.std.proofs.Math.Nat.{pow-le-pow_right, mod-eq_of_lt, div-eq_of_lt}
use Rattle.std.specs.Prelude.{ℤ, pos, ◌-ℤ◌, int_lt, int_le, nat_lt, ◌==◌}
use Rattle.sim_base.specs.BitValue.{BitValue}
use Rattle.circuit.specs.Output.{operand, formula, left, right, truth, CellInputs}
use Rattle.circuit.specs.declared.cell.Op.{Op}
use Rattle.circuit.specs.declared.cell.Op.TheVariants as op

told : (x y : ℕ) (z : Bool) → (x < y → true ≡ z) → (y ≤ x → false ≡ z) → nat_lt x y ≡ z
told x y z f g = elim (cases_lt x y) [
  | inl lt ↦ lt-ltb x y lt ∙ f lt
  | inr le ↦ le-ltb x y le ∙ g le
]

-- a word of which the highest digit of a number was turned: words with that digit come first
abbrev IsTurned : Bool → ℕ → ℕ → ℕ → Type 0
IsTurned true half a x = (half ≤ a) × (x + half ≡ a)
IsTurned false half a x = (a < half) × (x + half ≡ a + 2 ^ 64)

turned_is : (half a : ℕ) → 0 < half → half ≤ 2 ^ 63 → a < 2 * half → IsTurned (a / half % 2 == 1) half a ((a + (2 ^ 64 - half)) % 2 ^ 64)
turned_is half a some le lt = elim (cases_lt a half) [
  | inl low ↦
      let q : a / half ≡ 0 = div-eq_of_lt low in
      let e : (a / half % 2 == 1) ≡ false = ap (λ d. d % 2 == 1) q in
      let t : (a + (2 ^ 64 - half)) % 2 ^ 64 ≡ a + (2 ^ 64 - half) = mod-eq_of_lt (omega (arith, low, le)) in
      subst (λ b. IsTurned b half a ((a + (2 ^ 64 - half)) % 2 ^ 64)) (sym e) (low, omega (arith, t, le))
  | inr high ↦
      let f : a / half * half + a % half ≡ 1 * half + (a - half) = div-add-mod' a half ∙ omega (arith, high) in
      let q : a / half ≡ 1 = (same_from_place (a / half) (a % half) 1 (a - half) half (mod_below a half some) (omega (arith, lt, high)) f).0 in
      let e : (a / half % 2 == 1) ≡ true = ap (λ d. d % 2 == 1) q in
      let small : a - half < 2 ^ 64 = omega (arith, lt, le) in
      let s : a + (2 ^ 64 - half) ≡ (a - half) + 2 ^ 64 = omega (arith, high, le) in
      let t : (a + (2 ^ 64 - half)) % 2 ^ 64 ≡ a - half = omega (arith, s, small) in
      subst (λ b. IsTurned b half a ((a + (2 ^ 64 - half)) % 2 ^ 64)) (sym e) (high, omega (arith, t, high))
]

turned_below : (p q : Bool) (half m a b x y : ℕ) → m ≡ 2 * half → half ≤ 2 ^ 63 → a < m → b < m → IsTurned p half a x → IsTurned q half b y
    → nat_lt x y ≡ int_lt (cond p (pos a -ℤ pos m) (pos a)) (cond q (pos b -ℤ pos m) (pos b))
turned_below true true half m a b x y e le la lb s t = told x y _ (λ lt. omega (arith, ints, lt, s.0, s.1, t.0, t.1)) (λ ge. omega (arith, ints, ge, s.0, s.1, t.0, t.1))
turned_below false false half m a b x y e le la lb s t = told x y _ (λ lt. omega (arith, ints, lt, s.0, s.1, t.0, t.1)) (λ ge. omega (arith, ints, ge, s.0, s.1, t.0, t.1))
turned_below true false half m a b x y e le la lb s t = told x y _ (λ lt. omega (arith, ints, la)) (λ ge. absurd (omega (arith, ge, e, le, la, s.0, s.1, t.0, t.1)))
turned_below false true half m a b x y e le la lb s t = told x y _ (λ lt. absurd (omega (arith, lt, e, le, lb, s.0, s.1, t.0, t.1))) (λ ge. omega (arith, ints, lb))

pub signed_below : (signed : Bool) (w a b : ℕ) → signed ≡ true → 0 < w → w ≤ 64 → a < 2 ^ w → b < 2 ^ w
    → nat_lt ((a + (2 ^ 64 - 1 * 2 ^ (w - 1) % 2 ^ 64)) % 2 ^ 64) ((b + (2 ^ 64 - 1 * 2 ^ (w - 1) % 2 ^ 64)) % 2 ^ 64) ≡ int_lt (operand signed w a) (operand signed w b)
signed_below signed w a b is some small la lb =
    let le : 2 ^ (w - 1) ≤ 2 ^ 63 = pow-le-pow_right {n = 2} (lit< tt) {i = w - 1} {j = 63} (omega (arith, small)) in
    let h : 1 * 2 ^ (w - 1) % 2 ^ 64 ≡ 2 ^ (w - 1) = omega (arith, le) in
    let s : 1 + (w - 1) ≡ w = omega (arith, some) in
    let m : 2 ^ w ≡ 2 * 2 ^ (w - 1) = ap (λ k. 2 ^ k) (sym s) ∙ pow-add 2 1 (w - 1) in
    ap (λ k. nat_lt ((a + (2 ^ 64 - k)) % 2 ^ 64) ((b + (2 ^ 64 - k)) % 2 ^ 64)) h
    ∙ turned_below (a / 2 ^ (w - 1) % 2 == 1) (b / 2 ^ (w - 1) % 2 == 1) (2 ^ (w - 1)) (2 ^ w) a b _ _ m le la lb
    (turned_is (2 ^ (w - 1)) a (pow_pos (w - 1)) le (omega (arith, m, la))) (turned_is (2 ^ (w - 1)) b (pow_pos (w - 1)) le (omega (arith, m, lb)))
    ∙ ap (λ t. int_lt (operand t w a) (operand t w b)) (sym is)

not_below : (y z : ℤ) → int_le y z ≡ not (int_lt z y)
not_below y z = grind (arith, ints)

pub at_most_told : (o : Op) (i : CellInputs) (y z : ℤ) (t : Bool) → o ≡ op.Le → left i ≡ y → right i ≡ z → t ≡ int_lt z y → formula o i ≡ truth (not t)
at_most_told o i y z t is e f g = ap (λ p. formula p i) is ∙ ap (λ x. truth (int_le x (right i))) e ∙ ap (λ x. truth (int_le y x)) f ∙ ap truth (not_below y z) ∙ ap (λ b. truth (not b)) (sym g)

pub at_least_told : (o : Op) (i : CellInputs) (y z : ℤ) (t : Bool) → o ≡ op.Ge → left i ≡ y → right i ≡ z → t ≡ int_lt y z → formula o i ≡ truth (not t)
at_least_told o i y z t is e f g = ap (λ p. formula p i) is ∙ ap (λ x. truth (int_le (right i) x)) e ∙ ap (λ x. truth (int_le x y)) f ∙ ap truth (not_below z y) ∙ ap (λ b. truth (not b)) (sym g)

pub truth_below : (w : ℕ) (t : Bool) → 0 < w → cond t 1 0 < 2 ^ w
truth_below w t some = small t (pow-le-pow_right {n = 2} (lit< tt) {i = 1} {j = w} some)
  where
    small : (t : Bool) → 2 ≤ 2 ^ w → cond t 1 0 < 2 ^ w
    small true le = omega (arith, le)
    small false le = omega (arith, le)

-- a truth value is its lowest digits
pub truth_digits : (w : ℕ) (t : Bool) → 0 < w → cond t 1 0 % 2 ^ w ≡ cond t 1 0
truth_digits w t some = mod-eq_of_lt (truth_below w t some)

-- the operand that a value is
pub value_operand : (flag signed : Bool) (w n : ℕ) (v port : BitValue) → v ≡ port → signed ≡ flag → w ≡ v.width → n ≡ v.number → operand flag port.width port.number ≡ operand signed w n
value_operand flag signed w n v port is same width number =
    ap (λ (u : BitValue). operand flag u.width u.number) (sym is) ∙ ap (λ k. operand flag k v.number) (sym width) ∙ ap (operand flag w) (sym number) ∙ ap (λ b. operand b w n) (sym same)
