-- What shift cells move, and where.
use Rattle.std.proofs.Common.{◌≡◌, ℕ, suc, ◌+◌, ◌-◌, ◌*◌, ◌/◌, ◌%◌, ◌^◌, ◌<◌, ◌≤◌, refl, sym, ◌∙◌, ap, arith, inl, inr, subst, min, max, Bool, true, false, cond, ◌⊎◌, bit_and}
use Rattle.std.proofs.lemmas.Bool.{cond-true, cond-false}
use Rattle.std.specs.Prelude.{ℤ, pos, negsuc, ◌-ℤ◌, ◌*ℤ◌, int_lt}
use Rattle.std.proofs.lemmas.Nat.{and_mask, pow_pos, pow-add}
use Rattle.std.proofs.Math.Nat.{div-le_self, mod-eq_of_lt, pow-le-pow_right, zero-mul, zero-mod}
use Rattle.std.proofs.Math.Pow.{mod-mod-pow}
use borrow.Author.Differences.{up, down}
use Rattle.std.proofs.lemmas.Int.{ints}
use Rattle.sim_base.specs.BitValue.{BitValue}
use Rattle.circuit.specs.Output.{modulo, shifted, floor_by, formula, first, operand, widened, CellInputs}
use Rattle.circuit.specs.declared.cell.Op.{Op}
use Rattle.circuit.specs.declared.cell.Op.TheVariants as op
use Rattle.cell_words.specs.Wholes.{magnitude}
use Rattle.cell_words.specs.Kinds.{is_one_sided, is_shift}
use Rattle.cell_words.specs.Shifts.{extended, farthest, source, places, is_to_the_left, is_negative, is_below_zero, IsPlain}
use Rattle.signal_words.proofs.Modulo.{modulo_is, is_product, is_lower, modulo_of}
use Rattle.cell_words.proofs.Shifted.{none_left, none_right, is_itself, extended_is, extended_not, extended_below, moved_left, moved_right, moved_floor}

first_unsigned : (i : CellInputs) → is_negative i ≡ false → first i ≡ pos i.a.number
first_unsigned i h = cond-false (is_negative i) (pos i.a.number -ℤ pos (2 ^ i.a.width)) (pos i.a.number) h

first_negative : (i : CellInputs) → is_negative i ≡ true → first i ≡ pos i.a.number -ℤ pos (2 ^ i.a.width)
first_negative i h = cond-true (is_negative i) (pos i.a.number -ℤ pos (2 ^ i.a.width)) (pos i.a.number) h

none_in_front : (e : ℕ) (i : CellInputs) → i.a.number < 2 ^ i.a.width → i.a.width ≤ e → is_negative i ≡ false → extended 0 i.a ≡ modulo e (first i)
none_in_front e i lt le h = extended_not e i.a lt le ∙ ap (modulo e) (sym (first_unsigned i h))

ones_in_front : (ones : ℕ) (i : CellInputs) → i.a.number < 2 ^ i.a.width → is_negative i ≡ true → extended ones i.a ≡ modulo (ones + i.a.width) (first i)
ones_in_front ones i lt h = extended_is ones i.a lt ∙ ap (modulo (ones + i.a.width)) (sym (first_negative i h))

pub extended_none : (a : BitValue) → extended 0 a ≡ a.number
extended_none a = omega arith

-- of an operand that is not below 0
pub source_none : (o : Op) (i : CellInputs) → is_shift o ≡ true → i.a.number < 2 ^ i.a.width → is_negative i ≡ false → extended 0 i.a ≡ source o i
source_none op.Shl i k lt h = none_in_front (max i.a.width i.width) i lt (omega arith) h
source_none op.Sshl i k lt h = none_in_front (max i.a.width i.width) i lt (omega arith) h
source_none op.Shr i k lt h = none_in_front (max i.a.width i.width) i lt (omega arith) h
source_none op.Sshr i k lt h = none_in_front (i.width + i.a.width) i lt (omega arith) h
source_none op.Shift i k lt h = none_in_front (max i.a.width i.width) i lt (omega arith) h
source_none op.Shiftx i k lt h = extended_none i.a
source_none _ i k lt h = absurd (cc)

pub source_sshr : (i : CellInputs) → i.a.number < 2 ^ i.a.width → is_negative i ≡ true → extended i.width i.a ≡ source op.Sshr i
source_sshr i lt h = ones_in_front i.width i lt h

widened_ones : (i : CellInputs) → i.a.number < 2 ^ i.a.width → is_negative i ≡ true → extended (i.width - i.a.width) i.a ≡ widened i
widened_ones i lt h =
    let e : i.width - i.a.width + i.a.width ≡ max i.a.width i.width = omega arith in
    ones_in_front (i.width - i.a.width) i lt h ∙ ap (λ k. modulo k (first i)) e

pub source_wider : (o : Op) (i : CellInputs) → is_shift o ≡ true → (o ≡ op.Sshr → ⊥) → (o ≡ op.Shiftx → ⊥) → i.a.number < 2 ^ i.a.width → is_negative i ≡ true → extended (i.width - i.a.width) i.a ≡ source o i
source_wider op.Shl i k p q lt h = widened_ones i lt h
source_wider op.Sshl i k p q lt h = widened_ones i lt h
source_wider op.Shr i k p q lt h = widened_ones i lt h
source_wider op.Sshr i k p q lt h = absurd (p refl)
source_wider op.Shift i k p q lt h = widened_ones i lt h
source_wider op.Shiftx i k p q lt h = absurd (q refl)
source_wider _ i k p q lt h = absurd (cc)

-- ---- to the left

product_of_first : (i : CellInputs) (n by : ℕ) → by ≡ min n farthest → i.width ≤ farthest → widened i / 2 ^ 0 * 2 ^ min by i.width % 2 ^ i.width ≡ modulo i.width (first i *ℤ pos (2 ^ n))
product_of_first i n by e le =
    moved_left i.width (widened i) n by e le
    ∙ modulo_of i.width (first i *ℤ pos (2 ^ n)) (widened i * 2 ^ n)
    (is_product (2 ^ i.width) (first i) (pos (2 ^ n)) (widened i) (2 ^ n)
    (is_lower i.width (max i.a.width i.width) (first i) (widened i) (omega arith) (modulo_is (max i.a.width i.width) (first i)))
    (is_itself (2 ^ i.width) (2 ^ n)))

below_zero : (n : ℕ) → int_lt (pos n) (pos 0) ≡ true → ⊥
below_zero n h = omega (arith, ints)

shifted_left : (w S by : ℕ) (z : ℤ) → by ≡ min (magnitude z) farthest → w ≤ farthest → int_lt z (pos 0) ≡ true → S / 2 ^ 0 * 2 ^ min by w % 2 ^ w ≡ modulo w (shifted S z)
shifted_left w S by (pos n) e le h = absurd (below_zero n h)
shifted_left w S by (negsuc n) e le h = moved_left w S (suc n) by e le

pub left_result : (o : Op) (i : CellInputs) (by : ℕ) → is_shift o ≡ true → is_to_the_left o (int_lt (places o i) (pos 0)) ≡ true → by ≡ min (magnitude (places o i)) farthest → i.width ≤ farthest → source o i / 2 ^ 0 * 2 ^ min by i.width % 2 ^ i.width ≡ modulo i.width (formula o i)
left_result op.Shl i by k t e le = product_of_first i i.b.number by e le
left_result op.Sshl i by k t e le = product_of_first i i.b.number by e le
left_result op.Shift i by k t e le = shifted_left i.width (widened i) by (places op.Shift i) e le t
left_result op.Shiftx i by k t e le = shifted_left i.width i.a.number by (places op.Shiftx i) e le t
left_result _ i by k t e le = absurd (cc)

-- ---- to the right

shifted_right : (w k S by : ℕ) (z : ℤ) → S < 2 ^ k → by ≡ min (magnitude z) farthest → k ≤ farthest → int_lt z (pos 0) ≡ false → S / 2 ^ min by k * 2 ^ 0 % 2 ^ w ≡ modulo w (shifted S z)
shifted_right w k S by (pos n) lt e le h = moved_right w k S n by lt e le
shifted_right w k S by (negsuc n) lt e le h = absurd (cc)

one_sided : (z : ℤ) → (up z ≡ 0) ⊎ (down z ≡ 0)
one_sided (pos n) = inr refl
one_sided (negsuc n) = inl refl

less_above : (v m : ℕ) → v < m → (up (pos v -ℤ pos m) < m) × (down (pos v -ℤ pos m) ≤ m)
less_above v m lt =
    let s : up (pos v -ℤ pos m) + m ≡ down (pos v -ℤ pos m) + v = omega (arith, ints) in
    elim (one_sided (pos v -ℤ pos m)) [
      | inl a ↦ (omega arith, omega arith)
      | inr b ↦ (omega arith, omega arith)
    ]

operand_above : (b : Bool) (v k : ℕ) → v < 2 ^ k → (up (cond b (pos v -ℤ pos (2 ^ k)) (pos v)) < 2 ^ k) × (down (cond b (pos v -ℤ pos (2 ^ k)) (pos v)) ≤ 2 ^ k)
operand_above true v k lt = less_above v (2 ^ k) lt
operand_above false v k lt = (lt, omega arith)

first_above : (i : CellInputs) → i.a.number < 2 ^ i.a.width → (up (first i) < 2 ^ i.a.width) × (down (first i) ≤ 2 ^ i.a.width)
first_above i lt = operand_above (is_negative i) i.a.number i.a.width lt

pub floor_result : (i : CellInputs) (by : ℕ) → i.a.number < 2 ^ i.a.width → by ≡ min i.b.number farthest → i.a.width ≤ farthest → source op.Sshr i / 2 ^ min by i.a.width * 2 ^ 0 % 2 ^ i.width ≡ modulo i.width (formula op.Sshr i)
floor_result i by lt e le =
    let f = first_above i lt in
    moved_floor i.width i.a.width i.b.number by (first i) f.0 f.1 e le

pub right_result : (o : Op) (i : CellInputs) (k by : ℕ) → is_shift o ≡ true → (o ≡ op.Sshr → ⊥) → is_to_the_left o (int_lt (places o i) (pos 0)) ≡ false → by ≡ min (magnitude (places o i)) farthest → source o i < 2 ^ k → k ≤ farthest → source o i / 2 ^ min by k * 2 ^ 0 % 2 ^ i.width ≡ modulo i.width (formula o i)
right_result op.Shr i k by s n t e lt le = moved_right i.width k (widened i) i.b.number by lt e le
right_result op.Shift i k by s n t e lt le = shifted_right i.width k (widened i) by (places op.Shift i) lt e le t
right_result op.Shiftx i k by s n t e lt le = shifted_right i.width k i.a.number by (places op.Shiftx i) lt e le t
right_result op.Sshr i k by s n t e lt le = absurd (n refl)
right_result _ i k by s n t e lt le = absurd (cc)

-- ---- the answers of a cell whose output has this width

pub left_answer : (o : Op) (i : CellInputs) (w ones by left : ℕ) (negative : Bool) → is_shift o ≡ true → true ≡ is_to_the_left o negative → negative ≡ int_lt (places o i) (pos 0)
    → by ≡ min (magnitude (places o i)) farthest → left ≡ min by w → w ≤ 65536 → i.width ≡ w → extended ones i.a ≡ source o i
    → extended ones i.a / 2 ^ 0 * 2 ^ left % 2 ^ w ≡ modulo w (formula o i)
left_answer o i w ones by left negative k t n e l le we s =
    let P : ℕ → Type 0 = λ v. source o i / 2 ^ 0 * 2 ^ min by v % 2 ^ v ≡ modulo v (formula o i) in
    let r : source o i / 2 ^ 0 * 2 ^ min by i.width % 2 ^ i.width ≡ modulo i.width (formula o i) =
    left_result o i by k (ap (is_to_the_left o) (sym n) ∙ sym t) e (omega arith) in
    ap (λ S. S / 2 ^ 0 * 2 ^ left % 2 ^ w) s ∙ ap (λ j. source o i / 2 ^ 0 * 2 ^ j % 2 ^ w) l ∙ subst P we r

pub floor_answer : (o : Op) (i : CellInputs) (w a ones by right : ℕ) → o ≡ op.Sshr → i.a.number < 2 ^ i.a.width
    → by ≡ min (magnitude (places o i)) farthest → right ≡ min by a → a ≤ 65536 → i.width ≡ w → i.a.width ≡ a → extended ones i.a ≡ source o i
    → extended ones i.a / 2 ^ right * 2 ^ 0 % 2 ^ w ≡ modulo w (formula o i)
floor_answer o i w a ones by right oe lt e l le we ae s =
    let P : ℕ → Type 0 = λ v. source op.Sshr i / 2 ^ min by i.a.width * 2 ^ 0 % 2 ^ v ≡ modulo v (formula op.Sshr i) in
    let r : source op.Sshr i / 2 ^ min by i.a.width * 2 ^ 0 % 2 ^ i.width ≡ modulo i.width (formula op.Sshr i) =
    floor_result i by lt (e ∙ ap (λ p. min (magnitude (places p i)) farthest) oe) (omega arith) in
    ap (λ S. S / 2 ^ right * 2 ^ 0 % 2 ^ w) (s ∙ ap (λ p. source p i) oe) ∙ ap (λ j. source op.Sshr i / 2 ^ j * 2 ^ 0 % 2 ^ w) (l ∙ ap (min by) (sym ae))
    ∙ subst P we r ∙ ap (λ p. modulo w (formula p i)) (sym oe)

pub right_answer : (o : Op) (i : CellInputs) (w a ones by right : ℕ) (negative : Bool) → is_shift o ≡ true → (o ≡ op.Sshr → ⊥) → false ≡ is_to_the_left o negative → negative ≡ int_lt (places o i) (pos 0)
    → i.a.number < 2 ^ i.a.width → by ≡ min (magnitude (places o i)) farthest → right ≡ min by (ones + a) → ones + a ≤ farthest → i.width ≡ w → i.a.width ≡ a → extended ones i.a ≡ source o i
    → extended ones i.a / 2 ^ right * 2 ^ 0 % 2 ^ w ≡ modulo w (formula o i)
right_answer o i w a ones by right negative k ne t n lt e l le we ae s =
    let P : ℕ → Type 0 = λ v. source o i / 2 ^ min by (ones + i.a.width) * 2 ^ 0 % 2 ^ v ≡ modulo v (formula o i) in
    let Q : ℕ → Type 0 = λ S. S < 2 ^ (ones + i.a.width) in
    let r : source o i / 2 ^ min by (ones + i.a.width) * 2 ^ 0 % 2 ^ i.width ≡ modulo i.width (formula o i) =
    right_result o i (ones + i.a.width) by k ne (ap (is_to_the_left o) (sym n) ∙ sym t) e (subst Q s (extended_below ones i.a lt)) (omega arith) in
    ap (λ S. S / 2 ^ right * 2 ^ 0 % 2 ^ w) s ∙ ap (λ j. source o i / 2 ^ j * 2 ^ 0 % 2 ^ w) (l ∙ ap (λ v. min by (ones + v)) (sym ae)) ∙ subst P we r

-- ---- in one machine word

pub none_moved : (ones right left w : ℕ) (a : BitValue) → a.number < 2 ^ a.width → ones + a.width ≤ right → 0 ≡ extended ones a / 2 ^ right * 2 ^ left % 2 ^ w
none_moved ones right left w a lt le =
    sym (ap (λ t. t * 2 ^ left % 2 ^ w) (none_right (ones + a.width) (extended ones a) right (extended_below ones a lt) le) ∙ ap (λ t. t % 2 ^ w) (zero-mul (2 ^ left)) ∙ zero-mod (2 ^ w))

pub word_moved : (ones right left w L R : ℕ) (a : BitValue) → ones + a.width ≤ 128 → w ≤ 128 → L ≡ 2 ^ ones - 1 → R ≡ 2 ^ w - 1
    → bit_and ((L * 2 ^ a.width % 2 ^ 128 + a.number) / 2 ^ right * 2 ^ left % 2 ^ 128) R ≡ extended ones a / 2 ^ right * 2 ^ left % 2 ^ w
word_moved ones right left w L R a le narrow l r =
    let power : 2 ^ (ones + a.width) ≡ 2 ^ ones * 2 ^ a.width = pow-add 2 ones a.width in
    let grows : 2 ^ (ones + a.width) ≤ 2 ^ 128 = pow-le-pow_right {n = 2} (omega arith) le in
    let some : 0 < 2 ^ ones = pow_pos ones in
    let some_own : 0 < 2 ^ a.width = pow_pos a.width in
    let whole : 2 ^ ones ≡ (2 ^ ones - 1) + 1 = omega arith in
    let product : 2 ^ ones * 2 ^ a.width ≡ ((2 ^ ones - 1) + 1) * 2 ^ a.width = ap (λ t. t * 2 ^ a.width) whole in
    let fits : (2 ^ ones - 1) * 2 ^ a.width < 2 ^ 128 = omega arith in
    let s : 128 - w + w ≡ 128 = omega arith in
    ap (λ t. bit_and ((t * 2 ^ a.width % 2 ^ 128 + a.number) / 2 ^ right * 2 ^ left % 2 ^ 128) R) l
    ∙ ap (λ t. bit_and ((t + a.number) / 2 ^ right * 2 ^ left % 2 ^ 128) R) (mod-eq_of_lt fits)
    ∙ ap (bit_and (extended ones a / 2 ^ right * 2 ^ left % 2 ^ 128)) r
    ∙ and_mask (extended ones a / 2 ^ right * 2 ^ left % 2 ^ 128) w
    ∙ ap (λ k. extended ones a / 2 ^ right * 2 ^ left % 2 ^ k % 2 ^ w) (sym s)
    ∙ mod-mod-pow (extended ones a / 2 ^ right * 2 ^ left) (128 - w) w

-- ---- operands that are not below 0

plain_places : (i : CellInputs) (number by : ℕ) → IsPlain i number by → operand i.b_signed i.b.width i.b.number ≡ pos by
plain_places i number by p = cond-false (is_below_zero i.b_signed i.b.width i.b.number) (pos i.b.number -ℤ pos (2 ^ i.b.width)) (pos i.b.number) p.by_positive ∙ ap pos p.by_is

plain_first : (i : CellInputs) (number by : ℕ) → IsPlain i number by → first i ≡ pos number
plain_first i number by p = first_unsigned i p.positive ∙ ap pos p.number_is

plain_widened : (i : CellInputs) (number by : ℕ) → IsPlain i number by → widened i ≡ number
plain_widened i number by p = sym (none_in_front (max i.a.width i.width) i p.below (omega arith) p.positive) ∙ extended_none i.a ∙ p.number_is

cut : (number by : ℕ) → number < 2 ^ 64 → number / 2 ^ by ≡ modulo 64 (pos (number / 2 ^ by))
cut number by lt = sym (mod-eq_of_lt (below (number / 2 ^ by) (div-le_self number (2 ^ by))))
  where
    below : (q : ℕ) → q ≤ number → q < 2 ^ 64
    below q le = omega (arith, le, lt)

-- the digits that a shift leaves of them
pub plain_right : (o : Op) (i : CellInputs) (number by : ℕ) → is_shift o ≡ true → (o ≡ op.Shl → ⊥) → (o ≡ op.Sshl → ⊥) → IsPlain i number by → number / 2 ^ by ≡ modulo 64 (formula o i)
plain_right op.Shl i number by k l m p = absurd (l refl)
plain_right op.Sshl i number by k l m p = absurd (m refl)
plain_right op.Shr i number by k l m p = cut number by p.word ∙ ap (λ n. modulo 64 (pos (n / 2 ^ by))) (sym (plain_widened i number by p)) ∙ ap (λ n. modulo 64 (pos (widened i / 2 ^ n))) (sym p.by_is)
plain_right op.Sshr i number by k l m p = cut number by p.word ∙ ap (λ n. modulo 64 (pos (number / 2 ^ n))) (sym p.by_is) ∙ ap (λ z. modulo 64 (floor_by z (2 ^ i.b.number))) (sym (plain_first i number by p))
plain_right op.Shift i number by k l m p = cut number by p.word ∙ ap (λ n. modulo 64 (pos (n / 2 ^ by))) (sym (plain_widened i number by p)) ∙ ap (λ z. modulo 64 (shifted (widened i) z)) (sym (plain_places i number by p))
plain_right op.Shiftx i number by k l m p = cut number by p.word ∙ ap (λ n. modulo 64 (pos (n / 2 ^ by))) (sym p.number_is) ∙ ap (λ z. modulo 64 (shifted i.a.number z)) (sym (plain_places i number by p))
plain_right _ i number by k l m p = absurd (cc)

plain_left : (i : CellInputs) (number by : ℕ) → IsPlain i number by → number * 2 ^ by % 2 ^ 64 ≡ modulo 64 (first i *ℤ pos (2 ^ i.b.number))
plain_left i number by p =
    modulo_of 64 (pos number *ℤ pos (2 ^ by)) (number * 2 ^ by) (is_product (2 ^ 64) (pos number) (pos (2 ^ by)) number (2 ^ by) (is_itself (2 ^ 64) number) (is_itself (2 ^ 64) (2 ^ by)))
    ∙ ap (λ z. modulo 64 (z *ℤ pos (2 ^ by))) (sym (plain_first i number by p)) ∙ ap (λ n. modulo 64 (first i *ℤ pos (2 ^ n))) (sym p.by_is)

-- and those that all have gone
pub plain_far : (o : Op) (i : CellInputs) (number by : ℕ) → is_shift o ≡ true → 63 < by → IsPlain i number by → 0 ≡ modulo 64 (formula o i)
plain_far op.Shl i number by k far p = sym (none_left 64 number by (omega (arith, far))) ∙ plain_left i number by p
plain_far op.Sshl i number by k far p = sym (none_left 64 number by (omega (arith, far))) ∙ plain_left i number by p
plain_far op.Shr i number by k far p = sym (none_right 64 number by p.word (omega (arith, far))) ∙ plain_right op.Shr i number by k (λ e. cc e) (λ e. cc e) p
plain_far op.Sshr i number by k far p = sym (none_right 64 number by p.word (omega (arith, far))) ∙ plain_right op.Sshr i number by k (λ e. cc e) (λ e. cc e) p
plain_far op.Shift i number by k far p = sym (none_right 64 number by p.word (omega (arith, far))) ∙ plain_right op.Shift i number by k (λ e. cc e) (λ e. cc e) p
plain_far op.Shiftx i number by k far p = sym (none_right 64 number by p.word (omega (arith, far))) ∙ plain_right op.Shiftx i number by k (λ e. cc e) (λ e. cc e) p
plain_far _ i number by k far p = absurd (cc)

-- the sign of a second operand that has none
pub unsigned_amount : (o : Op) (i : CellInputs) → is_one_sided o ≡ true → formula o (record i { b_signed = false }) ≡ formula o i
unsigned_amount op.Shl i kind = refl
unsigned_amount op.Sshl i kind = refl
unsigned_amount op.Shr i kind = refl
unsigned_amount op.Sshr i kind = refl
unsigned_amount _ i kind = absurd (cc kind)
