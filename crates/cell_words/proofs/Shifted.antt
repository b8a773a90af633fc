-- Shifts, as moves of digits.
use Rattle.std.proofs.Common.{◌≡◌, ℕ, ◌+◌, ◌-◌, ◌*◌, ◌/◌, ◌%◌, ◌^◌, ◌<◌, ◌≤◌, sym, ◌∙◌, ap, arith, inl, inr, min}
use Rattle.std.proofs.lemmas.Bool.{cases_lt}
use Rattle.std.proofs.lemmas.Nat.{mod_below, pow_pos, pow-add, shr_high, field_of, mod-pow-add}
use Rattle.std.proofs.Math.Nat.{mod-eq_of_lt, mul-mod_left, div-eq_of_lt, pow-le-pow_right, div-one, mul-one, mul_assoc}
use Rattle.std.specs.Prelude.{ℤ, pos, negsuc, ◌-ℤ◌}
use Rattle.std.proofs.lemmas.Int.{ints}
use Rattle.sim_base.specs.BitValue.{BitValue}
use Rattle.circuit.specs.Output.{modulo, floor_by}
use borrow.Author.Differences.{up, down}
use Rattle.cell_words.specs.Shifts.{extended, farthest}
use Rattle.signal_words.proofs.Modulo.{Is, is_only, modulo_lower}

pub is_itself : (m n : ℕ) → Is m (pos n) n
is_itself m n = (0, 0, omega arith)

-- all digits beyond the width are cut away
pub none_left : (w S n : ℕ) → w ≤ n → S * 2 ^ n % 2 ^ w ≡ 0
none_left w S n le =
    let s : n - w + w ≡ n = omega arith in
    let p : S * 2 ^ n ≡ S * 2 ^ (n - w) * 2 ^ w = ap (λ k. S * 2 ^ k) (sym s) ∙ ap (λ t. S * t) (pow-add 2 (n - w) w) ∙ sym (mul_assoc S (2 ^ (n - w)) (2 ^ w)) in
    ap (λ t. t % 2 ^ w) p ∙ mul-mod_left (S * 2 ^ (n - w)) (2 ^ w)

pub left_within : (w S n : ℕ) → S * 2 ^ min n w % 2 ^ w ≡ S * 2 ^ n % 2 ^ w
left_within w S n = elim (cases_lt n w) [
  | inl a ↦ (let e : min n w ≡ n = omega arith in ap (λ k. S * 2 ^ k % 2 ^ w) e)
  | inr b ↦ (let e : min n w ≡ w = omega arith in ap (λ k. S * 2 ^ k % 2 ^ w) e ∙ none_left w S w (omega arith) ∙ sym (none_left w S n b))
]

pow_grows : (k n : ℕ) → k ≤ n → 2 ^ k ≤ 2 ^ n
pow_grows k n le = pow-le-pow_right {n = 2} (omega arith) le

pub none_right : (k S n : ℕ) → S < 2 ^ k → k ≤ n → S / 2 ^ n ≡ 0
none_right k S n lt le =
    let wider : 2 ^ k ≤ 2 ^ n = pow_grows k n le in
    let below : S < 2 ^ n = omega arith in
    div-eq_of_lt below

pub right_within : (k S n : ℕ) → S < 2 ^ k → S / 2 ^ min n k ≡ S / 2 ^ n
right_within k S n lt = elim (cases_lt n k) [
  | inl a ↦ (let e : min n k ≡ n = omega arith in ap (λ j. S / 2 ^ j) e)
  | inr b ↦ (let e : min n k ≡ k = omega arith in ap (λ j. S / 2 ^ j) e ∙ none_right k S k lt (omega arith) ∙ sym (none_right k S n lt b))
]

-- to round a quotient down is to move all digits to the right
floor_of : (w n : ℕ) (z : ℤ) → modulo (w + n) z / 2 ^ n ≡ modulo w (floor_by z (2 ^ n))
floor_of w n (pos a) = field_of a w n
floor_of w n (negsuc a) =
    let q : ℕ = a / 2 ^ n % 2 ^ w in
    let r : ℕ = a % 2 ^ n in
    let high : a / 2 ^ n % 2 ^ w < 2 ^ w = mod_below (a / 2 ^ n) (2 ^ w) (pow_pos w) in
    let low : a % 2 ^ n < 2 ^ n = mod_below a (2 ^ n) (pow_pos n) in
    let split : a % 2 ^ (w + n) ≡ a / 2 ^ n % 2 ^ w * 2 ^ n + a % 2 ^ n = mod-pow-add a w n in
    let power : 2 ^ (w + n) ≡ 2 ^ w * 2 ^ n = pow-add 2 w n in
    let whole : 2 ^ w ≡ (2 ^ w - 1 - a / 2 ^ n % 2 ^ w) + 1 + a / 2 ^ n % 2 ^ w = omega arith in
    let product : 2 ^ w * 2 ^ n ≡ ((2 ^ w - 1 - a / 2 ^ n % 2 ^ w) + 1 + a / 2 ^ n % 2 ^ w) * 2 ^ n = ap (λ t. t * 2 ^ n) whole in
    let e : 2 ^ (w + n) - 1 - a % 2 ^ (w + n) ≡ (2 ^ w - 1 - a / 2 ^ n % 2 ^ w) * 2 ^ n + (2 ^ n - 1 - a % 2 ^ n) = omega arith in
    ap (λ t. t / 2 ^ n) e ∙ shr_high (2 ^ w - 1 - a / 2 ^ n % 2 ^ w) n (2 ^ n - 1 - a % 2 ^ n) (omega arith)

pub floor_is_move : (w e n : ℕ) (z : ℤ) → w + n ≤ e → modulo e z / 2 ^ n % 2 ^ w ≡ modulo w (floor_by z (2 ^ n))
floor_is_move w e n z le =
    sym (field_of (modulo e z) w n) ∙ ap (λ t. t / 2 ^ n) (modulo_lower (w + n) e z le) ∙ floor_of w n z

-- digits 1 in front make a negative number
pub extended_below : (ones : ℕ) (a : BitValue) → a.number < 2 ^ a.width → extended ones a < 2 ^ (ones + a.width)
extended_below ones a lt =
    let power : 2 ^ (ones + a.width) ≡ 2 ^ ones * 2 ^ a.width = pow-add 2 ones a.width in
    let some : 0 < 2 ^ ones = pow_pos ones in
    let whole : 2 ^ ones ≡ (2 ^ ones - 1) + 1 = omega arith in
    omega (arith, ap (λ t. t * 2 ^ a.width) whole)

pub extended_is : (ones : ℕ) (a : BitValue) → a.number < 2 ^ a.width → extended ones a ≡ modulo (ones + a.width) (pos a.number -ℤ pos (2 ^ a.width))
extended_is ones a lt =
    let power : 2 ^ (ones + a.width) ≡ 2 ^ ones * 2 ^ a.width = pow-add 2 ones a.width in
    let some : 0 < 2 ^ ones = pow_pos ones in
    let whole : 2 ^ ones ≡ (2 ^ ones - 1) + 1 = omega arith in
    is_only (ones + a.width) (pos a.number -ℤ pos (2 ^ a.width)) (extended ones a) (extended_below ones a lt)
    (1, 0, omega (arith, ints, ap (λ t. t * 2 ^ a.width) whole))

pub extended_not : (e : ℕ) (a : BitValue) → a.number < 2 ^ a.width → a.width ≤ e → extended 0 a ≡ modulo e (pos a.number)
extended_not e a lt le =
    let wider : 2 ^ a.width ≤ 2 ^ e = pow_grows a.width e le in
    let below : a.number < 2 ^ e = omega arith in
    let z : extended 0 a ≡ a.number = omega arith in
    z ∙ sym (mod-eq_of_lt below)

-- beyond its digits a number has no others
floor_far : (k n : ℕ) (z : ℤ) → up z < 2 ^ k → down z ≤ 2 ^ k → k ≤ n → floor_by z (2 ^ k) ≡ floor_by z (2 ^ n)
floor_far k n (pos a) lt le far = ap pos (none_right k a k lt (omega arith) ∙ sym (none_right k a n lt far))
floor_far k n (negsuc a) lt le far = let b : a < 2 ^ k = omega arith in ap negsuc (none_right k a k b (omega arith) ∙ sym (none_right k a n b far))

pub moved_left : (w S n by : ℕ) → by ≡ min n farthest → w ≤ farthest → S / 2 ^ 0 * 2 ^ min by w % 2 ^ w ≡ S * 2 ^ n % 2 ^ w
moved_left w S n by e le =
    let m : min by w ≡ min n w = omega arith in
    ap (λ t. t * 2 ^ min by w % 2 ^ w) (div-one S) ∙ ap (λ k. S * 2 ^ k % 2 ^ w) m ∙ left_within w S n

pub moved_right : (w k S n by : ℕ) → S < 2 ^ k → by ≡ min n farthest → k ≤ farthest → S / 2 ^ min by k * 2 ^ 0 % 2 ^ w ≡ S / 2 ^ n % 2 ^ w
moved_right w k S n by lt e le =
    let m : min by k ≡ min n k = omega arith in
    ap (λ t. t % 2 ^ w) (mul-one (S / 2 ^ min by k)) ∙ ap (λ j. S / 2 ^ j % 2 ^ w) m ∙ ap (λ t. t % 2 ^ w) (right_within k S n lt)

pub moved_floor : (w k n by : ℕ) (z : ℤ) → up z < 2 ^ k → down z ≤ 2 ^ k → by ≡ min n farthest → k ≤ farthest → modulo (w + k) z / 2 ^ min by k * 2 ^ 0 % 2 ^ w ≡ modulo w (floor_by z (2 ^ n))
moved_floor w k n by z lt ge e le =
    let m : min by k ≡ min n k = omega arith in
    let S : ℕ = modulo (w + k) z in
    ap (λ t. t % 2 ^ w) (mul-one (modulo (w + k) z / 2 ^ min by k)) ∙ ap (λ j. modulo (w + k) z / 2 ^ j % 2 ^ w) m
    ∙ floor_is_move w (w + k) (min n k) z (omega arith)
    ∙ ap (modulo w) (elim (cases_lt n k) [
      | inl a ↦ (let f : min n k ≡ n = omega arith in ap (λ j. floor_by z (2 ^ j)) f)
      | inr b ↦ (let f : min n k ≡ k = omega arith in ap (λ j. floor_by z (2 ^ j)) f ∙ floor_far k n z lt ge b)
    ])
