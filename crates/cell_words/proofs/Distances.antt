-- How far a number is from 0, or from the digits that are all 1.
use Rattle.std.proofs.Common.{◌≡◌, ℕ, ◌+◌, ◌-◌, ◌*◌, ◌/◌, ◌%◌, ◌^◌, ◌<◌, ◌≤◌, refl, sym, ◌∙◌, ap, arith, inl, inr, subst, min, Bool, true, false, cond, ◌&&◌, ◌⊎◌}
use Rattle.std.proofs.lemmas.Bool.{cases_lt, eq-eqb, ne_eqb, cond-true}
use Rattle.std.specs.Prelude.{◌==◌, ℤ, pos, negsuc, ◌-ℤ◌, int_lt}
use Rattle.std.proofs.lemmas.Bool.Decides.{eqb_tells}
use Rattle.std.proofs.lemmas.Nat.{same_from_place, mod_below, pow_pos, pow-add, div-add-mod', shr_below}
use Rattle.std.proofs.lemmas.Int.{ints}
use borrow.Author.Differences.{up, down}
use Rattle.sim_base.specs.BitValue.{BitValue, bit_value}
use Rattle.circuit.specs.Output.{operand}
use Rattle.signal_words.proofs.Told.{eq_from}
use Rattle.cell_words.specs.Wholes.{magnitude}
use Rattle.cell_words.specs.Shifts.{farthest, all_ones, is_below_zero, IsAmount}

-- whether lower parts and higher parts are the same
pub same_places : (a b c d m : ℕ) → b < m → d < m → (a * m + b == c * m + d) ≡ ((b == d) && (a == c))
same_places a b c d m p q = elim (eqb_tells b d) [
  | inl low ↦ (elim (eqb_tells a c) [
    | inl high ↦ eq-eqb (a * m + b) (c * m + d) (let e : a * m ≡ c * m = ap (λ t. t * m) high.1 in omega (arith, low.1)) ∙ rw (low.0, high.0) refl
    | inr high ↦ ne_eqb (a * m + b) (c * m + d) (λ e. let r = same_from_place a b c d m p q e in high.1 r.0) ∙ rw (low.0, high.0) refl
  ])
  | inr low ↦ ne_eqb (a * m + b) (c * m + d) (λ e. let r = same_from_place a b c d m p q e in low.1 r.1) ∙ rw (low.0) refl
]

ones_split : (ones : Bool) (n left : ℕ) → n ≤ left → all_ones ones left ≡ all_ones ones (left - n) * 2 ^ n + all_ones ones n
ones_split true n left le =
    let s : left - n + n ≡ left = omega arith in
    let p : 2 ^ left ≡ 2 ^ (left - n) * 2 ^ n = ap (λ k. 2 ^ k) (sym s) ∙ pow-add 2 (left - n) n in
    let a : 0 < 2 ^ (left - n) = pow_pos (left - n) in
    let b : 0 < 2 ^ n = pow_pos n in
    let c : 2 ^ (left - n) ≡ (2 ^ (left - n) - 1) + 1 = omega arith in
    let d : 2 ^ (left - n) * 2 ^ n ≡ ((2 ^ (left - n) - 1) + 1) * 2 ^ n = ap (λ t. t * 2 ^ n) c in
    omega arith
ones_split false n left le = omega arith

ones_fit : (ones : Bool) (n : ℕ) → all_ones ones n < 2 ^ n
ones_fit true n = let p : 0 < 2 ^ n = pow_pos n in omega arith
ones_fit false n = pow_pos n

-- lower digits and higher digits
rest_parts : (ones : Bool) (n left R : ℕ) → n ≤ left → (R == all_ones ones left) ≡ ((R % 2 ^ n == all_ones ones n) && (R / 2 ^ n == all_ones ones (left - n)))
rest_parts ones n left R le =
    ap (λ x. x == all_ones ones left) (sym (div-add-mod' R (2 ^ n)))
    ∙ ap (λ x. (R / 2 ^ n * 2 ^ n + R % 2 ^ n) == x) (ones_split ones n left le)
    ∙ same_places (R / 2 ^ n) (R % 2 ^ n) (all_ones ones (left - n)) (all_ones ones n) (2 ^ n) (mod_below R (2 ^ n) (pow_pos n)) (ones_fit ones n)

pub rest_differs : (ones : Bool) (n left R word wanted : ℕ) → n ≤ left → word ≡ R % 2 ^ n → wanted ≡ all_ones ones n → (word ≡ wanted → ⊥) → (R == all_ones ones left) ≡ false
rest_differs ones n left R word wanted le e f ne =
    rest_parts ones n left R le
    ∙ ap (λ x. x && (R / 2 ^ n == all_ones ones (left - n))) (ne_eqb (R % 2 ^ n) (all_ones ones n) (λ h. ne (e ∙ h ∙ sym f)))

pub rest_goes_on : (ones : Bool) (n left R S word wanted : ℕ) → n ≤ left → word ≡ R % 2 ^ n → S ≡ R / 2 ^ n → wanted ≡ all_ones ones n → word ≡ wanted → (R == all_ones ones left) ≡ (S == all_ones ones (left - n))
rest_goes_on ones n left R S word wanted le e s f same =
    rest_parts ones n left R le
    ∙ ap (λ x. x && (R / 2 ^ n == all_ones ones (left - n))) (eq-eqb (R % 2 ^ n) (all_ones ones n) (sym e ∙ same ∙ f))
    ∙ ap (λ x. x == all_ones ones (left - n)) (sym s)

pub rest_ends : (ones : Bool) (left R : ℕ) → left ≡ 0 → R < 2 ^ left → (R == all_ones ones left) ≡ true
rest_ends true left R e lt =
    let one : 2 ^ left ≡ 1 = ap (λ k. 2 ^ k) e in eq-eqb R (2 ^ left - 1) (omega arith)
rest_ends false left R e lt =
    let one : 2 ^ left ≡ 1 = ap (λ k. 2 ^ k) e in eq-eqb R 0 (omega arith)

pub rest_fits : (n left R S : ℕ) → n ≤ left → R < 2 ^ left → S ≡ R / 2 ^ n → S < 2 ^ (left - n)
rest_fits n left R S le lt e =
    let s : left ≡ left - n + n = omega arith in
    subst (λ (x : ℕ). x < 2 ^ (left - n)) (sym e) (shr_below R (left - n) n (subst (λ (k : ℕ). R < 2 ^ k) s lt))

differ_out : (a b : ℕ) → (a == b) ≡ false → (a ≡ b → ⊥)
differ_out a b h e = let z : true ≡ false = sym (eq-eqb a b e) ∙ h in absurd (cc)

pub is_near : (ones : Bool) (w v n rest word near : ℕ) → v < 2 ^ w → n ≤ w → rest ≡ v / 2 ^ n → word ≡ v % 2 ^ n → near ≡ cond ones (2 ^ n - 1 - word) word
    → (rest == all_ones ones (w - n)) ≡ true → near ≡ cond ones (2 ^ w - 1 - v) v
is_near true w v n rest word near lt le r e f same =
    let s : w - n + n ≡ w = omega arith in
    let p : 2 ^ w ≡ 2 ^ (w - n) * 2 ^ n = ap (λ k. 2 ^ k) (sym s) ∙ pow-add 2 (w - n) n in
    let a : 0 < 2 ^ (w - n) = pow_pos (w - n) in
    let t : rest ≡ 2 ^ (w - n) - 1 = eq_from rest (2 ^ (w - n) - 1) same in
    let u : 2 ^ (w - n) ≡ v / 2 ^ n + 1 = omega arith in
    let d : 2 ^ (w - n) * 2 ^ n ≡ (v / 2 ^ n + 1) * 2 ^ n = ap (λ x. x * 2 ^ n) u in
    let split : v / 2 ^ n * 2 ^ n + v % 2 ^ n ≡ v = div-add-mod' v (2 ^ n) in
    omega arith
is_near false w v n rest word near lt le r e f same =
    let t : v / 2 ^ n ≡ 0 = sym r ∙ eq_from rest 0 same in
    let d : v / 2 ^ n * 2 ^ n ≡ 0 * 2 ^ n = ap (λ x. x * 2 ^ n) t in
    let split : v / 2 ^ n * 2 ^ n + v % 2 ^ n ≡ v = div-add-mod' v (2 ^ n) in
    omega arith

far_away : (ones : Bool) (w v rest : ℕ) → v < 2 ^ w → 64 < w → rest ≡ v / 2 ^ 64 → (rest ≡ all_ones ones (w - 64) → ⊥) → 2 ^ 64 ≤ cond ones (2 ^ w - 1 - v) v
far_away true w v rest lt wide r differ =
    let s : w - 64 + 64 ≡ w = omega arith in
    let p : 2 ^ w ≡ 2 ^ (w - 64) * 2 ^ 64 = ap (λ k. 2 ^ k) (sym s) ∙ pow-add 2 (w - 64) 64 in
    let b : rest < 2 ^ (w - 64) = rest_fits 64 w v rest (omega arith) lt r in
    let split : v / 2 ^ 64 * 2 ^ 64 + v % 2 ^ 64 ≡ v = div-add-mod' v (2 ^ 64) in
    let m : v % 2 ^ 64 < 2 ^ 64 = mod_below v (2 ^ 64) (pow_pos 64) in
    omega arith
far_away false w v rest lt wide r differ =
    let split : v / 2 ^ 64 * 2 ^ 64 + v % 2 ^ 64 ≡ v = div-add-mod' v (2 ^ 64) in
    omega arith

pub is_far : (ones : Bool) (w v n rest : ℕ) → v < 2 ^ w → n ≡ min w 64 → rest ≡ v / 2 ^ n → (rest == all_ones ones (w - n)) ≡ false → 131072 ≡ min (cond ones (2 ^ w - 1 - v) v) farthest
is_far ones w v n rest lt e r differ = elim (cases_lt 64 w) [
  | inl wide ↦
      (let s : n ≡ 64 = omega arith in
      let t : rest ≡ v / 2 ^ 64 = r ∙ ap (λ k. v / 2 ^ k) s in
      let d : rest ≡ all_ones ones (w - 64) → ⊥ = differ_out rest (all_ones ones (w - 64)) (ap (λ k. rest == all_ones ones (w - k)) (sym s) ∙ differ) in
      let f : 2 ^ 64 ≤ cond ones (2 ^ w - 1 - v) v = far_away ones w v rest lt wide t d in
      omega arith)
  | inr narrow ↦
      (let z : w - n ≡ 0 = omega arith in
      let fits : rest < 2 ^ (w - n) = rest_fits n w v rest (omega arith) lt r in
      let same : (rest == all_ones ones (w - n)) ≡ true = rest_ends ones (w - n) rest z fits in
      let c : true ≡ false = sym same ∙ differ in absurd (cc))
]

-- ---- numbers below 0

one_sided : (z : ℤ) → (magnitude z ≡ up z + down z) × ((up z ≡ 0) ⊎ (down z ≡ 0))
one_sided (pos n) = (omega arith, inr refl)
one_sided (negsuc n) = (omega arith, inl refl)

below_magnitude : (v m : ℕ) → v < m → magnitude (pos v -ℤ pos m) ≡ m - v
below_magnitude v m lt =
    let s : up (pos v -ℤ pos m) + m ≡ down (pos v -ℤ pos m) + v = omega (arith, ints) in
    let o = one_sided (pos v -ℤ pos m) in
    elim o.1 [
      | inl a ↦ omega (arith, o.0)
      | inr b ↦ absurd (omega arith)
    ]

below_zero : (v m : ℕ) → v < m → true ≡ int_lt (pos v -ℤ pos m) (pos 0)
below_zero v m lt = omega (arith, ints)

pub negative_amount : (signed : Bool) (w v d by : ℕ) → is_below_zero signed w v ≡ true → v < 2 ^ w → d ≡ min (2 ^ w - 1 - v) farthest → by ≡ min (d + 1) 131072
    → IsAmount (record { negative = true; by = by }) (operand signed w v)
negative_amount signed w v d by h lt e f =
    let z : operand signed w v ≡ pos v -ℤ pos (2 ^ w) = cond-true (is_below_zero signed w v) (pos v -ℤ pos (2 ^ w)) (pos v) h in
    let m : magnitude (pos v -ℤ pos (2 ^ w)) ≡ 2 ^ w - v = below_magnitude v (2 ^ w) lt in
    record {
      negative = below_zero v (2 ^ w) lt ∙ ap (λ t. int_lt t (pos 0)) (sym z);
      by = (let g : by ≡ min (2 ^ w - v) farthest = omega arith in g ∙ ap (λ t. min t farthest) (sym m ∙ ap magnitude (sym z)));
    }

-- ---- of a value S of which T is left

left_number : (n v : ℕ) (S T : BitValue) → S.number ≡ v → T ≡ bit_value (S.width - n) (S.number / 2 ^ n) → T.number ≡ v / 2 ^ n
left_number n v S T s t = ap (λ (x : BitValue). x.number) t ∙ ap (λ x. x / 2 ^ n) s

pub left_fits : (w u v n : ℕ) (S T : BitValue) → w ≡ u → v < 2 ^ u → n ≡ min w 64 → S.number ≡ v → T ≡ bit_value (S.width - n) (S.number / 2 ^ n) → T.number < 2 ^ (w - n)
left_fits w u v n S T we lt e s t =
    rest_fits n w v T.number (omega arith) (subst (λ (k : ℕ). v < 2 ^ k) (sym we) lt) (left_number n v S T s t)

pub left_far : (ones : Bool) (w u v n : ℕ) (S T : BitValue) → w ≡ u → v < 2 ^ u → n ≡ min w 64 → S.number ≡ v → T ≡ bit_value (S.width - n) (S.number / 2 ^ n)
    → (T.number == all_ones ones (w - n)) ≡ false → 131072 ≡ min (cond ones (2 ^ u - 1 - v) v) farthest
left_far ones w u v n S T we lt e s t differ =
    is_far ones w v n T.number (subst (λ (k : ℕ). v < 2 ^ k) (sym we) lt) e (left_number n v S T s t) differ
    ∙ ap (λ k. min (cond ones (2 ^ k - 1 - v) v) farthest) we

pub left_near : (ones : Bool) (w u v n word near capped limit : ℕ) (S T : BitValue) → w ≡ u → v < 2 ^ u → n ≡ min w 64 → S.number ≡ v → T ≡ bit_value (S.width - n) (S.number / 2 ^ n)
    → (T.number == all_ones ones (w - n)) ≡ true → word ≡ S.number % 2 ^ n → near ≡ cond ones (2 ^ n - 1 - word) word → capped ≡ min near limit → limit ≡ 131072
    → capped ≡ min (cond ones (2 ^ u - 1 - v) v) farthest
left_near ones w u v n word near capped limit S T we lt e s t same r f m l =
    m ∙ ap (min near) l
    ∙ ap (λ k. min k farthest) (is_near ones w v n T.number word near (subst (λ (k : ℕ). v < 2 ^ k) (sym we) lt) (omega arith) (left_number n v S T s t) (r ∙ ap (λ x. x % 2 ^ n) s) f same)
    ∙ ap (λ k. min (cond ones (2 ^ k - 1 - v) v) farthest) we
