-- Numbers whose bits are the digits of a constant that pass a test.
use Rattle.std.proofs.Common.{◌≡◌, ℕ, zero, suc, ◌+◌, ◌-◌, ◌*◌, ◌^◌, ◌<◌, ◌≤◌, Bool, true, false, cond, List, [], ◌∷◌, ◌++◌, length, get_or, drop, replicate, refl, sym, ap, ◌∙◌, arith, inl, inr}
use Rattle.std.specs.Int.{bit_at}
use Rattle.std.proofs.lemmas.Bool.Decides.{nat_tests}
use Rattle.std.proofs.lemmas.Bool.{cases_lt, cases_eq}
use Rattle.std.proofs.lemmas.List.{at_drop_more, at_drop_all, length-append, length-drop, length-replicate}
use Rattle.std.proofs.lemmas.Nat.{pow_pos, pow-add}
use Rattle.std.proofs.lemmas.Nat.Bits.{bit_at_cat_low, bit_at_cat_high, bit_at_above, bit_at_ones, bit_at_ones_above, bit_at_lowest, same_from_bits}
use Rattle.std.proofs.Math.Nat.{pow-suc}
use Rattle.sim_base.specs.BitValue.{BitValue, bit_value, digit_after_set, digit_after_copy}
use Rattle.rtlil_lexer.specs.Constants.{number_where, filled, filler}

pub number_cons : (test : ℕ → Bool) (d : ℕ) (ds : List ℕ) → number_where test (d ∷ ds) ≡ cond (test d) (2 ^ length ds) 0 + number_where test ds
unfolding number_where
number_cons test d ds = refl

pub number_nil : (test : ℕ → Bool) → number_where test [] ≡ 0
unfolding number_where
number_nil test = refl

bit_below : (b : Bool) (k n : ℕ) → n < 2 ^ k → cond b (2 ^ k) 0 + n < 2 ^ suc k
bit_below true k n lt = omega (arith, pow-suc 2 k)
bit_below false k n lt = omega (arith, pow-suc 2 k)

pub number_below : (test : ℕ → Bool) (ds : List ℕ) → number_where test ds < 2 ^ length ds
number_below test [] = omega (arith, number_nil test)
number_below test (d ∷ ds) = omega (arith, number_cons test d ds, bit_below (test d) (length ds) (number_where test ds) (number_below test ds))

set_other : (i v old j : ℕ) → (j ≡ i → ⊥) → bit_at old j ≡ digit_after_set i v old j
set_other i v old j ne = grind (arith, nat_tests)

set_same : (i v old j : ℕ) → j ≡ i → v ≡ digit_after_set i v old j
set_same i v old j e = grind (arith, nat_tests)

copy_below : (at v n old j : ℕ) → j < at → bit_at old j ≡ digit_after_copy at v 0 n old j
copy_below at v n old j lt = grind (arith, nat_tests)

copied : (at v n old j : ℕ) → at ≤ j → j < at + n → bit_at v (0 + (j - at)) ≡ digit_after_copy at v 0 n old j
copied at v n old j le lt = grind (arith, nat_tests)

copy_inside : (at v n old j : ℕ) → at ≤ j → j < at + n → bit_at v (j - at) ≡ digit_after_copy at v 0 n old j
copy_inside at v n old j le lt = let z : 0 + (j - at) ≡ j - at = omega arith in ap (bit_at v) (sym z) ∙ copied at v n old j le lt

copy_above : (at v n old j : ℕ) → at + n ≤ j → bit_at old j ≡ digit_after_copy at v 0 n old j
copy_above at v n old j le = grind (arith, nat_tests)

front_bit : (at old j : ℕ) → old < 2 ^ at → bit_at (1 * 2 ^ at + old) j ≡ digit_after_set at 1 old j
front_bit at old j below =
    elim (cases_lt j at) [
      | inl lt ↦ bit_at_cat_low 1 at old j lt ∙ set_other at 1 old j (omega arith)
      | inr le ↦ bit_at_cat_high 1 at old j below le ∙ elim (cases_eq j at) [
        | inl e ↦ (let z : j - at ≡ 0 = omega arith in ap (bit_at 1) z ∙ bit_at_lowest 1 ∙ set_same at 1 old j e)
        | inr ne ↦ bit_at_above 1 1 (j - at) (omega arith) (omega arith) ∙ sym (bit_at_above old at j below le) ∙ set_other at 1 old j ne
      ]
    ]

ones_bit : (at n old j : ℕ) → n ≤ 64 → old < 2 ^ at → bit_at ((2 ^ n - 1) * 2 ^ at + old) j ≡ digit_after_copy at (2 ^ 64 - 1) 0 n old j
ones_bit at n old j small below =
    elim (cases_lt j at) [
      | inl lt ↦ bit_at_cat_low (2 ^ n - 1) at old j lt ∙ copy_below at (2 ^ 64 - 1) n old j lt
      | inr le ↦ bit_at_cat_high (2 ^ n - 1) at old j below le ∙ elim (cases_lt j (at + n)) [
        | inl lt ↦ bit_at_ones n (j - at) (omega arith) ∙ sym (bit_at_ones 64 (j - at) (omega arith)) ∙ copy_inside at (2 ^ 64 - 1) n old j le lt
        | inr over ↦ bit_at_ones_above n (j - at) (omega arith) ∙ sym (bit_at_above old at j below le) ∙ copy_above at (2 ^ 64 - 1) n old j over
      ]
    ]

ones_sum : (a n old new top : ℕ) → 0 < n → new ≡ (n - 1) * a + old → top ≡ a * n → new + a ≡ top + old
ones_sum a zero old new top some e t = absurd (omega arith)
ones_sum a (suc n) old new top some e t = let z : suc n - 1 ≡ n = omega arith in omega (arith, ap (λ m. m * a) z)

the_next : (n k : ℕ) → suc n + k ≡ suc (n + k)
the_next n k = omega arith

-- the digit 1 in front of a number of so many digits
pub set_front : (at old new : ℕ) → old < 2 ^ at → ((j : ℕ) → bit_at new j ≡ digit_after_set at 1 old j) → new ≡ 2 ^ at + old
set_front at old new below bits =
    let same : 1 * 2 ^ at + old ≡ 2 ^ at + old = omega arith in
    same_from_bits new (1 * 2 ^ at + old) (λ j. bits j ∙ sym (front_bit at old j below)) ∙ same

-- ones in front of a number of so many digits
pub set_ones : (at n old new : ℕ) → n ≤ 64 → old < 2 ^ at → ((j : ℕ) → bit_at new j ≡ digit_after_copy at (2 ^ 64 - 1) 0 n old j) → new + 2 ^ at ≡ 2 ^ (at + n) + old
set_ones at n old new le below bits =
    let e : new ≡ (2 ^ n - 1) * 2 ^ at + old = same_from_bits new ((2 ^ n - 1) * 2 ^ at + old) (λ j. bits j ∙ sym (ones_bit at n old j le below)) in
    let p : 2 ^ (at + n) ≡ 2 ^ at * 2 ^ n = pow-add 2 at n in
    let some : 0 < 2 ^ n = pow_pos n in
    ones_sum (2 ^ at) (2 ^ n) old new (2 ^ (at + n)) some e p

-- one digit more in front
pub written_more : (test : ℕ → Bool) (digits : List ℕ) (at : ℕ) → at < length digits → number_where test (drop (length digits - (at + 1)) digits) ≡ cond (test (get_or digits (length digits - 1 - at) 0)) (2 ^ at) 0 + number_where test (drop (length digits - at) digits)
written_more test digits at lt =
    let k = length digits - (at + 1) in
    let inside : k < length digits = omega arith in
    let next : k + 1 ≡ length digits - at = omega arith in
    let last : k ≡ length digits - 1 - at = omega arith in
    let rest : length (drop (length digits - at) digits) ≡ at = omega (arith, length-drop (length digits - at) digits) in
    at_drop_more (number_where test) digits k 0 inside
    ∙ number_cons test (get_or digits k 0) (drop (k + 1) digits)
    ∙ ap (λ m. cond (test (get_or digits k 0)) (2 ^ length (drop m digits)) 0 + number_where test (drop m digits)) next
    ∙ ap (λ m. cond (test (get_or digits m 0)) (2 ^ length (drop (length digits - at) digits)) 0 + number_where test (drop (length digits - at) digits)) last
    ∙ ap (λ m. cond (test (get_or digits (length digits - 1 - at) 0)) (2 ^ m) 0 + number_where test (drop (length digits - at) digits)) rest

pub written_none : (test : ℕ → Bool) (digits : List ℕ) → number_where test (drop (length digits - 0) digits) ≡ 0
written_none test digits = at_drop_all (number_where test) digits (length digits - 0) (omega arith) ∙ number_nil test

pub written_below : (test : ℕ → Bool) (digits : List ℕ) (at : ℕ) → at ≤ length digits → number_where test (drop (length digits - at) digits) < 2 ^ at
written_below test digits at le =
    let rest : length (drop (length digits - at) digits) ≡ at = omega (arith, length-drop (length digits - at) digits) in
    let p : 2 ^ length (drop (length digits - at) digits) ≡ 2 ^ at = ap (λ m. 2 ^ m) rest in
    omega (arith, number_below test (drop (length digits - at) digits))

-- digits that do not pass change nothing in front
pub filled_off : (test : ℕ → Bool) (n d : ℕ) (ds : List ℕ) → test d ≡ false → number_where test (replicate n d ++ ds) ≡ number_where test ds
filled_off test zero d ds off = refl
filled_off test (suc n) d ds off =
    number_cons test d (replicate n d ++ ds)
    ∙ ap (λ b. cond b (2 ^ length (replicate n d ++ ds)) 0 + number_where test (replicate n d ++ ds)) off
    ∙ omega (arith, filled_off test n d ds off)

-- digits that pass are ones in front
pub filled_on : (test : ℕ → Bool) (n d : ℕ) (ds : List ℕ) → test d ≡ true → number_where test (replicate n d ++ ds) + 2 ^ length ds ≡ 2 ^ (n + length ds) + number_where test ds
filled_on test zero d ds on = let z : 0 + length ds ≡ length ds = omega arith in rw z (omega arith)
filled_on test (suc n) d ds on =
    let size : length (replicate n d ++ ds) ≡ n + length ds = length-append (replicate n d) ds ∙ ap (λ m. m + length ds) (length-replicate n d) in
    let step : number_where test (d ∷ replicate n d ++ ds) ≡ 2 ^ (n + length ds) + number_where test (replicate n d ++ ds) =
    number_cons test d (replicate n d ++ ds)
    ∙ ap (λ b. cond b (2 ^ length (replicate n d ++ ds)) 0 + number_where test (replicate n d ++ ds)) on
    ∙ ap (λ m. 2 ^ m + number_where test (replicate n d ++ ds)) size in
    let more : 2 ^ (suc n + length ds) ≡ 2 ^ (n + length ds) * 2 = ap (λ m. 2 ^ m) (the_next n (length ds)) ∙ pow-suc 2 (n + length ds) in
    omega (arith, filled_on test n d ds on)

-- a digit is written that passes, or one that does not
pub written_one : (test : ℕ → Bool) (digits : List ℕ) (at old new : ℕ) → at < length digits → test (get_or digits (length digits - 1 - at) 0) ≡ true → old ≡ number_where test (drop (length digits - at) digits) → ((j : ℕ) → bit_at new j ≡ digit_after_set at 1 old j) → new ≡ number_where test (drop (length digits - (at + 1)) digits)
written_one test digits at old new lt on is bits =
    let below : old < 2 ^ at = omega (arith, written_below test digits at (omega arith)) in
    set_front at old new below bits
    ∙ ap (λ n. 2 ^ at + n) is
    ∙ sym (written_more test digits at lt ∙ ap (λ b. cond b (2 ^ at) 0 + number_where test (drop (length digits - at) digits)) on)

pub written_zero : (test : ℕ → Bool) (digits : List ℕ) (at old : ℕ) → at < length digits → test (get_or digits (length digits - 1 - at) 0) ≡ false → old ≡ number_where test (drop (length digits - at) digits) → old ≡ number_where test (drop (length digits - (at + 1)) digits)
written_zero test digits at old lt off is =
    let z : old ≡ 0 + old = omega arith in
    z ∙ ap (λ n. 0 + n) is
    ∙ sym (written_more test digits at lt ∙ ap (λ b. cond b (2 ^ at) 0 + number_where test (drop (length digits - at) digits)) off)

same_value : (b : BitValue) (width number : ℕ) → b.width ≡ width → b.number ≡ number → b ≡ bit_value width number
same_value b width number e f = ap (λ w. bit_value w b.number) e ∙ ap (bit_value width) f

-- the digits that are missing are ones, or zeros
pub whole_on : (test : ℕ → Bool) (width old : ℕ) (digits : List ℕ) (b : BitValue) → length digits ≤ width → test (filler digits) ≡ true → old ≡ number_where test digits → b.width ≡ width → b.number + 2 ^ length digits ≡ 2 ^ width + old → b ≡ bit_value width (number_where test (filled width digits))
whole_on test width old digits b le on is w sum =
    let top : 2 ^ (width - length digits + length digits) ≡ 2 ^ width = (let e : width - length digits + length digits ≡ width = omega arith in ap (λ m. 2 ^ m) e) in
    same_value b width (number_where test (filled width digits)) w (omega (arith, filled_on test (width - length digits) (filler digits) digits on))

pub whole_off : (test : ℕ → Bool) (width : ℕ) (digits : List ℕ) (b : BitValue) → test (filler digits) ≡ false → b.width ≡ width → b.number ≡ number_where test digits → b ≡ bit_value width (number_where test (filled width digits))
whole_off test width digits b off w is =
    same_value b width (number_where test (filled width digits)) w (is ∙ sym (filled_off test (width - length digits) (filler digits) digits off))
