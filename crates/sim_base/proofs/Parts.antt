-- A number in parts of one width.
use Rattle.std.proofs.Common.{◌≡◌, ℕ, zero, suc, ◌+◌, ◌-◌, ◌*◌, ◌/◌, ◌%◌, ◌^◌, ◌<◌, ◌≤◌, length, get_or, slice_get, Some, refl, sym, ◌∙◌, ap, subst, arith}
use Rattle.std.specs.Int.{bit_at}
use Rattle.std.proofs.Math.Nat.{mod-eq_of_lt}
use Rattle.std.proofs.lemmas.Nat.{shr-shr, shr_high, mod-pow-add, mod_below, pow_pos}
use Rattle.std.proofs.lemmas.Option.{slice_get-get_or}
use Rattle.std.proofs.lemmas.Nat.Bits.{same_from_bits_below, bit_at_cat_low}
use Rattle.sim_base.specs.BitValue.{BitValue, bit_value, digit_after_copy}
use Rattle.sim_base.specs.Parts.{number_of_parts, parts}
use Rattle.sim_base.proofs.Field.{bit_at_mod, bit_at_shr}
use Rattle.sim_base.proofs.Words.{copied_in}

pub length-parts : (width count n : ℕ) → length (parts width count n) ≡ count
unfolding parts
length-parts width zero n = refl
length-parts width (suc count) n = let e : length (parts width count (n / 2 ^ width)) ≡ count = length-parts width count (n / 2 ^ width) in omega arith

-- a part is a field of the number
pub part_at : (width count n i : ℕ) → i < count → get_or (parts width count n) i 0 ≡ n / 2 ^ (i * width) % 2 ^ width
unfolding parts
part_at width zero n i lt = absurd (omega arith)
part_at width (suc count) n zero lt = let z : 0 * width ≡ 0 = omega arith in rw z (let e : n / 2 ^ 0 ≡ n = omega arith in rw e refl)
part_at width (suc count) n (suc i) lt =
    let e : suc i * width ≡ width + i * width = omega arith in
    part_at width count (n / 2 ^ width) i (omega arith) ∙ ap (λ m. m % 2 ^ width) (shr-shr n width (i * width) ∙ ap (λ m. n / 2 ^ m) (sym e))

pub part_below : (width count n i : ℕ) → get_or (parts width count n) i 0 < 2 ^ width
unfolding parts
part_below width zero n i = pow_pos width
part_below width (suc count) n zero = mod_below n (2 ^ width) (pow_pos width)
part_below width (suc count) n (suc i) = part_below width count (n / 2 ^ width) i

pub parts_make : (width count n : ℕ) → number_of_parts width (parts width count n) ≡ n % 2 ^ (count * width)
unfolding parts number_of_parts
parts_make width zero n = let z : 0 * width ≡ 0 = omega arith in rw z (let e : n % 2 ^ 0 ≡ 0 = omega arith in sym e)
parts_make width (suc count) n =
    let e : suc count * width ≡ count * width + width = omega arith in
    ap (λ m. m * 2 ^ width + n % 2 ^ width) (parts_make width count (n / 2 ^ width)) ∙ sym (mod-pow-add n (count * width) width) ∙ ap (λ m. n % 2 ^ m) (sym e)

-- a value whose digits are copied from a place on
pub part_is : (from at width old : ℕ) (new : BitValue) → new.width ≡ width → new.number < 2 ^ new.width → ((j : ℕ) → bit_at new.number j ≡ digit_after_copy 0 from at width old j)
    → new ≡ bit_value width (from / 2 ^ at % 2 ^ width)
part_is from at width old new same below bits =
    let under : new.number < 2 ^ width = subst (λ w. new.number < 2 ^ w) same below in
    let number : new.number ≡ from / 2 ^ at % 2 ^ width =
    same_from_bits_below width new.number (from / 2 ^ at % 2 ^ width) under (mod_below (from / 2 ^ at) (2 ^ width) (pow_pos width))
    (λ j lt. let z : at + (j - 0) ≡ at + j = omega arith in
    bits j ∙ copied_in 0 from at width old j (omega arith) (omega arith) ∙ ap (bit_at from) z
    ∙ sym (bit_at_mod (from / 2 ^ at) width j lt ∙ bit_at_shr from at j)) in
    ap (λ w. bit_value w new.number) same ∙ ap (bit_value width) number

pub part_listed : (width count n i part : ℕ) → i < count → part ≡ n / 2 ^ (i * width) % 2 ^ width → slice_get (parts width count n) i ≡ Some part
part_listed width count n i part lt is =
    slice_get-get_or (parts width count n) i 0 (omega (arith, lt, length-parts width count n)) ∙ ap (λ p. Some p) (part_at width count n i lt ∙ sym is)

-- ---- fields of numbers

pub whole_field : (x w : ℕ) → x < 2 ^ w → x / 2 ^ 0 % 2 ^ w ≡ x
whole_field x w lt = let e : x / 2 ^ 0 ≡ x = omega arith in ap (λ n. n % 2 ^ w) e ∙ mod-eq_of_lt lt

-- a field of a field
pub field_of_field : (x f w a n : ℕ) → a + n ≤ w → x / 2 ^ f % 2 ^ w / 2 ^ a % 2 ^ n ≡ x / 2 ^ (f + a) % 2 ^ n
field_of_field x f w a n le =
    same_from_bits_below n (x / 2 ^ f % 2 ^ w / 2 ^ a % 2 ^ n) (x / 2 ^ (f + a) % 2 ^ n)
    (mod_below (x / 2 ^ f % 2 ^ w / 2 ^ a) (2 ^ n) (pow_pos n)) (mod_below (x / 2 ^ (f + a)) (2 ^ n) (pow_pos n))
    (λ j lt.
    let z : f + (a + j) ≡ f + a + j = omega arith in
    bit_at_mod (x / 2 ^ f % 2 ^ w / 2 ^ a) n j lt ∙ bit_at_shr (x / 2 ^ f % 2 ^ w) a j ∙ bit_at_mod (x / 2 ^ f) w (a + j) (omega arith)
    ∙ bit_at_shr x f (a + j) ∙ ap (bit_at x) z
    ∙ sym (bit_at_mod (x / 2 ^ (f + a)) n j lt ∙ bit_at_shr x (f + a) j))

-- a field that lies in the low part
pub low_field : (s w p at k : ℕ) → at + k ≤ w → (s * 2 ^ w + p) / 2 ^ at % 2 ^ k ≡ p / 2 ^ at % 2 ^ k
low_field s w p at k le =
    same_from_bits_below k ((s * 2 ^ w + p) / 2 ^ at % 2 ^ k) (p / 2 ^ at % 2 ^ k)
    (mod_below ((s * 2 ^ w + p) / 2 ^ at) (2 ^ k) (pow_pos k)) (mod_below (p / 2 ^ at) (2 ^ k) (pow_pos k))
    (λ j lt.
    bit_at_mod ((s * 2 ^ w + p) / 2 ^ at) k j lt ∙ bit_at_shr (s * 2 ^ w + p) at j ∙ bit_at_cat_low s w p (at + j) (omega arith)
    ∙ sym (bit_at_mod (p / 2 ^ at) k j lt ∙ bit_at_shr p at j))

-- what stands above the low part
pub high_part : (s w p at k : ℕ) → p < 2 ^ w → at + k ≡ w → (s * 2 ^ w + p) / 2 ^ at / 2 ^ k ≡ s
high_part s w p at k lt e = shr-shr (s * 2 ^ w + p) at k ∙ ap (λ n. (s * 2 ^ w + p) / 2 ^ n) e ∙ shr_high s w p lt
