-- Values of bits in hexadecimal digits.
use Rattle.std.proofs.Common.{◌≡◌, ℕ, zero, suc, ◌+◌, ◌-◌, ◌*◌, ◌/◌, ◌%◌, ◌^◌, ◌<◌, ◌≤◌, Bool, true, false, cond, nat_lt, min, List, [], ◌∷◌, length, get_or, drop, Option, Some, None, refl, sym, ap, ◌∙◌, arith, inl, inr}
use Rattle.std.specs.Char.{digit_value}
use Rattle.std.specs.Int.{bit_at}
use Rattle.std.specs.Option.{option_and_then, IsSome, is_some}
use Rattle.std.proofs.lemmas.Bool.Decides.{nat_tests}
use Rattle.std.proofs.lemmas.Bool.{cases_lt, cases_eq, ltb-true, lt-ltb, le-ltb, cond-true, cond-false, false≢true}
use Rattle.std.proofs.lemmas.List.{at_drop_more, at_drop_all, length-drop}
use Rattle.std.proofs.lemmas.Nat.{shr_below, pow-add, one_shl, mul-le}
use Rattle.std.proofs.lemmas.Nat.Bits.{same_from_bits, bit_at_cat_low, bit_at_cat_high, bit_at_above}
use Rattle.std.proofs.Math.Nat.{pow-suc, mod-eq_of_lt, div-eq_of_lt, pow-le-pow_right, zero-mul}
use Rattle.sim_base.specs.Digits.{hexadecimal_after, hexadecimal_number}
use Rattle.sim_base.specs.BitValue.{bit_value, hexadecimal_value, digit_after_copy}
use Rattle.sim_base.proofs.Numerals.{if_some}
use Rattle.sim_base.proofs.Words.{copied_in, copied_below, copied_above}

pub sixteen : (place : ℕ) → 16 ^ place ≡ 2 ^ (4 * place)
sixteen zero = refl
sixteen (suc place) =
    let e : 4 * suc place ≡ 4 * place + 4 = omega arith in
    pow-suc 16 place ∙ ap (λ n. n * 16) (sixteen place) ∙ sym (ap (λ k. 2 ^ k) e ∙ pow-add 2 (4 * place) 4)

pow_le : (i j : ℕ) → i ≤ j → 2 ^ i ≤ 2 ^ j
pow_le i j le = pow-le-pow_right {n = 2} (omega arith) {i = i} {j = j} le

-- the digits of a value above its width are 0
pub digit_above : (n width place : ℕ) → n < 2 ^ width → min 4 (width - 4 * place) ≡ 0 → n / 16 ^ place % 16 ≡ 0
digit_above n width place below none =
    let le = pow_le width (4 * place) (omega arith) in
    let small : n < 2 ^ (4 * place) = omega arith in
    ap (λ k. n / k % 16) (sixteen place) ∙ ap (λ k. k % 16) (div-eq_of_lt small)

-- a digit of a value is read within its width
pub digit_within : (n width place : ℕ) → n < 2 ^ width → n / 2 ^ (4 * place) % 2 ^ min 4 (width - 4 * place) ≡ n / 16 ^ place % 16
digit_within n width place below =
    elim (cases_lt (width - 4 * place) 4) [
      | inl few ↦
          (let le = pow_le width (width - 4 * place + 4 * place) (omega arith) in
          let small : n / 2 ^ (4 * place) < 2 ^ (width - 4 * place) = shr_below n (width - 4 * place) (4 * place) (omega arith) in
          let sixteenth = pow_le (width - 4 * place) 4 (omega arith) in
          let room : min 4 (width - 4 * place) ≡ width - 4 * place = omega arith in
          ap (λ k. n / 2 ^ (4 * place) % 2 ^ k) room ∙ mod-eq_of_lt small ∙ sym (mod-eq_of_lt {n = n / 2 ^ (4 * place)} {m = 16} (omega arith)) ∙ ap (λ k. n / k % 16) (sym (sixteen place)))
      | inr all ↦
          (let room : min 4 (width - 4 * place) ≡ 4 = omega arith in
          ap (λ k. n / 2 ^ (4 * place) % 2 ^ k) room ∙ ap (λ k. n / k % 16) (sym (sixteen place)))
    ]

turned : (f p : ℕ) → f * 16 * p ≡ f * (p * 16)
turned f p = grind arith

one_more : (d p : ℕ) → (d + 1) * p ≡ d * p + p
one_more d p = grind arith

-- what is read on from f + g is f times a power of 16 above what is read on from g
after_shift : (f g n : ℕ) (text : List ℕ) → hexadecimal_after g text ≡ Some n → hexadecimal_after (f + g) text ≡ Some (f * 16 ^ length text + n)
unfolding hexadecimal_after
after_shift f g n [] e = let s : g ≡ n = cc in ap Some (omega arith)
after_shift f g n (c ∷ cs) e =
    let h = if_some (nat_lt (digit_value c) 16) (hexadecimal_after (g * 16 + digit_value c) cs) n e in
    let a : (f + g) * 16 + digit_value c ≡ f * 16 + (g * 16 + digit_value c) = omega arith in
    ap (λ b. cond b (hexadecimal_after ((f + g) * 16 + digit_value c) cs) None) h.0 ∙ ap (λ k. hexadecimal_after k cs) a
    ∙ after_shift (f * 16) (g * 16 + digit_value c) n cs h.1
    ∙ ap (λ k. Some (k + n)) (turned f (16 ^ length cs) ∙ ap (λ k. f * k) (sym (pow-suc 16 (length cs))))

-- a bound on what is read
after_below : (g n : ℕ) (text : List ℕ) → hexadecimal_after g text ≡ Some n → n < (g + 1) * 16 ^ length text
unfolding hexadecimal_after
after_below g n [] e = let s : g ≡ n = cc in omega arith
after_below g n (c ∷ cs) e =
    let h = if_some (nat_lt (digit_value c) 16) (hexadecimal_after (g * 16 + digit_value c) cs) n e in
    let below = after_below (g * 16 + digit_value c) n cs h.1 in
    let small : digit_value c < 16 = ltb-true (digit_value c) 16 h.0 in
    let more = mul-le (g * 16 + digit_value c + 1) (16 ^ length cs) ((g + 1) * 16) (16 ^ length cs) (omega arith) (omega arith) in
    let t = turned (g + 1) (16 ^ length cs) ∙ ap (λ k. (g + 1) * k) (sym (pow-suc 16 (length cs))) in
    omega arith

-- what is read of the rest is no more than what is read of all
after_rest : (f n m : ℕ) (text : List ℕ) (k : ℕ) → hexadecimal_after f text ≡ Some n → hexadecimal_after 0 (drop k text) ≡ Some m → m ≤ n
unfolding hexadecimal_after
after_rest f n m text zero e r =
    let a : f + 0 ≡ f = omega arith in
    let s : ◌≡◌ {A = Option ℕ} (Some (f * 16 ^ length text + m)) (Some n) = sym (after_shift f 0 m text r) ∙ ap (λ g. hexadecimal_after g text) a ∙ e in
    let t : f * 16 ^ length text + m ≡ n = cc in
    omega arith
after_rest f n m [] (suc k) e r = let t : 0 ≡ m = cc in omega arith
after_rest f n m (c ∷ cs) (suc k) e r =
    after_rest (f * 16 + digit_value c) n m cs k (if_some (nat_lt (digit_value c) 16) (hexadecimal_after (f * 16 + digit_value c) cs) n e).1 r

cond_none : (b : Bool) (o : Option ℕ) → o ≡ None → cond b o None ≡ None
cond_none true o e = e
cond_none false o e = refl

-- a text with another character is no number
after_none : (f : ℕ) (text : List ℕ) (k : ℕ) → k < length text → nat_lt (digit_value (get_or text k 0)) 16 ≡ false → hexadecimal_after f text ≡ None
unfolding hexadecimal_after
after_none f [] k lt other = absurd (omega arith)
after_none f (c ∷ cs) zero lt other = ap (λ b. cond b (hexadecimal_after (f * 16 + digit_value c) cs) None) other
after_none f (c ∷ cs) (suc k) lt other = cond_none (nat_lt (digit_value c) 16) (hexadecimal_after (f * 16 + digit_value c) cs) (after_none (f * 16 + digit_value c) cs k (omega arith) other)

-- one digit more is read
pub after_more : (n at : ℕ) (text : List ℕ) → 0 < at → at ≤ length text → digit_value (get_or text (at - 1) 0) < 16 → hexadecimal_after 0 (drop at text) ≡ Some n → hexadecimal_after 0 (drop (at - 1) text) ≡ Some (digit_value (get_or text (at - 1) 0) * 16 ^ (length text - at) + n)
unfolding hexadecimal_after
after_more n at text pos le digit e =
    let d = digit_value (get_or text (at - 1) 0) in
    let k : at - 1 + 1 ≡ at = omega arith in
    let is : nat_lt d 16 ≡ true = grind (arith, nat_tests) in
    let front : 0 * 16 + d ≡ d + 0 = omega arith in
    at_drop_more (hexadecimal_after 0) text (at - 1) 0 (omega arith)
    ∙ ap (λ b. cond b (hexadecimal_after (0 * 16 + d) (drop (at - 1 + 1) text)) None) is
    ∙ ap (λ j. hexadecimal_after (0 * 16 + d) (drop j text)) k
    ∙ ap (λ f. hexadecimal_after f (drop at text)) front
    ∙ after_shift d 0 n (drop at text) e
    ∙ ap (λ l. Some (d * 16 ^ l + n)) (length-drop at text)

pub rest_below : (n at : ℕ) (text : List ℕ) → hexadecimal_after 0 (drop at text) ≡ Some n → n < 16 ^ (length text - at)
rest_below n at text e =
    let below = after_below 0 n (drop at text) e in
    let l = ap (λ k. 16 ^ k) (length-drop at text) in
    omega arith

pub rest_none : (text : List ℕ) → hexadecimal_after 0 (drop (length text) text) ≡ Some 0
unfolding hexadecimal_after
rest_none text = at_drop_all (hexadecimal_after 0) text (length text) (omega arith)

-- a digit that fits its place leaves the number below
pub term_below : (d n width place : ℕ) → d < 2 ^ (width - 4 * place) → n < 2 ^ width → n < 16 ^ place → d * 16 ^ place + n < 2 ^ width
term_below d n width place fits small low = elim (cases_lt width (4 * place)) [
  | inl over ↦
      (let z : width - 4 * place ≡ 0 = omega arith in
      let one = ap (λ k. 2 ^ k) z in
      let none : d ≡ 0 = omega arith in
      let term = ap (λ k. k * 16 ^ place) none ∙ zero-mul (16 ^ place) in
      omega arith)
  | inr in' ↦
      (let all : width - 4 * place + 4 * place ≡ width = omega arith in
      let split = sym (ap (λ k. 2 ^ k) all) ∙ pow-add 2 (width - 4 * place) (4 * place) in
      let s = sixteen place in
      let more = mul-le (d + 1) (16 ^ place) (2 ^ (width - 4 * place)) (2 ^ (4 * place)) (omega arith) (omega arith) in
      let t = one_more d (16 ^ place) in
      omega arith)
]

-- one that doesn't fit lifts it above
pub term_above : (d width place : ℕ) → 2 ^ (width - 4 * place) ≤ d → 2 ^ width ≤ d * 16 ^ place
term_above d width place over =
    let le = pow_le width (width - 4 * place + 4 * place) (omega arith) in
    let split = pow-add 2 (width - 4 * place) (4 * place) in
    let more = mul-le (2 ^ (width - 4 * place)) (2 ^ (4 * place)) d (2 ^ (4 * place)) over (omega arith) in
    let s = ap (λ k. d * k) (sixteen place) in
    omega arith

-- the same of a digit, where as many bits are left as stand within the width
pub digit_fits : (d room above : ℕ) → room ≡ min 4 above → d < 1 * 2 ^ room % 2 ^ 64 → (d < 16) × (d < 2 ^ above)
digit_fits d room above is lt =
    let one = one_shl room 64 (omega arith) in
    let most = pow_le room 4 (omega arith) in
    let le = pow_le room above (omega arith) in
    (omega arith, omega arith)

digit_exceeds : (d room above : ℕ) → room ≡ min 4 above → d < 16 → 1 * 2 ^ room % 2 ^ 64 ≤ d → 2 ^ above ≤ d
digit_exceeds d room above is digit le =
    let one = one_shl room 64 (omega arith) in
    elim (cases_lt above 4) [
      | inl few ↦ (let e : room ≡ above = omega arith in let p = ap (λ k. 2 ^ k) e in omega arith)
      | inr all ↦ (let e : room ≡ 4 = omega arith in let p = ap (λ k. 2 ^ k) e in absurd (omega arith))
    ]

number_is : (text : List ℕ) → 1 ≤ length text → hexadecimal_number text ≡ hexadecimal_after 0 text
unfolding hexadecimal_number
number_is text some = grind (arith, nat_tests)

number_none : (text : List ℕ) → length text ≡ 0 → hexadecimal_number text ≡ None
unfolding hexadecimal_number
number_none text none = grind (arith, nat_tests)

-- a number that is too large stands for no value
too_large : (width : ℕ) (o : Option ℕ) → ((n : ℕ) → o ≡ Some n → 2 ^ width ≤ n) → option_and_then (λ n. cond (nat_lt n (2 ^ width)) (Some (bit_value width n)) None) o ≡ None
too_large width None h = refl
too_large width (Some n) h = cond-false (nat_lt n (2 ^ width)) (Some (bit_value width n)) None (le-ltb n (2 ^ width) (h n refl))

value_above : (width : ℕ) (text : List ℕ) → 1 ≤ length text → ((n : ℕ) → hexadecimal_after 0 text ≡ Some n → 2 ^ width ≤ n) → hexadecimal_value width text ≡ None
value_above width text some h = too_large width (hexadecimal_number text) (λ n e. h n (sym (number_is text some) ∙ e))

pub value_empty : (width : ℕ) (text : List ℕ) → length text ≡ 0 → hexadecimal_value width text ≡ None
value_empty width text none = too_large width (hexadecimal_number text) (λ n e. let f : ◌≡◌ {A = Option ℕ} None (Some n) = sym (number_none text none) ∙ e in cc)

pub value_is : (width n : ℕ) (text : List ℕ) → 1 ≤ length text → hexadecimal_after 0 text ≡ Some n → n < 2 ^ width → hexadecimal_value width text ≡ Some (bit_value width n)
value_is width n text some e below =
    ap (option_and_then (λ n. cond (nat_lt n (2 ^ width)) (Some (bit_value width n)) None)) (number_is text some ∙ e)
    ∙ cond-true (nat_lt n (2 ^ width)) (Some (bit_value width n)) None (lt-ltb n (2 ^ width) below)

-- a text with another character stands for no value
pub value_other : (width at : ℕ) (text : List ℕ) → at < length text → 16 ≤ digit_value (get_or text at 0) → hexadecimal_value width text ≡ None
value_other width at text lt other =
    let none = after_none 0 text at lt (le-ltb (digit_value (get_or text at 0)) 16 other) in
    value_above width text (omega arith) (λ n e. let f : ◌≡◌ {A = Option ℕ} None (Some n) = sym none ∙ e in cc)

-- a text whose rest is too large stands for no value
pub value_rest : (width m at : ℕ) (text : List ℕ) → at < length text → hexadecimal_after 0 (drop at text) ≡ Some m → 2 ^ width ≤ m → hexadecimal_value width text ≡ None
value_rest width m at text lt rest large =
    value_above width text (omega arith) (λ n e. let le = after_rest 0 n m text at e rest in omega arith)

-- a text with a digit that is not within its place stands for no value
pub value_exceeds : (width room n at : ℕ) (text : List ℕ) → 0 < at → at ≤ length text → hexadecimal_after 0 (drop at text) ≡ Some n → room ≡ min 4 (width - 4 * (length text - at)) → 1 * 2 ^ room % 2 ^ 64 ≤ digit_value (get_or text (at - 1) 0) → hexadecimal_value width text ≡ None
value_exceeds width room n at text pos le read is exceeds =
    let d = digit_value (get_or text (at - 1) 0) in
    elim (cases_lt d 16) [
      | inl digit ↦
          (let large = term_above d width (length text - at) (digit_exceeds d room (width - 4 * (length text - at)) is digit exceeds) in
          value_rest width (d * 16 ^ (length text - at) + n) (at - 1) text (omega arith) (after_more n at text pos le digit read) (omega arith))
      | inr other ↦ value_other width (at - 1) text (omega arith) other
    ]

held : (width : ℕ) (o : Option ℕ) → IsSome (option_and_then (λ n. cond (nat_lt n (2 ^ width)) (Some (bit_value width n)) None) o) → (n : ℕ) × (o ≡ Some n) × (n < 2 ^ width)
held width None some = absurd (false≢true some)
held width (Some n) some = (
  n,
  refl,
  elim (cases_lt n (2 ^ width)) [
    | inl lt ↦ lt
    | inr le ↦ absurd (false≢true (sym (ap is_some (cond-false (nat_lt n (2 ^ width)) (Some (bit_value width n)) None (le-ltb n (2 ^ width) le))) ∙ some))
  ],
)

-- the number of a text that stands for a value
pub held_number : (width : ℕ) (text : List ℕ) → IsSome (hexadecimal_value width text) → (n : ℕ) × (1 ≤ length text) × (hexadecimal_after 0 text ≡ Some n) × (n < 2 ^ width)
held_number width text some =
    let h = held width (hexadecimal_number text) some in
    elim (cases_eq (length text) 0) [
      | inl none ↦ (let f : ◌≡◌ {A = Option ℕ} None (Some h.0) = sym (number_none text none) ∙ h.1 in cc)
      | inr other ↦ (h.0, omega arith, sym (number_is text (omega arith)) ∙ h.1, h.2)
    ]

min_few : (a b : ℕ) → b < a → min a b ≡ b
min_few a b lt = omega arith

min_all : (a b : ℕ) → a ≤ b → min a b ≡ a
min_all a b le = omega arith

-- each of its digits is within its place
pub held_digit : (width m at : ℕ) (text : List ℕ) → IsSome (hexadecimal_value width text) → 0 < at → at ≤ length text → hexadecimal_after 0 (drop at text) ≡ Some m → (digit_value (get_or text (at - 1) 0) < 2 ^ min 4 (width - 4 * (length text - at))) × (hexadecimal_after 0 (drop (at - 1) text) ≡ Some (digit_value (get_or text (at - 1) 0) * 16 ^ (length text - at) + m))
held_digit width m at text some pos le read =
    let d = digit_value (get_or text (at - 1) 0) in
    let h = held_number width text some in
    let small : d < 16 = elim (cases_lt d 16) [
      | inl digit ↦ digit
      | inr other ↦ absurd (false≢true (sym (ap is_some (value_other width (at - 1) text (omega arith) other)) ∙ some))
    ] in
    let more = after_more m at text pos le small read in
    let rest = after_rest 0 h.0 (d * 16 ^ (length text - at) + m) text (at - 1) h.2 more in (
      elim (cases_lt (width - 4 * (length text - at)) 4) [
        | inl few ↦
            (let p = ap (λ k. 2 ^ k) (min_few 4 (width - 4 * (length text - at)) few) in
            elim (cases_lt d (2 ^ (width - 4 * (length text - at)))) [
              | inl fits ↦ omega arith
              | inr over ↦ (let large = term_above d width (length text - at) over in absurd (omega (arith, h.3)))
            ])
        | inr all ↦ (let p = ap (λ k. 2 ^ k) (min_all 4 (width - 4 * (length text - at)) all) in omega arith)
      ],
      more,
    )

-- a digit is put at its place
pub put_term : (d old new place room : ℕ) → old < 16 ^ place → d < 2 ^ room → ((j : ℕ) → bit_at new j ≡ digit_after_copy (4 * place) d 0 room old j) → new ≡ d * 16 ^ place + old
put_term d old new place room low fits bits =
    let s = sixteen place in
    let below : old < 2 ^ (4 * place) = omega arith in
    same_from_bits new (d * 2 ^ (4 * place) + old) (λ j.
    bits j ∙ elim (cases_lt j (4 * place)) [
      | inl a ↦ copied_below (4 * place) d 0 room old j a ∙ sym (bit_at_cat_low d (4 * place) old j a)
      | inr b ↦ (elim (cases_lt j (4 * place + room)) [
        | inl e ↦ (let z : 0 + (j - 4 * place) ≡ j - 4 * place = omega arith in
            copied_in (4 * place) d 0 room old j b e ∙ ap (bit_at d) z ∙ sym (bit_at_cat_high d (4 * place) old j below b))
        | inr f ↦ copied_above (4 * place) d 0 room old j f ∙ bit_at_above old (4 * place) j below b
            ∙ sym (bit_at_cat_high d (4 * place) old j below b ∙ bit_at_above d room (j - 4 * place) fits (omega arith))
      ])
    ])
    ∙ ap (λ k. d * k + old) (sym s)

-- a digit that has no room is 0
pub no_term : (d old place room : ℕ) → d < 2 ^ room → room ≡ 0 → d * 16 ^ place + old ≡ old
no_term d old place room fits none =
    let p = ap (λ k. 2 ^ k) none in
    let z : d ≡ 0 = omega arith in
    let t = ap (λ k. k * 16 ^ place) z ∙ zero-mul (16 ^ place) in
    omega arith
