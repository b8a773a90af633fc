-- Numbers in digits.
use Rattle.std.proofs.Common.{◌≡◌, ℕ, zero, suc, ◌+◌, ◌-◌, ◌*◌, ◌/◌, ◌%◌, ◌^◌, ◌<◌, ◌≤◌, Bool, true, false, cond, List, [], ◌∷◌, ◌++◌, length, get_or, set, drop, Option, Some, None, decimal, refl, sym, ap, ◌∙◌, arith, add-one, inl, inr}
use Rattle.std.specs.Option.{option_and_then}
use Rattle.std.specs.Char.{is_ascii_digit}
use Rattle.std.proofs.lemmas.Bool.Decides.{nat_tests}
use Rattle.std.proofs.lemmas.Bool.{cases_lt}
use Rattle.std.proofs.lemmas.List.{append_assoc, drop-set, length_push, at_drop_more, at_drop_all}
use Rattle.std.proofs.Math.Nat.{pow-suc, pow-le-pow_right, one-le-pow, mod-eq_of_lt, zero-mul}
use Rattle.std.proofs.Math.Arith.{mod-mul}
use Rattle.std.proofs.lemmas.Fmt.{decimal_by_steps, decimal_nonempty, length-decimal-le}
use Rattle.sim_base.specs.Digits.{digit_character, lowest_digits, decimal_after, digits_number}

-- one digit more stands
pub lowest_step : (base at n c : ℕ) (into : List ℕ) → at < length into → c ≡ digit_character (n % base) → lowest_digits base at (n / base) ++ drop at (set into at c) ≡ lowest_digits base (suc at) n ++ drop (at + 1) into
unfolding lowest_digits
lowest_step base at n c into lt is =
    ap (λ xs. lowest_digits base at (n / base) ++ xs) (drop-set into at c lt ∙ ap (λ d. d ∷ drop (at + 1) into) is)
    ∙ sym (append_assoc (lowest_digits base at (n / base)) (digit_character (n % base) ∷ []) (drop (at + 1) into))

-- all digits stand
pub lowest_whole : (base at n : ℕ) (into : List ℕ) → at ≡ 0 → lowest_digits base at n ++ drop at into ≡ into
unfolding lowest_digits
lowest_whole base at n into z = ap (λ k. lowest_digits base k n ++ drop k into) z

pub length-lowest_digits : (base width n : ℕ) → length (lowest_digits base width n) ≡ width
unfolding lowest_digits
length-lowest_digits base zero n = refl
length-lowest_digits base (suc width) n = length_push (lowest_digits base width (n / base)) (digit_character (n % base)) ∙ ap (λ k. k + 1) (length-lowest_digits base width (n / base)) ∙ add-one width

then_if : {A B : Type 0} (f : A → Option B) (b : Bool) (x : Option A) (y : Option B) → y ≡ option_and_then f x → cond b y None ≡ option_and_then f (cond b x None)
then_if f true x y e = e
then_if f false x y e = refl

pub decimal_after-append : (front : ℕ) (xs ys : List ℕ) → decimal_after front (xs ++ ys) ≡ option_and_then (λ n. decimal_after n ys) (decimal_after front xs)
unfolding decimal_after
decimal_after-append front [] ys = refl
decimal_after-append front (x ∷ xs) ys = then_if (λ n. decimal_after n ys) (is_ascii_digit x) (decimal_after (front * 10 + (x - 48)) xs) (decimal_after (front * 10 + (x - 48)) (xs ++ ys)) (decimal_after-append (front * 10 + (x - 48)) xs ys)

pub decimal_one : (front d : ℕ) → d < 10 → decimal_after front ((48 + d) ∷ []) ≡ Some (front * 10 + d)
unfolding decimal_after
decimal_one front d lt = grind (arith, nat_tests)

decimal_push : (front n d : ℕ) (xs : List ℕ) → decimal_after front xs ≡ Some n → d < 10 → decimal_after front (xs ++ (48 + d) ∷ []) ≡ Some (n * 10 + d)
decimal_push front n d xs is lt = decimal_after-append front xs ((48 + d) ∷ []) ∙ ap (option_and_then (λ m. decimal_after m ((48 + d) ∷ []))) is ∙ decimal_one n d lt

digit_of_ten : (d : ℕ) → d < 10 → digit_character d ≡ 48 + d
digit_of_ten d lt = grind (arith, nat_tests)

ten_pos : (k : ℕ) → 0 < 10 ^ k
ten_pos k = one-le-pow k 10 (omega arith)

regroup : (f p q r : ℕ) → (f * p + q) * 10 + r ≡ f * (p * 10) + (q * 10 + r)
regroup f p q r = grind arith

-- the lowest digits read as the rest by a power of ten
pub decimal_lowest : (width front n : ℕ) → decimal_after front (lowest_digits 10 width n) ≡ Some (front * 10 ^ width + n % 10 ^ width)
unfolding decimal_after lowest_digits
decimal_lowest zero front n = ap Some (omega arith)
decimal_lowest (suc width) front n =
    let below : n % 10 < 10 = omega arith in
    let step : (front * 10 ^ width + n / 10 % 10 ^ width) * 10 + n % 10 ≡ front * 10 ^ suc width + n % 10 ^ suc width = rw (pow-suc 10 width) (omega (arith, regroup front (10 ^ width) (n / 10 % 10 ^ width) (n % 10), mod-mul n {m = 10 ^ width} {c = 10} (ten_pos width) (omega arith))) in
    ap (λ c. decimal_after front (lowest_digits 10 width (n / 10) ++ c ∷ [])) (digit_of_ten (n % 10) below)
    ∙ decimal_push front (front * 10 ^ width + n / 10 % 10 ^ width) (n % 10) (lowest_digits 10 width (n / 10)) (decimal_lowest width front (n / 10)) below
    ∙ ap Some step

-- one digit more is read
pub digits_more : (front index c : ℕ) (text : List ℕ) → index < length text → c ≡ get_or text index 0 → is_ascii_digit c ≡ true → decimal_after front (drop index text) ≡ decimal_after (front * 10 + (c - 48)) (drop (index + 1) text)
unfolding decimal_after
digits_more front index c text lt is digit =
    at_drop_more (decimal_after front) text index 0 lt
    ∙ ap (λ x. cond (is_ascii_digit x) (decimal_after (front * 10 + (x - 48)) (drop (index + 1) text)) None) (sym is)
    ∙ ap (λ b. cond b (decimal_after (front * 10 + (c - 48)) (drop (index + 1) text)) None) digit

-- a text with another character is no number
pub digits_none : (front index c : ℕ) (text : List ℕ) → index < length text → c ≡ get_or text index 0 → is_ascii_digit c ≡ false → decimal_after front (drop index text) ≡ None
unfolding decimal_after
digits_none front index c text lt is other =
    at_drop_more (decimal_after front) text index 0 lt
    ∙ ap (λ x. cond (is_ascii_digit x) (decimal_after (front * 10 + (x - 48)) (drop (index + 1) text)) None) (sym is)
    ∙ ap (λ b. cond b (decimal_after (front * 10 + (c - 48)) (drop (index + 1) text)) None) other

pub digits_all : (front index : ℕ) (text : List ℕ) → length text ≤ index → decimal_after front (drop index text) ≡ Some front
unfolding decimal_after
digits_all front index text le = at_drop_all (decimal_after front) text index le

pub digits_number_within : (most : ℕ) (text : List ℕ) → 1 ≤ length text → length text ≤ most → digits_number most text ≡ decimal_after 0 text
unfolding digits_number
digits_number_within most text some le = grind (arith, nat_tests)

pub digits_number_empty : (most : ℕ) (text : List ℕ) → length text < 1 → digits_number most text ≡ None
unfolding digits_number
digits_number_empty most text lt = grind (arith, nat_tests)

pub digits_number_long : (most : ℕ) (text : List ℕ) → most < length text → digits_number most text ≡ None
unfolding digits_number
digits_number_long most text lt = grind (arith, nat_tests)

digit_small : (c : ℕ) → is_ascii_digit c ≡ true → (48 ≤ c) × (c ≤ 57)
digit_small c is = (grind (arith, nat_tests), grind (arith, nat_tests))

-- a number of at most 17 digits leaves room for one more
pub digits_fit : (n i : ℕ) → n < 10 ^ i → i ≤ 17 → n < 10 ^ 17
digits_fit n i lt le = omega (arith, pow-le-pow_right {n = 10} (omega arith) {i = i} {j = 17} le)

pub digits_below : (n i c : ℕ) → n < 10 ^ i → is_ascii_digit c ≡ true → n * 10 + (c - 48) < 10 ^ (i + 1)
digits_below n i c lt is =
    let small = digit_small c is in
    let e : 10 ^ (i + 1) ≡ 10 ^ i * 10 = ap (λ k. 10 ^ k) (add-one i) ∙ pow-suc 10 i in
    omega arith

pub digit_below : (c : ℕ) → is_ascii_digit c ≡ true → c - 48 < 10
digit_below c is = let small = digit_small c is in omega arith

-- what is a number has as many digits as are allowed
pub digits_number_some : (most n : ℕ) (text : List ℕ) → digits_number most text ≡ Some n → length text ≤ most
unfolding digits_number
digits_number_some most n text is =
    elim (cases_lt most (length text)) [
      | inl long ↦ (let none : ◌≡◌ {A = Option ℕ} None (Some n) = sym (digits_number_long most text long) ∙ is in cc)
      | inr le ↦ le
    ]

-- the decimal text of a number reads as the number
pub decimal_after_decimal : (n : ℕ) → n < 2 ^ 64 → decimal_after 0 (decimal n) ≡ Some n
decimal_after_decimal = decimal_by_steps (λ n ds. decimal_after 0 ds ≡ Some n)
    (λ n lt. decimal_one 0 n lt ∙ ap Some (omega arith))
    (λ n ds ge is. decimal_push 0 (n / 10) (n % 10) ds is (omega arith) ∙ ap Some (omega arith))

pub if_some : (b : Bool) (y : Option ℕ) (n : ℕ) → cond b y None ≡ Some n → (b ≡ true) × (y ≡ Some n)
if_some true y n e = (refl, e)
if_some false y n e = cc

-- each character of what reads as a number is a digit
pub digits_in : (front n : ℕ) (text : List ℕ) → decimal_after front text ≡ Some n → (k : ℕ) → k < length text → is_ascii_digit (get_or text k 0) ≡ true
unfolding decimal_after
digits_in front n [] is k lt = absurd (omega arith)
digits_in front n (x ∷ xs) is zero lt = (if_some (is_ascii_digit x) (decimal_after (front * 10 + (x - 48)) xs) n is).0
digits_in front n (x ∷ xs) is (suc k) lt = digits_in (front * 10 + (x - 48)) n xs (if_some (is_ascii_digit x) (decimal_after (front * 10 + (x - 48)) xs) n is).1 k (omega arith)

-- what was written is read
pub digits_decimal : (most n : ℕ) → 0 < most → n < 10 ^ most → n < 2 ^ 64 → digits_number most (decimal n) ≡ Some n
digits_decimal most n some below fits = digits_number_within most (decimal n) (decimal_nonempty n fits) (length-decimal-le most n some below fits) ∙ decimal_after_decimal n fits

pub digits_lowest : (width n : ℕ) → 1 ≤ width → n < 10 ^ width → digits_number width (lowest_digits 10 width n) ≡ Some n
digits_lowest width n some below =
    let l = length-lowest_digits 10 width n in
    let m : n % 10 ^ width ≡ n = mod-eq_of_lt below in
    let z : 0 * 10 ^ width ≡ 0 = zero-mul (10 ^ width) in
    digits_number_within width (lowest_digits 10 width n) (omega arith) (omega arith) ∙ decimal_lowest width 0 n ∙ ap Some (omega arith)
