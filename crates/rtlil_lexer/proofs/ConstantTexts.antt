-- The text of a constant, cut from the text that it begins.
use Rattle.std.proofs.Common.{◌≡◌, ℕ, zero, suc, ◌+◌, ◌-◌, ◌<◌, ◌==◌, cond, Bool, true, false, List, [], ◌∷◌, ◌++◌, length, take, drop, get_or, refl, sym, ap, ◌∙◌, arith, inl, inr, ◌⊎◌, length-append}
use Rattle.std.specs.List.{list_all, prefix_len, take_while}
use Rattle.std.specs.Char.{is_ascii_digit}
use Rattle.std.proofs.lemmas.Bool.Decides.{nat_tests}
use Rattle.std.proofs.lemmas.Bool.{and_parts, cases_eq}
use Rattle.std.proofs.lemmas.List.{append_assoc, take-append-drop, take_rest}
use Rattle.std.proofs.lemmas.List.Folds.{length-prefix_len}
use Rattle.rtlil_lexer.specs.Characters.{is_constant_digit}
use Rattle.rtlil_lexer.specs.ConstantText.{width_digits, behind_quote, sign_length, digits_in}
use Rattle.rtlil_lexer.specs.Numbers.{decimal}
use Rattle.rtlil_lexer.specs.Pieces.{constant_of, constant_first, constant_at}
use Rattle.rtlil_lexer.proofs.Runs.{taken, take_all, front_each}

-- what follows a place is the byte there, and what follows that
split_at : (text : List ℕ) (n b : ℕ) → n < length text → get_or text n 0 ≡ b → drop n text ≡ b ∷ drop (n + 1) text
split_at [] n b lt e = absurd (omega arith)
split_at (x ∷ text) zero b lt e = ap (λ y. y ∷ text) e
split_at (x ∷ text) (suc n) b lt e = let z : suc n + 1 ≡ suc (n + 1) = omega arith in split_at text n b (omega arith) e ∙ ap (λ k. b ∷ drop k (x ∷ text)) (sym z)

-- a text whose width takes n bytes, with a quote behind it
whole : (text : List ℕ) (n : ℕ) → n ≡ prefix_len is_ascii_digit text → n < length text → get_or text n 0 ≡ 39 → text ≡ width_digits text ++ 39 ∷ behind_quote text
whole text n is lt quote =
    let size : n + 1 ≡ length (width_digits text) + 1 = ap (λ k. k + 1) (is ∙ sym (length-prefix_len is_ascii_digit text)) in
    sym (take-append-drop n text) ∙ ap (λ k. take k text ++ drop n text) is ∙ ap (λ r. width_digits text ++ r) (split_at text n 39 lt quote ∙ ap (λ k. 39 ∷ drop k text) size)

-- a constant's width, its sign and its digits, whatever follows
record Cut (text cut : List ℕ) : Type 0 where
  sign : List ℕ
  digits : List ℕ
  is : cut ≡ width_digits text ++ (39 ∷ sign ++ digits)
  signed : (sign ≡ []) ⊎ (sign ≡ 115 ∷ [])
  each : list_all is_constant_digit digits ≡ true
  same : digits ≡ take_while is_constant_digit (digits_in text)

sign_of : (rest : List ℕ) → (take (sign_length rest) rest ≡ []) ⊎ (take (sign_length rest) rest ≡ 115 ∷ [])
sign_of [] = inl refl
sign_of (r ∷ rest) = elim (cases_eq r 115) [
  | inl e ↦ inr (ap (λ t. take (cond t 1 0) (r ∷ rest)) (same r e) ∙ ap (λ b. b ∷ []) e)
  | inr ne ↦ inl (ap (λ t. take (cond t 1 0) (r ∷ rest)) (other r ne))
]
  where
    same : (r : ℕ) → r ≡ 115 → (r == 115) ≡ true
    same r e = grind (arith, nat_tests)

    other : (r : ℕ) → (r ≡ 115 → ⊥) → (r == 115) ≡ false
    other r ne = grind (arith, nat_tests)

sign_size : (rest : List ℕ) → length (take (sign_length rest) rest) ≡ sign_length rest
sign_size [] = refl
sign_size (r ∷ rest) = by (r == 115)
  where
    by : (t : Bool) → length (take (cond t 1 0) (r ∷ rest)) ≡ cond t 1 0
    by true = refl
    by false = refl

cut_of : (text : List ℕ) (n size : ℕ) → n ≡ prefix_len is_ascii_digit text → n < length text → get_or text n 0 ≡ 39
    → size ≡ n + 1 + sign_length (behind_quote text) + length (take_while is_constant_digit (digits_in text)) → Cut text (take size text)
cut_of text n size is lt quote total =
    let rest = behind_quote text in
    let sign = take (sign_length rest) rest in
    let digits = take_while is_constant_digit (digits_in text) in
    let more = drop (prefix_len is_constant_digit (digits_in text)) (digits_in text) in
    let parts : rest ≡ sign ++ (digits ++ more) = sym (take-append-drop (sign_length rest) rest) ∙ ap (λ r. sign ++ r) (sym (take-append-drop (prefix_len is_constant_digit (digits_in text)) (digits_in text))) in
    let all : text ≡ (width_digits text ++ (39 ∷ sign ++ digits)) ++ more =
    whole text n is lt quote ∙ ap (λ r. width_digits text ++ 39 ∷ r) parts
    ∙ ap (λ r. width_digits text ++ 39 ∷ r) (sym (append_assoc sign digits more)) ∙ sym (append_assoc (width_digits text) (39 ∷ sign ++ digits) more) in
    let wide : length (width_digits text) ≡ n = length-prefix_len is_ascii_digit text ∙ sym is in
    let long : size ≡ length (width_digits text ++ (39 ∷ sign ++ digits)) =
    (let a = length-append (width_digits text) (39 ∷ sign ++ digits) in let b = length-append sign digits in let s = sign_size rest in omega arith) in
    record {
      sign = sign;
      digits = digits;
      is = ap (λ k. take k text) long ∙ ap (take (length (width_digits text ++ (39 ∷ sign ++ digits)))) all ∙ take_all (width_digits text ++ (39 ∷ sign ++ digits)) more;
      signed = sign_of rest;
      each = front_each is_constant_digit (digits_in text);
      same = refl;
    }

-- the parts of a constant that stands alone
width_alone : (width rest : List ℕ) → list_all is_ascii_digit width ≡ true → width_digits (width ++ 39 ∷ rest) ≡ width
width_alone width rest each = taken is_ascii_digit width (39 ∷ rest) each refl

drop_behind : (xs ys : List ℕ) (y : ℕ) → drop (length xs + 1) (xs ++ y ∷ ys) ≡ ys
drop_behind [] ys y = refl
drop_behind (x ∷ xs) ys y = let z : length (x ∷ xs) + 1 ≡ suc (length xs + 1) = omega arith in ap (λ k. drop k (x ∷ xs ++ y ∷ ys)) z ∙ drop_behind xs ys y

digit_is_no_sign : (d : ℕ) → is_constant_digit d ≡ true → (d == 115) ≡ false
digit_is_no_sign d e = grind (arith, nat_tests)

no_sign : (digits : List ℕ) → list_all is_constant_digit digits ≡ true → sign_length digits ≡ 0
no_sign [] each = refl
no_sign (d ∷ digits) each = ap (λ t. cond t 1 0) (digit_is_no_sign d (and_parts (is_constant_digit d) (list_all is_constant_digit digits) each).0)

digits_alone : (width sign digits : List ℕ) → list_all is_ascii_digit width ≡ true → (sign ≡ []) ⊎ (sign ≡ 115 ∷ []) → list_all is_constant_digit digits ≡ true → digits_in (width ++ (39 ∷ sign ++ digits)) ≡ digits
digits_alone width sign digits wide signed each =
    ap (λ w. drop (sign_length (drop (length w + 1) (width ++ (39 ∷ sign ++ digits)))) (drop (length w + 1) (width ++ (39 ∷ sign ++ digits)))) (width_alone width (sign ++ digits) wide)
    ∙ ap (λ r. drop (sign_length r) r) (drop_behind width (sign ++ digits) 39) ∙ by signed
  where
    by : (sign ≡ []) ⊎ (sign ≡ 115 ∷ []) → drop (sign_length (sign ++ digits)) (sign ++ digits) ≡ digits
    by (inl e) = ap (λ s. drop (sign_length (s ++ digits)) (s ++ digits)) e ∙ ap (λ n. drop n digits) (no_sign digits each)
    by (inr e) = ap (λ s. drop (sign_length (s ++ digits)) (s ++ digits)) e

cut_width : (text cut : List ℕ) → Cut text cut → width_digits cut ≡ width_digits text
cut_width text cut c = ap width_digits c.is ∙ width_alone (width_digits text) (c.sign ++ c.digits) (front_each is_ascii_digit text)

cut_digits : (text cut : List ℕ) (c : Cut text cut) → digits_in cut ≡ c.digits
cut_digits text cut c = ap digits_in c.is ∙ digits_alone (width_digits text) c.sign c.digits (front_each is_ascii_digit text) c.signed c.each

-- what a constant's text is cut to says the same
pub record SaysSame (text cut : List ℕ) : Type 0 where
  pub width : width_digits cut ≡ width_digits text
  pub digits : digits_in cut ≡ take_while is_constant_digit (digits_in text)
  pub each : list_all is_constant_digit (digits_in cut) ≡ true
  pub quoted : length (width_digits cut) < length cut

pub says_same : (text : List ℕ) (n size : ℕ) → n ≡ prefix_len is_ascii_digit text → n < length text → get_or text n 0 ≡ 39
    → size ≡ n + 1 + sign_length (behind_quote text) + length (take_while is_constant_digit (digits_in text)) → SaysSame text (take size text)
says_same text n size is lt quote total =
    let c = cut_of text n size is lt quote total in
    record {
      width = cut_width text (take size text) c;
      digits = cut_digits text (take size text) c ∙ c.same;
      each = ap (list_all is_constant_digit) (cut_digits text (take size text) c) ∙ c.each;
      quoted = (let w = ap length (cut_width text (take size text) c) in let l = ap length c.is in let a = length-append (width_digits text) (39 ∷ c.sign ++ c.digits) in omega arith);
    }

-- ---- the same, of parts that were cut from the text one behind another

abbrev tail_of : List ℕ → ℕ → List ℕ
tail_of xs n = take (length xs - n) (drop n xs)

tail_behind : (text : List ℕ) (n : ℕ) → n ≡ prefix_len is_ascii_digit text → tail_of text (n + 1) ≡ behind_quote text
tail_behind text n is = take_rest text (n + 1) ∙ ap (λ k. drop (k + 1) text) (is ∙ sym (length-prefix_len is_ascii_digit text))

-- the sign and the digits that were read from there
pub record AreRead (text : List ℕ) (n sign : ℕ) (digits : List ℕ) : Type 0 where
  pub at : n ≡ prefix_len is_ascii_digit text
  pub within : n < length text
  pub quote : get_or text n 0 ≡ 39
  pub signed : sign ≡ sign_length (tail_of text (n + 1))
  pub read : digits ≡ take_while is_constant_digit (tail_of (tail_of text (n + 1)) sign)

sign_read : (text : List ℕ) (n sign : ℕ) (digits : List ℕ) → AreRead text n sign digits → sign ≡ sign_length (behind_quote text)
sign_read text n sign digits r = r.signed ∙ ap sign_length (tail_behind text n r.at)

pub digits_read : (text : List ℕ) (n sign : ℕ) (digits : List ℕ) → AreRead text n sign digits → digits ≡ take_while is_constant_digit (digits_in text)
digits_read text n sign digits r =
    r.read ∙ ap (take_while is_constant_digit) (take_rest (tail_of text (n + 1)) sign ∙ ap (λ xs. drop sign xs) (tail_behind text n r.at) ∙ ap (λ k. drop k (behind_quote text)) (sign_read text n sign digits r))

size_read : (text : List ℕ) (n sign : ℕ) (digits : List ℕ) → AreRead text n sign digits → n + 1 + sign + length digits ≡ n + 1 + sign_length (behind_quote text) + length (take_while is_constant_digit (digits_in text))
size_read text n sign digits r = ap (λ s. n + 1 + s + length digits) (sign_read text n sign digits r) ∙ ap (λ ds. n + 1 + sign_length (behind_quote text) + length ds) (digits_read text n sign digits r)

pub same_read : (text : List ℕ) (n sign : ℕ) (digits : List ℕ) → AreRead text n sign digits → SaysSame text (take (n + 1 + sign + length digits) text)
same_read text n sign digits r = says_same text n (n + 1 + sign + length digits) r.at r.within r.quote (size_read text n sign digits r)

pub constant_read : (text : List ℕ) (n sign : ℕ) (digits : List ℕ) → AreRead text n sign digits
    → constant_first (n + 1 + sign + length digits) (constant_of (decimal (width_digits (take (n + 1 + sign + length digits) text))) (digits_in (take (n + 1 + sign + length digits) text)))
    ≡ constant_at (width_digits text) (behind_quote text)
unfolding constant_at
constant_read text n sign digits r =
    let same = same_read text n sign digits r in
    let wide : n ≡ length (width_digits text) = r.at ∙ sym (length-prefix_len is_ascii_digit text) in
    ap (λ w. constant_first (n + 1 + sign + length digits) (constant_of (decimal w) (digits_in (take (n + 1 + sign + length digits) text)))) same.width
    ∙ ap (λ ds. constant_first (n + 1 + sign + length digits) (constant_of (decimal (width_digits text)) ds)) same.digits
    ∙ ap (λ k. constant_first k (constant_of (decimal (width_digits text)) (take_while is_constant_digit (digits_in text)))) (size_read text n sign digits r
    ∙ ap (λ k. k + 1 + sign_length (behind_quote text) + length (take_while is_constant_digit (digits_in text))) wide)
