-- Strings: where they end, and the escapes in them.
use Rattle.std.proofs.Common.{◌≡◌, ℕ, zero, suc, ◌+◌, ◌-◌, ◌*◌, ◌^◌, ◌<◌, ◌≤◌, ◌==◌, ◌&&◌, not, Bool, true, false, cond, List, [], ◌∷◌, length, get_or, drop, Option, Some, None, refl, sym, ap, ◌∙◌, arith, add-one}
use Rattle.std.specs.Option.{option_map}
use Rattle.std.specs.List.{take_while}
use Rattle.std.proofs.Math.Nat.{pow-suc, pow-le-pow_right}
use Rattle.std.proofs.lemmas.List.Sums.{take_while-cons}
use Rattle.std.proofs.lemmas.Bool.Decides.{nat_tests}
use Rattle.std.proofs.lemmas.List.{at_drop_more, at_drop_all, drop-drop}
use Rattle.rtlil_lexer.specs.Characters.{is_octal_digit}
use Rattle.rtlil_lexer.specs.Strings.{body_length, octal_behind, escape_value, escape_length, unescaped, unescaped_behind}

-- so many bytes more
abbrev pub further : ℕ → Option ℕ → Option ℕ
further at found = option_map (λ n. at + n) found

pub further_one : (at : ℕ) (found : Option ℕ) → further at (option_map suc found) ≡ further (at + 1) found
further_one at None = refl
further_one at (Some n) = ap Some (omega arith)

pub further_none : (found : Option ℕ) → further 0 found ≡ found
further_none None = refl
further_none (Some n) = ap Some (omega arith)

-- what is found behind a byte
abbrev pub body_step : Bool → ℕ → Option ℕ → Option ℕ
body_step escaped b behind = cond (b == 10) None (cond (b == 34 && not escaped) (Some 0) (option_map suc behind))

pub body_more : (escaped : Bool) (at b : ℕ) (bytes : List ℕ) → at < length bytes → b ≡ get_or bytes at 0 → body_length escaped (drop at bytes) ≡ body_step escaped b (body_length (b == 92 && not escaped) (drop (at + 1) bytes))
unfolding body_length
body_more escaped at b bytes lt is =
    at_drop_more (body_length escaped) bytes at 0 lt
    ∙ ap (λ x. body_step escaped x (body_length (x == 92 && not escaped) (drop (at + 1) bytes))) (sym is)

pub body_end : (escaped : Bool) (at : ℕ) (bytes : List ℕ) → length bytes ≤ at → body_length escaped (drop at bytes) ≡ None
unfolding body_length
body_end escaped at bytes le = at_drop_all (body_length escaped) bytes at le

step_stops : (escaped : Bool) (b : ℕ) (behind : Option ℕ) → b ≡ 10 → body_step escaped b behind ≡ None
step_stops escaped b behind e = grind (arith, nat_tests)

step_closes : (escaped : Bool) (b : ℕ) (behind : Option ℕ) → b ≡ 34 → escaped ≡ false → body_step escaped b behind ≡ Some 0
step_closes escaped b behind e free = ap (λ x. body_step x b behind) free ∙ ap (λ x. body_step false x behind) e

step_other : (escaped : Bool) (b : ℕ) (behind : Option ℕ) → (b ≡ 10 → ⊥) → (b ≡ 34 → ⊥) → body_step escaped b behind ≡ option_map suc behind
step_other escaped b behind line quote = grind (arith, nat_tests)

step_kept : (escaped : Bool) (b : ℕ) (behind : Option ℕ) → b ≡ 34 → escaped ≡ true → body_step escaped b behind ≡ option_map suc behind
step_kept escaped b behind e kept = ap (λ x. body_step x b behind) kept ∙ ap (λ x. body_step true x behind) e

-- a line feed ends the line
pub body_stops : (escaped : Bool) (at b : ℕ) (bytes : List ℕ) → at < length bytes → b ≡ get_or bytes at 0 → b ≡ 10 → body_length escaped (drop at bytes) ≡ None
body_stops escaped at b bytes lt is e = body_more escaped at b bytes lt is ∙ step_stops escaped b (body_length (b == 92 && not escaped) (drop (at + 1) bytes)) e

-- a quote closes the string
pub body_closes : (escaped : Bool) (at b : ℕ) (bytes : List ℕ) → at < length bytes → b ≡ get_or bytes at 0 → b ≡ 34 → escaped ≡ false → further at (body_length escaped (drop at bytes)) ≡ Some at
body_closes escaped at b bytes lt is e free =
    ap (further at) (body_more escaped at b bytes lt is ∙ step_closes escaped b (body_length (b == 92 && not escaped) (drop (at + 1) bytes)) e free)
    ∙ ap Some (omega arith)

-- each other byte belongs to the string
pub body_goes_on : (escaped next : Bool) (at b : ℕ) (bytes : List ℕ) → at < length bytes → b ≡ get_or bytes at 0 → (b ≡ 10 → ⊥) → (b ≡ 34 → ⊥) → next ≡ (b == 92 && not escaped) → further (at + 1) (body_length next (drop (at + 1) bytes)) ≡ further at (body_length escaped (drop at bytes))
body_goes_on escaped next at b bytes lt is line quote e =
    ap (λ n. further (at + 1) (body_length n (drop (at + 1) bytes))) e
    ∙ sym (ap (further at) (body_more escaped at b bytes lt is ∙ step_other escaped b (body_length (b == 92 && not escaped) (drop (at + 1) bytes)) line quote)
    ∙ further_one at (body_length (b == 92 && not escaped) (drop (at + 1) bytes)))

-- so does a quote behind a backslash
pub body_keeps : (escaped next : Bool) (at b : ℕ) (bytes : List ℕ) → at < length bytes → b ≡ get_or bytes at 0 → b ≡ 34 → escaped ≡ true → next ≡ (b == 92 && not escaped) → further (at + 1) (body_length next (drop (at + 1) bytes)) ≡ further at (body_length escaped (drop at bytes))
body_keeps escaped next at b bytes lt is quote kept e =
    ap (λ n. further (at + 1) (body_length n (drop (at + 1) bytes))) e
    ∙ sym (ap (further at) (body_more escaped at b bytes lt is ∙ step_kept escaped b (body_length (b == 92 && not escaped) (drop (at + 1) bytes)) quote kept)
    ∙ further_one at (body_length (b == 92 && not escaped) (drop (at + 1) bytes)))

cond_other : {A : Type 0} (b : Bool) (x y : A) → b ≡ false → cond b x y ≡ y
cond_other b x y e = ap (λ t. cond t x y) e

-- the digits in front, with one more of them or none
digits_at : (at b : ℕ) (bytes : List ℕ) → at < length bytes → b ≡ get_or bytes at 0 → take_while is_octal_digit (drop at bytes) ≡ cond (is_octal_digit b) (b ∷ take_while is_octal_digit (drop (at + 1) bytes)) []
digits_at at b bytes lt is =
    at_drop_more (take_while is_octal_digit) bytes at 0 lt
    ∙ take_while-cons is_octal_digit (get_or bytes at 0) (drop (at + 1) bytes)
    ∙ ap (λ x. cond (is_octal_digit x) (x ∷ take_while is_octal_digit (drop (at + 1) bytes)) []) (sym is)

pub digits_more : (at b : ℕ) (bytes : List ℕ) → at < length bytes → b ≡ get_or bytes at 0 → is_octal_digit b ≡ true → take_while is_octal_digit (drop at bytes) ≡ b ∷ take_while is_octal_digit (drop (at + 1) bytes)
digits_more at b bytes lt is digit = digits_at at b bytes lt is ∙ ap (λ t. cond t (b ∷ take_while is_octal_digit (drop (at + 1) bytes)) []) digit

pub digits_stop : (at b : ℕ) (bytes : List ℕ) → at < length bytes → b ≡ get_or bytes at 0 → is_octal_digit b ≡ false → take_while is_octal_digit (drop at bytes) ≡ []
digits_stop at b bytes lt is other = digits_at at b bytes lt is ∙ ap (λ t. cond t (b ∷ take_while is_octal_digit (drop (at + 1) bytes)) []) other

pub digits_end : (at : ℕ) (bytes : List ℕ) → length bytes ≤ at → take_while is_octal_digit (drop at bytes) ≡ []
digits_end at bytes le = at_drop_all (take_while is_octal_digit) bytes at le

pub octal_step : (front b : ℕ) (bs : List ℕ) → octal_behind front (b ∷ bs) ≡ octal_behind (front * 8 + (b - 48)) bs
unfolding octal_behind
octal_step front b bs = refl

pub octal_end : (front : ℕ) → octal_behind front [] ≡ front
unfolding octal_behind
octal_end front = refl

octal_small : (b : ℕ) → is_octal_digit b ≡ true → (48 ≤ b) × (b ≤ 55)
octal_small b is = (grind (arith, nat_tests), grind (arith, nat_tests))

pub octal_below : (n i b : ℕ) → n < 8 ^ i → is_octal_digit b ≡ true → n * 8 + (b - 48) < 8 ^ (i + 1)
octal_below n i b lt is =
    let small = octal_small b is in
    let e : 8 ^ (i + 1) ≡ 8 ^ i * 8 = ap (λ k. 8 ^ k) (add-one i) ∙ pow-suc 8 i in
    omega arith

-- a number of at most four digits leaves room for one more
pub octal_fit : (n i : ℕ) → n < 8 ^ i → i ≤ 4 → n < 8 ^ 4
octal_fit n i lt le = omega (arith, pow-le-pow_right {n = 8} (omega arith) {i = i} {j = 4} le)

pub octal_digit_below : (b : ℕ) → is_octal_digit b ≡ true → b - 48 < 8
octal_digit_below b is = let small = octal_small b is in omega arith

-- a list goes on behind so many bytes that were counted
pub unescaped_behind_drop : (counted : ℕ) (bytes : List ℕ) → unescaped_behind counted bytes ≡ unescaped_behind 0 (drop counted bytes)
unfolding unescaped_behind
unescaped_behind_drop zero bytes = refl
unescaped_behind_drop (suc counted) [] = refl
unescaped_behind_drop (suc counted) (b ∷ bs) = unescaped_behind_drop counted bs

unescaped_cons : (b : ℕ) (bs : List ℕ) → unescaped_behind 0 (b ∷ bs) ≡ cond (b == 92) (escape_value bs ∷ unescaped_behind (escape_length bs) bs) (b ∷ unescaped_behind 0 bs)
unfolding unescaped_behind
unescaped_cons b bs = refl

unescaped_at : (at b : ℕ) (bytes : List ℕ) → at < length bytes → b ≡ get_or bytes at 0 → unescaped (drop at bytes) ≡ cond (b == 92) (escape_value (drop (at + 1) bytes) ∷ unescaped_behind (escape_length (drop (at + 1) bytes)) (drop (at + 1) bytes)) (b ∷ unescaped (drop (at + 1) bytes))
unescaped_at at b bytes lt is =
    at_drop_more unescaped bytes at 0 lt
    ∙ unescaped_cons (get_or bytes at 0) (drop (at + 1) bytes)
    ∙ ap (λ x. cond (x == 92) (escape_value (drop (at + 1) bytes) ∷ unescaped_behind (escape_length (drop (at + 1) bytes)) (drop (at + 1) bytes)) (x ∷ unescaped (drop (at + 1) bytes))) (sym is)

pub unescaped_plain : (at b : ℕ) (bytes : List ℕ) → at < length bytes → b ≡ get_or bytes at 0 → (b ≡ 92 → ⊥) → unescaped (drop at bytes) ≡ b ∷ unescaped (drop (at + 1) bytes)
unescaped_plain at b bytes lt is ne = unescaped_at at b bytes lt is ∙ cond_other (b == 92) (escape_value (drop (at + 1) bytes) ∷ unescaped_behind (escape_length (drop (at + 1) bytes)) (drop (at + 1) bytes)) (b ∷ unescaped (drop (at + 1) bytes)) (grind (arith, nat_tests))

pub unescaped_escape : (at b size : ℕ) (bytes : List ℕ) → at < length bytes → b ≡ get_or bytes at 0 → b ≡ 92 → size ≡ escape_length (drop (at + 1) bytes) → unescaped (drop at bytes) ≡ escape_value (drop (at + 1) bytes) ∷ unescaped (drop (at + (size + 1)) bytes)
unescaped_escape at b size bytes lt is e length_is =
    let rest = drop (at + 1) bytes in
    let place : at + 1 + escape_length rest ≡ at + (size + 1) = omega arith in
    unescaped_at at b bytes lt is
    ∙ ap (λ x. cond (x == 92) (escape_value rest ∷ unescaped_behind (escape_length rest) rest) (x ∷ unescaped rest)) e
    ∙ ap (λ bs. escape_value rest ∷ bs) (unescaped_behind_drop (escape_length rest) rest ∙ ap unescaped (drop-drop (escape_length rest) (at + 1) bytes ∙ ap (λ n. drop n bytes) place))

pub unescaped_end : (at : ℕ) (bytes : List ℕ) → length bytes ≤ at → unescaped (drop at bytes) ≡ []
unfolding unescaped_behind
unescaped_end at bytes le = at_drop_all unescaped bytes at le
