-- The bodies of strings.
use Rattle.std.proofs.Common.{◌≡◌, ◌≢◌, ℕ, zero, suc, ◌+◌, ◌-◌, ◌<◌, ◌≤◌, ◌==◌, max, cond, nat_lt, Bool, true, false, List, [], ◌∷◌, ◌++◌, length, take, get_or, Option, Some, None, refl, sym, ap, subst, ◌∙◌, arith, inl, inr, ◌⊎◌, length-append}
use Rattle.std.specs.List.{list_all, take_while}
use Rattle.std.specs.Option.{option_map}
use Rattle.std.proofs.lemmas.Bool.Decides.{nat_tests}
use Rattle.std.proofs.lemmas.Bool.{and_parts, and_from, and_right, cases_eq}
use Rattle.std.proofs.lemmas.Option.{none-some}
use Rattle.std.proofs.lemmas.List.{append_assoc}
use Rattle.rtlil_lexer.specs.Characters.{is_octal_digit}
use Rattle.rtlil_lexer.specs.Strings.{octal_digits, octal_behind, named_escape, escape_value, escape_length, unescaped_behind, unescaped, body_length}
use Rattle.rtlil_lexer.specs.Reading.{NotOn, IsRun, Writes, nothing, plain, octal, named}
use Rattle.rtlil_lexer.proofs.Runs.{taken, failing}

pub unequal : (a b : ℕ) → a ≢ b → (a == b) ≡ false
unequal a b ne = grind (arith, nat_tests)

pub octal_is : (b n : ℕ) → is_octal_digit b ≡ true → (n < 48) ⊎ (55 < n) → b ≢ n
octal_is b n oct out = grind (arith, nat_tests)

plain_step : (b : ℕ) (bs : List ℕ) → b ≢ 92 → b ≢ 34 → b ≢ 10 → body_length false (b ∷ bs) ≡ option_map suc (body_length false bs)
unfolding body_length
plain_step b bs n92 n34 n10 = rw (unequal b 10 n10) (rw (unequal b 34 n34) (rw (unequal b 92 n92) refl))

escaped_step : (b : ℕ) (bs : List ℕ) → b ≢ 10 → body_length true (b ∷ bs) ≡ option_map suc (body_length false bs)
unfolding body_length
escaped_step b bs n10 = rw (unequal b 10 n10) (rw (and_right (b == 34) false refl) (rw (and_right (b == 92) false refl) refl))

backslash_step : (b : ℕ) (bs : List ℕ) → b ≢ 10 → body_length false (92 ∷ b ∷ bs) ≡ option_map suc (option_map suc (body_length false bs))
unfolding body_length
backslash_step b bs n10 = ap (option_map suc) (escaped_step b bs n10)

octal_step : (digits bs : List ℕ) (n : ℕ) → list_all is_octal_digit digits ≡ true → body_length false bs ≡ Some n → body_length false (digits ++ bs) ≡ Some (length digits + n)
octal_step [] bs n each is = let e : n ≡ 0 + n = omega arith in is ∙ ap Some e
octal_step (d ∷ digits) bs n each is =
    let parts = and_parts (is_octal_digit d) (list_all is_octal_digit digits) each in
    let e : suc (length digits + n) ≡ length (d ∷ digits) + n = omega arith in
    plain_step d (digits ++ bs) (octal_is d 92 parts.0 (inr (omega arith))) (octal_is d 34 parts.0 (inl (omega arith))) (octal_is d 10 parts.0 (inl (omega arith)))
    ∙ ap (option_map suc) (octal_step digits bs n parts.1 is) ∙ ap Some e

octals_step : (digits bs : List ℕ) (n : ℕ) → IsRun is_octal_digit digits → body_length false bs ≡ Some n → body_length false (92 ∷ digits ++ bs) ≡ Some (suc (length digits + n))
octals_step [] bs n run is = absurd (omega (arith, run.some))
octals_step (d ∷ digits) bs n run is =
    let parts = and_parts (is_octal_digit d) (list_all is_octal_digit digits) run.each in
    let e : suc (suc (length digits + n)) ≡ suc (length (d ∷ digits) + n) = omega arith in
    backslash_step d (digits ++ bs) (octal_is d 10 parts.0 (inl (omega arith)))
    ∙ ap (λ o. option_map suc (option_map suc o)) (octal_step digits bs n parts.1 is) ∙ ap Some e

by_quote : (more : List ℕ) → body_length false (34 ∷ more) ≡ Some 0
unfolding body_length
by_quote more = refl

-- what is a body is counted up to its quote
pub closed : (body bytes more : List ℕ) → Writes body bytes → body_length false (body ++ 34 ∷ more) ≡ Some (length body)
closed _ _ more nothing = by_quote more
closed _ _ more (plain b body bytes n92 n34 n10 w) = plain_step b (body ++ 34 ∷ more) n92 n34 n10 ∙ ap (option_map suc) (closed body bytes more w)
closed _ _ more (octal digits body bytes run most ends w) =
    let e : suc (length digits + length body) ≡ length (92 ∷ digits ++ body) = omega (arith, length-append digits body) in
    ap (λ bs. body_length false (92 ∷ bs)) (append_assoc digits body (34 ∷ more)) ∙ octals_step digits (body ++ 34 ∷ more) (length body) run (closed body bytes more w) ∙ ap Some e
closed _ _ more (named b body bytes other n10 w) = backslash_step b (body ++ 34 ∷ more) n10 ∙ ap (λ o. option_map suc (option_map suc o)) (closed body bytes more w)

-- ---- what a body stands for

take_beyond : (n : ℕ) (xs ys : List ℕ) → length xs ≤ n → take n (xs ++ ys) ≡ xs ++ take (n - length xs) ys
take_beyond n [] ys le = let e : n ≡ n - 0 = omega arith in ap (λ k. take k ys) e
take_beyond zero (x ∷ xs) ys le = absurd (omega arith)
take_beyond (suc n) (x ∷ xs) ys le =
    let e : n - length xs ≡ suc n - length (x ∷ xs) = omega arith in
    ap (λ zs. x ∷ zs) (take_beyond n xs ys (omega arith) ∙ ap (λ k. xs ++ take k ys) e)

not_on_front : (p : ℕ → Bool) (n : ℕ) (xs : List ℕ) → NotOn p xs → NotOn p (take n xs)
not_on_front p zero xs ends = tt
not_on_front p (suc n) [] ends = tt
not_on_front p (suc n) (x ∷ xs) ends = ends

ends_within : (digits body : List ℕ) → (length digits ≡ 3) ⊎ NotOn is_octal_digit body → NotOn is_octal_digit (take (3 - length digits) body)
ends_within digits body (inl e) = let z : 0 ≡ 3 - length digits = omega arith in subst (λ n. NotOn is_octal_digit (take n body)) z tt
ends_within digits body (inr ends) = not_on_front is_octal_digit (3 - length digits) body ends

octal_run : (digits body : List ℕ) → IsRun is_octal_digit digits → length digits ≤ 3 → (length digits ≡ 3) ⊎ NotOn is_octal_digit body → octal_digits (digits ++ body) ≡ digits
octal_run digits body run most ends = ap (take_while is_octal_digit) (take_beyond 3 digits body most) ∙ taken is_octal_digit digits (take (3 - length digits) body) run.each (ends_within digits body ends)

octal_none : (b : ℕ) (body : List ℕ) → is_octal_digit b ≡ false → octal_digits (b ∷ body) ≡ []
octal_none b body other = ap (λ n. take n (b ∷ take 2 body)) (failing is_octal_digit b (take 2 body) other)

skipped : (xs ys : List ℕ) → unescaped_behind (length xs) (xs ++ ys) ≡ unescaped ys
unfolding unescaped_behind
skipped [] ys = refl
skipped (x ∷ xs) ys = skipped xs ys

plain_value : (b : ℕ) (body : List ℕ) → b ≢ 92 → unescaped (b ∷ body) ≡ b ∷ unescaped body
unfolding unescaped_behind
plain_value b body n92 = rw (unequal b 92 n92) refl

some_digits : (digits : List ℕ) → 0 < length digits → nat_lt 0 (length digits) ≡ true
some_digits digits some = grind (arith, nat_tests)

one_at_least : (n : ℕ) → 0 < n → max 1 n ≡ n
one_at_least n some = omega arith

nothing_written : unescaped [] ≡ []
unfolding unescaped_behind
nothing_written = refl

octal_value : (digits body : List ℕ) → IsRun is_octal_digit digits → octal_digits (digits ++ body) ≡ digits → unescaped (92 ∷ digits ++ body) ≡ octal_behind 0 digits ∷ unescaped body
unfolding unescaped_behind escape_value escape_length
octal_value digits body run e =
    rw e (ap (λ (t : Bool). cond t (octal_behind 0 digits) (named_escape (get_or (digits ++ body) 0 0)) ∷ unescaped_behind (max 1 (length digits)) (digits ++ body)) (some_digits digits run.some)
    ∙ ap (λ n. octal_behind 0 digits ∷ unescaped_behind n (digits ++ body)) (one_at_least (length digits) run.some)
    ∙ ap (λ bs. octal_behind 0 digits ∷ bs) (skipped digits body))

named_value : (b : ℕ) (body : List ℕ) → is_octal_digit b ≡ false → unescaped (92 ∷ b ∷ body) ≡ named_escape b ∷ unescaped body
unfolding unescaped_behind escape_value escape_length
named_value b body other = rw (octal_none b body other) refl

pub resolved : (body bytes : List ℕ) → Writes body bytes → unescaped body ≡ bytes
resolved _ _ nothing = nothing_written
resolved _ _ (plain b body bytes n92 n34 n10 w) = plain_value b body n92 ∙ ap (λ bs. b ∷ bs) (resolved body bytes w)
resolved _ _ (octal digits body bytes run most ends w) = octal_value digits body run (octal_run digits body run most ends) ∙ ap (λ bs. octal_behind 0 digits ∷ bs) (resolved body bytes w)
resolved _ _ (named b body bytes other n10 w) = named_value b body other ∙ ap (λ bs. named_escape b ∷ bs) (resolved body bytes w)

-- ---- what is counted is a body

-- a text begins with a body of this size, and its quote
pub record Closed (text : List ℕ) (n : ℕ) : Type 0 where
  pub body : List ℕ
  pub bytes : List ℕ
  pub more : List ℕ
  pub writes : Writes body bytes
  pub is : text ≡ body ++ 34 ∷ more
  pub size : length body ≡ n

not_on_part : (p : ℕ → Bool) (xs ys : List ℕ) → NotOn p (xs ++ ys) → NotOn p xs
not_on_part p [] ys ends = tt
not_on_part p (x ∷ xs) ys ends = ends

plain_closed : (b n : ℕ) (bs : List ℕ) → b ≢ 92 → b ≢ 34 → b ≢ 10 → Closed bs n → Closed (b ∷ bs) (suc n)
plain_closed b n bs n92 n34 n10 c = record {
  body = b ∷ c.body;
  bytes = b ∷ c.bytes;
  more = c.more;
  writes = plain b c.body c.bytes n92 n34 n10 c.writes;
  is = ap (λ xs. b ∷ xs) c.is;
  size = ap suc c.size;
}

named_closed : (b n : ℕ) (bs : List ℕ) → is_octal_digit b ≡ false → b ≢ 10 → Closed bs n → Closed (92 ∷ b ∷ bs) (suc (suc n))
named_closed b n bs other n10 c = record {
  body = 92 ∷ b ∷ c.body;
  bytes = named_escape b ∷ c.bytes;
  more = c.more;
  writes = named b c.body c.bytes other n10 c.writes;
  is = ap (λ xs. 92 ∷ b ∷ xs) c.is;
  size = ap (λ k. suc (suc k)) c.size;
}

ends_before : (digits bs body more : List ℕ) → bs ≡ body ++ 34 ∷ more → (length digits ≡ 3) ⊎ NotOn is_octal_digit bs → (length digits ≡ 3) ⊎ NotOn is_octal_digit body
ends_before digits bs body more is (inl e) = inl e
ends_before digits bs body more is (inr ends) = inr (not_on_part is_octal_digit body (34 ∷ more) (subst (NotOn is_octal_digit) is ends))

octal_closed : (digits bs : List ℕ) (n : ℕ) → IsRun is_octal_digit digits → length digits ≤ 3 → (length digits ≡ 3) ⊎ NotOn is_octal_digit bs → Closed bs n → Closed (92 ∷ digits ++ bs) (suc (length digits + n))
octal_closed digits bs n run most ends c = record {
  body = 92 ∷ digits ++ c.body;
  bytes = octal_behind 0 digits ∷ c.bytes;
  more = c.more;
  writes = octal digits c.body c.bytes run most (ends_before digits bs c.body c.more c.is ends) c.writes;
  is = ap (λ xs. 92 ∷ digits ++ xs) c.is ∙ ap (λ xs. 92 ∷ xs) (sym (append_assoc digits c.body (34 ∷ c.more)));
  size = let l = length-append digits c.body in let s = c.size in omega arith;
}

some_of_suc : (o : Option ℕ) (n : ℕ) → option_map suc o ≡ Some n → (k : ℕ) × (o ≡ Some k) × (n ≡ suc k)
some_of_suc None n e = absurd (none-some n e)
some_of_suc (Some k) n e = (k, refl, grind arith)

one_octal : (c : ℕ) → is_octal_digit c ≡ true → list_all is_octal_digit (c ∷ []) ≡ true
one_octal c oct = and_from (is_octal_digit c) true oct refl

two_octals : (c d : ℕ) → is_octal_digit c ≡ true → is_octal_digit d ≡ true → list_all is_octal_digit (c ∷ d ∷ []) ≡ true
two_octals c d oc od = and_from (is_octal_digit c) (list_all is_octal_digit (d ∷ [])) oc (one_octal d od)

three_octals : (c d e : ℕ) → is_octal_digit c ≡ true → is_octal_digit d ≡ true → is_octal_digit e ≡ true → list_all is_octal_digit (c ∷ d ∷ e ∷ []) ≡ true
three_octals c d e oc od oe = and_from (is_octal_digit c) (list_all is_octal_digit (d ∷ e ∷ [])) oc (two_octals d e od oe)

run_of : (digits : List ℕ) → 0 < length digits → list_all is_octal_digit digits ≡ true → IsRun is_octal_digit digits
run_of digits some each = record { some = some; each = each }

tail_counted : (d : ℕ) (ds : List ℕ) (n : ℕ) → is_octal_digit d ≡ true → body_length false (d ∷ ds) ≡ Some n → (k : ℕ) × (body_length false ds ≡ Some k) × (n ≡ suc k)
tail_counted d ds n oct is =
    some_of_suc (body_length false ds) n (sym (plain_step d ds (octal_is d 92 oct (inr (omega arith))) (octal_is d 34 oct (inl (omega arith))) (octal_is d 10 oct (inl (omega arith)))) ∙ is)

-- the texts that are shorter than `most` and of which a body is counted begin with one
abbrev Shorter : ℕ → Type 0
Shorter most = (text : List ℕ) (n : ℕ) → length text < most → body_length false text ≡ Some n → Closed text n

nothing_counted : (n : ℕ) → body_length false [] ≡ Some n → ⊥
unfolding body_length
nothing_counted n is = none-some n is

resized : (text : List ℕ) (m n : ℕ) → m ≡ n → Closed text m → Closed text n
resized text m n e c = subst (Closed text) e c

third_digit : (most : ℕ) (t : Bool) (c d e : ℕ) (es : List ℕ) (n : ℕ) → Shorter most → length (e ∷ es) < most → is_octal_digit c ≡ true → is_octal_digit d ≡ true → is_octal_digit e ≡ t
    → body_length false (e ∷ es) ≡ Some n → Closed (92 ∷ c ∷ d ∷ e ∷ es) (suc (suc (suc n)))
third_digit most true c d e es n shorter lt oc od oe is =
    let r = tail_counted e es n oe is in
    resized (92 ∷ c ∷ d ∷ e ∷ es) (suc (3 + r.0)) (suc (suc (suc n))) (let m = r.2 in omega arith)
    (octal_closed (c ∷ d ∷ e ∷ []) es r.0 (run_of (c ∷ d ∷ e ∷ []) (omega arith) (three_octals c d e oc od oe)) (omega arith) (inl refl) (shorter es r.0 (omega arith) r.1))
third_digit most false c d e es n shorter lt oc od oe is =
    resized (92 ∷ c ∷ d ∷ e ∷ es) (suc (2 + n)) (suc (suc (suc n))) (omega arith)
    (octal_closed (c ∷ d ∷ []) (e ∷ es) n (run_of (c ∷ d ∷ []) (omega arith) (two_octals c d oc od)) (omega arith) (inr oe) (shorter (e ∷ es) n lt is))

second_digit : (most : ℕ) (t : Bool) (c d : ℕ) (ds : List ℕ) (n : ℕ) → Shorter most → length (d ∷ ds) < most → is_octal_digit c ≡ true → is_octal_digit d ≡ t
    → body_length false (d ∷ ds) ≡ Some n → Closed (92 ∷ c ∷ d ∷ ds) (suc (suc n))
second_digit most false c d ds n shorter lt oc od is =
    resized (92 ∷ c ∷ d ∷ ds) (suc (1 + n)) (suc (suc n)) (omega arith)
    (octal_closed (c ∷ []) (d ∷ ds) n (run_of (c ∷ []) (omega arith) (one_octal c oc)) (omega arith) (inr od) (shorter (d ∷ ds) n lt is))
second_digit most true c d [] n shorter lt oc od is = let r = tail_counted d [] n od is in absurd (nothing_counted r.0 r.1)
second_digit most true c d (e ∷ es) n shorter lt oc od is =
    let r = tail_counted d (e ∷ es) n od is in
    resized (92 ∷ c ∷ d ∷ e ∷ es) (suc (suc (suc r.0))) (suc (suc n)) (let m = r.2 in omega arith)
    (third_digit most (is_octal_digit e) c d e es r.0 shorter (omega arith) oc od refl r.1)

escape_closed : (most : ℕ) (t : Bool) (c : ℕ) (cs : List ℕ) (n : ℕ) → Shorter most → length cs < most → is_octal_digit c ≡ t → c ≢ 10
    → body_length false cs ≡ Some n → Closed (92 ∷ c ∷ cs) (suc (suc n))
escape_closed most false c cs n shorter lt oc n10 is = named_closed c n cs oc n10 (shorter cs n lt is)
escape_closed most true c [] n shorter lt oc n10 is = absurd (nothing_counted n is)
escape_closed most true c (d ∷ ds) n shorter lt oc n10 is = second_digit most (is_octal_digit d) c d ds n shorter lt oc refl is

line_feed_counted : (escaped : Bool) (bs : List ℕ) (n : ℕ) → body_length escaped (10 ∷ bs) ≡ Some n → ⊥
unfolding body_length
line_feed_counted escaped bs n is = none-some n is

quote_counted : (bs : List ℕ) (n : ℕ) → body_length false (34 ∷ bs) ≡ Some n → 0 ≡ n
unfolding body_length
quote_counted bs n is = grind arith

backslash_counted : (bs : List ℕ) (n : ℕ) → body_length false (92 ∷ bs) ≡ Some n → (k : ℕ) × (body_length true bs ≡ Some k) × (n ≡ suc k)
unfolding body_length
backslash_counted bs n is = some_of_suc (body_length true bs) n is

none_escaped : (n : ℕ) → body_length true [] ≡ Some n → ⊥
unfolding body_length
none_escaped n is = none-some n is

quote_closed : (b n : ℕ) (bs : List ℕ) → b ≡ 34 → 0 ≡ n → Closed (b ∷ bs) n
quote_closed b n bs e z = record { body = []; bytes = []; more = bs; writes = nothing; is = ap (λ x. x ∷ bs) e; size = z }

escaped_counted : (most : ℕ) (cs : List ℕ) (n : ℕ) → Shorter most → length cs ≤ most → body_length true cs ≡ Some n → Closed (92 ∷ cs) (suc n)
escaped_counted most [] n shorter le is = absurd (none_escaped n is)
escaped_counted most (c ∷ cs) n shorter le is = elim (cases_eq c 10) [
  | inl e ↦ absurd (line_feed_counted true cs n (ap (λ x. body_length true (x ∷ cs)) (sym e) ∙ is))
  | inr n10 ↦ (let r = some_of_suc (body_length false cs) n (sym (escaped_step c cs n10) ∙ is) in
      resized (92 ∷ c ∷ cs) (suc (suc r.0)) (suc n) (ap suc (sym r.2)) (escape_closed most (is_octal_digit c) c cs r.0 shorter (omega arith) refl n10 r.1))
]

pub closes : (most : ℕ) → Shorter most
closes zero text n lt is = absurd (omega arith)
closes (suc most) [] n lt is = absurd (nothing_counted n is)
closes (suc most) (b ∷ bs) n lt is = elim (cases_eq b 10) [
  | inl e ↦ absurd (line_feed_counted false bs n (ap (λ x. body_length false (x ∷ bs)) (sym e) ∙ is))
  | inr n10 ↦ elim (cases_eq b 34) [
    | inl e ↦ quote_closed b n bs e (quote_counted bs n (ap (λ x. body_length false (x ∷ bs)) (sym e) ∙ is))
    | inr n34 ↦ elim (cases_eq b 92) [
      | inl e ↦ (let r = backslash_counted bs n (ap (λ x. body_length false (x ∷ bs)) (sym e) ∙ is) in
          subst (λ x. Closed (x ∷ bs) n) (sym e) (resized (92 ∷ bs) (suc r.0) n (sym r.2) (escaped_counted most bs r.0 (closes most) (omega arith) r.1)))
      | inr n92 ↦ (let r = some_of_suc (body_length false bs) n (sym (plain_step b bs n92 n34 n10) ∙ is) in
          resized (b ∷ bs) (suc r.0) n (sym r.2) (plain_closed b r.0 bs n92 n34 n10 (closes most bs r.0 (omega arith) r.1)))
    ]
  ]
]

pub body_counted : (text : List ℕ) (n : ℕ) → body_length false text ≡ Some n → Closed text n
body_counted text n is = closes (suc (length text)) text n (omega arith) is
