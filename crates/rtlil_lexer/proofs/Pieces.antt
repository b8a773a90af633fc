-- A piece of a text is what stands first in it.
use Rattle.std.proofs.Common.{◌≡◌, ◌≢◌, ℕ, suc, ◌+◌, ◌<◌, ◌≤◌, ◌==◌, cond, nat_lt, Bool, true, false, not, ◌||◌, List, [], ◌∷◌, ◌++◌, length, take, drop, get_or, Option, Some, None, is_some, Ok, Err, refl, sym, ap, subst, ◌∙◌, arith, inl, inr, ◌⊎◌, length-append, pos, neg_ℤ}
use Rattle.std.specs.List.{list_all, take_while}
use Rattle.std.specs.Option.{option_map}
use Rattle.std.specs.Char.{is_ascii_digit}
use Rattle.std.proofs.lemmas.Bool.Decides.{nat_tests}
use Rattle.std.proofs.lemmas.Bool.{and_parts, or_parts, cases_eq, cases_lt}
use Rattle.std.proofs.lemmas.List.{append_assoc}
use Rattle.std.proofs.lemmas.Option.{none-some}
use Rattle.rtlil_lexer.specs.declared.token.TokenKind.{TokenKind}
use Rattle.rtlil_lexer.specs.declared.token.TokenKind.TheVariants as token
use Rattle.rtlil_lexer.specs.declared.fault.TextFaultKind.{TextFaultKind}
use Rattle.rtlil_lexer.specs.declared.fault.TextFaultKind.TheVariants as fault
use Rattle.rtlil_lexer.specs.Characters.{is_white, is_line_feed, is_letter, is_name_byte, is_constant_digit}
use Rattle.rtlil_lexer.specs.Constants.{constant_value, widest}
use Rattle.rtlil_lexer.specs.Numbers.{decimal, integer_of}
use Rattle.rtlil_lexer.specs.Strings.{is_byte, body_length}
use Rattle.rtlil_lexer.specs.Pieces.{First, first_of, token_of, gap_of, comment_at, word_at, identifier_at, number_at, negative_at, constant_at, constant_of, constant_first, integer_first, string_at, closed_first, string_first, sign_at}
use Rattle.rtlil_lexer.specs.Reading.{NotOn, IsRun, Writes, IsConstant, IsWithin, IsPiece, IsFaulty, sign_of, begins_piece}
use Rattle.rtlil_lexer.specs.Reading as reading
use Rattle.rtlil_lexer.proofs.Runs.{taken, take_all}
use Rattle.rtlil_lexer.proofs.Bodies.{closed, resolved, body_counted, unequal}

-- what stands first in a text, if it has a first byte
abbrev pub first_in : List ℕ → Option First
first_in [] = None
first_in (b ∷ rest) = Some (first_of b rest)

-- ---- which rule a first byte asks for

white_first : (b : ℕ) (rest : List ℕ) → is_white b ≡ true → first_of b rest ≡ gap_of 1
unfolding first_of
white_first b rest e = rw e refl

line_feed_first : (rest : List ℕ) → first_of 10 rest ≡ token_of token.EndOfLine 1
unfolding first_of
line_feed_first rest = refl

comment_first : (rest : List ℕ) → first_of 35 rest ≡ comment_at (35 ∷ rest)
unfolding first_of
comment_first rest = refl

-- letters are no white space, no line feed and no number sign
letter_first : (b : ℕ) (rest : List ℕ) → is_letter b ≡ true → first_of b rest ≡ word_at (b ∷ rest)
unfolding first_of
letter_first b rest e = grind (arith, nat_tests)

digit_first : (b : ℕ) (rest : List ℕ) → is_ascii_digit b ≡ true → first_of b rest ≡ number_at (b ∷ rest)
unfolding first_of
digit_first b rest e = grind (arith, nat_tests)

minus_first : (rest : List ℕ) → first_of 45 rest ≡ negative_at rest
unfolding first_of
minus_first rest = refl

name_first : (b : ℕ) (rest : List ℕ) → (b ≡ 92) ⊎ (b ≡ 36) → first_of b rest ≡ identifier_at b rest
unfolding first_of
name_first b rest (inl e) = rw e refl
name_first b rest (inr e) = rw e refl

quote_first : (rest : List ℕ) → first_of 34 rest ≡ string_at rest
unfolding first_of
quote_first rest = refl

-- ---- a piece stands first in its text

abbrev Stands : List ℕ → TokenKind → ℕ → Type 0
Stands text kind size = first_in text ≡ Some (token_of kind size)

counts : (xs ys : List ℕ) → get_or (xs ++ ys) (length xs) 0 ≡ get_or ys 0 0
counts [] ys = refl
counts (x ∷ xs) ys = counts xs ys

behind_first : (xs ys : List ℕ) (y : ℕ) → drop (length xs + 1) (xs ++ y ∷ ys) ≡ ys
behind_first xs ys y = let e : length xs + 1 ≡ suc (length xs) = omega arith in ap (λ n. drop n (xs ++ y ∷ ys)) e ∙ dropped xs ys y
  where
    dropped : (xs ys : List ℕ) (y : ℕ) → drop (suc (length xs)) (xs ++ y ∷ ys) ≡ ys
    dropped [] ys y = refl
    dropped (x ∷ xs) ys y = dropped xs ys y

not_first : (n : ℕ) (rest : List ℕ) → (0 == n) ≡ false → NotOn (λ b. b == n) rest → (get_or rest 0 0 == n) ≡ false
not_first n [] z ends = z
not_first n (r ∷ rest) z ends = ends

comment_piece : (text rest : List ℕ) → list_all (λ b. not (is_line_feed b)) text ≡ true → NotOn (λ b. not (is_line_feed b)) rest
    → first_in (35 ∷ text ++ rest) ≡ Some (gap_of (length (35 ∷ text)))
unfolding comment_at
comment_piece text rest each ends = ap Some (comment_first (text ++ rest) ∙ ap (λ xs. gap_of (length xs)) (taken (λ b. not (is_line_feed b)) (35 ∷ text) rest each ends))

word_piece : (letters rest : List ℕ) → IsRun is_letter letters → NotOn is_letter rest → Stands (letters ++ rest) (token.Word letters) (length letters)
unfolding word_at
word_piece [] rest run ends = absurd (omega (arith, run.some))
word_piece (l ∷ ls) rest run ends =
    ap Some (letter_first l (ls ++ rest) (and_parts (is_letter l) (list_all is_letter ls) run.each).0
    ∙ ap (λ w. token_of (token.Word w) (length w)) (taken is_letter (l ∷ ls) rest run.each ends))

some_true : (xs : List ℕ) → 0 < length xs → nat_lt 0 (length xs) ≡ true
some_true xs some = grind (arith, nat_tests)

name_piece : (b : ℕ) (name rest : List ℕ) → (b ≡ 92) ⊎ (b ≡ 36) → IsRun is_name_byte name → NotOn is_name_byte rest → Stands (b ∷ name ++ rest) (token.Identifier (b ∷ name)) (length (b ∷ name))
unfolding identifier_at
name_piece b name rest sign run ends =
    let size : 1 + length name ≡ length (b ∷ name) = omega arith in
    ap Some (name_first b (name ++ rest) sign
    ∙ ap (λ n. cond (nat_lt 0 (length n)) (token_of (token.Identifier (b ∷ n)) (1 + length n)) (Err fault.BadByte)) (taken is_name_byte name rest run.each ends)
    ∙ ap (λ t. cond t (token_of (token.Identifier (b ∷ name)) (1 + length name)) (Err fault.BadByte)) (some_true name run.some)
    ∙ ap (token_of (token.Identifier (b ∷ name))) size)

-- digits that no digit and no quote follow
no_digit : (rest : List ℕ) → NotOn (λ b. is_ascii_digit b || b == 39) rest → NotOn is_ascii_digit rest
no_digit [] ends = tt
no_digit (r ∷ rest) ends = (or_parts (is_ascii_digit r) (r == 39) ends).0

no_quote : (rest : List ℕ) → NotOn (λ b. is_ascii_digit b || b == 39) rest → (get_or rest 0 0 == 39) ≡ false
no_quote [] ends = refl
no_quote (r ∷ rest) ends = (or_parts (is_ascii_digit r) (r == 39) ends).1

integer_within : (digits : List ℕ) → decimal digits ≤ 2147483647 → integer_of false digits ≡ Some (pos (decimal digits))
integer_within digits le = grind (arith, nat_tests)

integer_beyond : (digits : List ℕ) → 2147483647 < decimal digits → integer_of false digits ≡ None
integer_beyond digits lt = grind (arith, nat_tests)

negative_within : (digits : List ℕ) → decimal digits ≤ 2147483648 → integer_of true digits ≡ Some (neg_ℤ (pos (decimal digits)))
negative_within digits le = grind (arith, nat_tests)

negative_beyond : (digits : List ℕ) → 2147483648 < decimal digits → integer_of true digits ≡ None
negative_beyond digits lt = grind (arith, nat_tests)

integer_text : (digits rest : List ℕ) → IsRun is_ascii_digit digits → NotOn (λ b. is_ascii_digit b || b == 39) rest → first_in (digits ++ rest) ≡ Some (integer_first (length digits) (integer_of false digits))
unfolding number_at
integer_text [] rest run ends = absurd (omega (arith, run.some))
integer_text (d ∷ ds) rest run ends =
    let whole = taken is_ascii_digit (d ∷ ds) rest run.each (no_digit rest ends) in
    ap Some (digit_first d (ds ++ rest) (and_parts (is_ascii_digit d) (list_all is_ascii_digit ds) run.each).0
    ∙ ap (λ w. cond (get_or (d ∷ ds ++ rest) (length w) 0 == 39) (constant_at w (drop (length w + 1) (d ∷ ds ++ rest))) (integer_first (length w) (integer_of false w))) whole
    ∙ ap (λ t. cond t (constant_at (d ∷ ds) (drop (length (d ∷ ds) + 1) (d ∷ ds ++ rest))) (integer_first (length (d ∷ ds)) (integer_of false (d ∷ ds)))) (ap (λ b. b == 39) (counts (d ∷ ds) rest) ∙ no_quote rest ends))

negative_text : (digits rest : List ℕ) → IsRun is_ascii_digit digits → NotOn is_ascii_digit rest → first_in (45 ∷ digits ++ rest) ≡ Some (integer_first (length (45 ∷ digits)) (integer_of true digits))
unfolding negative_at
negative_text digits rest run ends =
    let size : 1 + length digits ≡ length (45 ∷ digits) = omega arith in
    ap Some (minus_first (digits ++ rest)
    ∙ ap (λ w. cond (nat_lt 0 (length w)) (integer_first (1 + length w) (integer_of true w)) (Err fault.BadByte)) (taken is_ascii_digit digits rest run.each ends)
    ∙ ap (λ t. cond t (integer_first (1 + length digits) (integer_of true digits)) (Err fault.BadByte)) (some_true digits run.some)
    ∙ ap (λ n. integer_first n (integer_of true digits)) size)

-- a constant behind its quote
constant_tail : (width sign digits rest : List ℕ) → (sign ≡ []) ⊎ (sign ≡ 115 ∷ []) → list_all is_constant_digit digits ≡ true → NotOn is_constant_digit rest → (sign ≡ [] → NotOn (λ b. b == 115) (digits ++ rest))
    → constant_at width (sign ++ (digits ++ rest)) ≡ constant_first (length width + 1 + length sign + length digits) (constant_of (decimal width) digits)
unfolding constant_at
constant_tail width sign digits rest (inl e) each ends unsigned = subst (λ s. constant_at width (s ++ (digits ++ rest)) ≡ constant_first (length width + 1 + length s + length digits) (constant_of (decimal width) digits)) (sym e) (bare width digits rest each ends (unsigned e))
  where
    bare : (width digits rest : List ℕ) → list_all is_constant_digit digits ≡ true → NotOn is_constant_digit rest → NotOn (λ b. b == 115) (digits ++ rest)
        → constant_at width (digits ++ rest) ≡ constant_first (length width + 1 + 0 + length digits) (constant_of (decimal width) digits)
    bare width digits rest each ends none = rw (not_first 115 (digits ++ rest) refl none) (ap (λ w. constant_first (length width + 1 + 0 + length w) (constant_of (decimal width) w)) (taken is_constant_digit digits rest each ends))
constant_tail width sign digits rest (inr e) each ends unsigned = subst (λ s. constant_at width (s ++ (digits ++ rest)) ≡ constant_first (length width + 1 + length s + length digits) (constant_of (decimal width) digits)) (sym e) (signed width digits rest each ends)
  where
    signed : (width digits rest : List ℕ) → list_all is_constant_digit digits ≡ true → NotOn is_constant_digit rest
        → constant_at width (115 ∷ digits ++ rest) ≡ constant_first (length width + 1 + 1 + length digits) (constant_of (decimal width) digits)
    signed width digits rest each ends = ap (λ w. constant_first (length width + 1 + 1 + length w) (constant_of (decimal width) w)) (taken is_constant_digit digits rest each ends)

constant_text : (width sign digits rest : List ℕ) → IsConstant width sign digits rest
    → first_in (width ++ (39 ∷ sign ++ (digits ++ rest))) ≡ Some (constant_first (length (width ++ (39 ∷ sign ++ digits))) (constant_of (decimal width) digits))
unfolding number_at
constant_text [] sign digits rest is = absurd (omega (arith, is.sized.some))
constant_text (w ∷ ws) sign digits rest is =
    let tail = sign ++ (digits ++ rest) in
    let whole = taken is_ascii_digit (w ∷ ws) (39 ∷ tail) is.sized.each refl in
    let size : length (w ∷ ws) + 1 + length sign + length digits ≡ length (w ∷ ws ++ (39 ∷ sign ++ digits)) = omega (arith, length-append (w ∷ ws) (39 ∷ sign ++ digits), length-append sign digits) in
    ap Some (digit_first w (ws ++ 39 ∷ tail) (and_parts (is_ascii_digit w) (list_all is_ascii_digit ws) is.sized.each).0
    ∙ ap (λ v. cond (get_or (w ∷ ws ++ 39 ∷ tail) (length v) 0 == 39) (constant_at v (drop (length v + 1) (w ∷ ws ++ 39 ∷ tail))) (integer_first (length v) (integer_of false v))) whole
    ∙ ap (λ t. cond t (constant_at (w ∷ ws) (drop (length (w ∷ ws) + 1) (w ∷ ws ++ 39 ∷ tail))) (integer_first (length (w ∷ ws)) (integer_of false (w ∷ ws)))) (ap (λ b. b == 39) (counts (w ∷ ws) (39 ∷ tail)))
    ∙ ap (constant_at (w ∷ ws)) (behind_first (w ∷ ws) tail 39)
    ∙ constant_tail (w ∷ ws) sign digits rest is.signed is.each is.ends is.unsigned
    ∙ ap (λ n. constant_first n (constant_of (decimal (w ∷ ws)) digits)) size)

constant_within : (width digits : List ℕ) → IsWithin width digits → constant_of (decimal width) digits ≡ Some (constant_value (decimal width) digits)
constant_within width digits w = let a = w.narrow in let b = w.fits in grind (arith, nat_tests)

string_text : (body bytes rest : List ℕ) → Writes body bytes → first_in (34 ∷ body ++ 34 ∷ rest) ≡ Some (string_first (length body + 2) (cond (list_all is_byte bytes) (Some bytes) None))
unfolding string_at
string_text body bytes rest w =
    ap Some (quote_first (body ++ 34 ∷ rest)
    ∙ ap (λ o. closed_first (option_map (λ size. take size (body ++ 34 ∷ rest)) o)) (closed body bytes rest w)
    ∙ ap (λ b. closed_first (Some b)) (take_all body (34 ∷ rest))
    ∙ ap (λ bs. string_first (length body + 2) (cond (list_all is_byte bs) (Some bs) None)) (resolved body bytes w))

same_some : {A : Type 0} (x y : A) → Some x ≡ Some y → x ≡ y
same_some x y e = grind arith

sign_case : (b n : ℕ) (k kind : TokenKind) (rest : List ℕ) → b ≡ n → first_of n rest ≡ token_of k 1 → sign_of n ≡ Some k → sign_of b ≡ Some kind → first_of b rest ≡ token_of kind 1
sign_case b n k kind rest e first sign is =
    ap (λ x. first_of x rest) e ∙ first ∙ ap (λ x. token_of x 1) (same_some k kind (sym sign ∙ ap sign_of (sym e) ∙ is))

no_sign : (b : ℕ) → b ≢ 123 → b ≢ 125 → b ≢ 91 → b ≢ 93 → b ≢ 58 → b ≢ 44 → sign_of b ≡ None
no_sign b n1 n2 n3 n4 n5 n6 = rw (unequal b 123 n1) (rw (unequal b 125 n2) (rw (unequal b 91 n3) (rw (unequal b 93 n4) (rw (unequal b 58 n5) (rw (unequal b 44 n6) refl)))))

whole_constant : (width sign digits rest : List ℕ) → (width ++ (39 ∷ sign ++ digits)) ++ rest ≡ width ++ (39 ∷ sign ++ (digits ++ rest))
whole_constant width sign digits rest = append_assoc width (39 ∷ sign ++ digits) rest ∙ ap (λ t. width ++ 39 ∷ t) (append_assoc sign digits rest)

string_size : (body : List ℕ) → length body + 2 ≡ length (34 ∷ body ++ 34 ∷ [])
string_size body = let l = length-append body (34 ∷ []) in omega arith

sign_piece : (b : ℕ) (kind : TokenKind) (rest : List ℕ) → sign_of b ≡ Some kind → first_of b rest ≡ token_of kind 1
unfolding first_of sign_at
sign_piece b kind rest is =
    elim (cases_eq b 123) [
      | inl e ↦ sign_case b 123 token.LeftBrace kind rest e refl refl is
      | inr n1 ↦
          elim (cases_eq b 125) [
            | inl e ↦ sign_case b 125 token.RightBrace kind rest e refl refl is
            | inr n2 ↦
                elim (cases_eq b 91) [
                  | inl e ↦ sign_case b 91 token.LeftBracket kind rest e refl refl is
                  | inr n3 ↦
                      elim (cases_eq b 93) [
                        | inl e ↦ sign_case b 93 token.RightBracket kind rest e refl refl is
                        | inr n4 ↦
                            elim (cases_eq b 58) [
                              | inl e ↦ sign_case b 58 token.Colon kind rest e refl refl is
                              | inr n5 ↦
                                  elim (cases_eq b 44) [
                                    | inl e ↦ sign_case b 44 token.Comma kind rest e refl refl is
                                    | inr n6 ↦
                                        absurd (none-some kind (sym (no_sign b n1 n2 n3 n4 n5 n6) ∙ is))
                                  ]
                            ]
                      ]
                ]
          ]
    ]

-- a piece is what stands first in its text
pub piece_first : (bytes : List ℕ) (kind : Option TokenKind) (rest : List ℕ) → IsPiece bytes kind rest → first_in (bytes ++ rest) ≡ Some (Ok (record { token = kind; length = length bytes }))
piece_first _ _ _ (reading.white b rest is) = ap Some (white_first b rest is)
piece_first _ _ _ (reading.comment text rest each ends) = comment_piece text rest each ends
piece_first _ _ _ (reading.line_feed rest) = ap Some (line_feed_first rest)
piece_first _ _ _ (reading.word letters rest run ends) = word_piece letters rest run ends
piece_first _ _ _ (reading.identifier b name rest sign run ends) = name_piece b name rest sign run ends
piece_first _ _ _ (reading.integer digits rest run ends le) = integer_text digits rest run ends ∙ ap (λ n. Some (integer_first (length digits) n)) (integer_within digits le)
piece_first _ _ _ (reading.negative digits rest run ends le) = negative_text digits rest run ends ∙ ap (λ n. Some (integer_first (length (45 ∷ digits)) n)) (negative_within digits le)
piece_first _ _ _ (reading.constant width sign digits rest is within) =
    ap first_in (whole_constant width sign digits rest) ∙ constant_text width sign digits rest is ∙ ap (λ c. Some (constant_first (length (width ++ (39 ∷ sign ++ digits))) c)) (constant_within width digits within)
piece_first _ _ _ (reading.string body bytes rest w all) =
    ap (λ t. first_in (34 ∷ t)) (append_assoc body (34 ∷ []) rest) ∙ string_text body bytes rest w
    ∙ ap (λ t. Some (string_first (length body + 2) (cond t (Some bytes) None))) all
    ∙ ap (λ n. Some (token_of (token.String bytes) n)) (string_size body)
piece_first _ _ _ (reading.sign b kind rest is) = ap Some (sign_piece b kind rest is)

-- ---- a fault is what stands first in its text

no_sign_first : (b : ℕ) → is_some (sign_of b) ≡ false → sign_at b ≡ Err fault.BadByte
unfolding sign_at
no_sign_first b none = grind (arith, nat_tests)

stray_first : (b : ℕ) (rest : List ℕ) → begins_piece b ≡ false → first_of b rest ≡ Err fault.BadByte
unfolding first_of sign_at
stray_first b rest none =
    let p1 = or_parts _ (is_some (sign_of b)) none in
    let p2 = or_parts _ (b == 34) p1.0 in
    let p3 = or_parts _ (b == 36) p2.0 in
    let p4 = or_parts _ (b == 92) p3.0 in
    let p5 = or_parts _ (b == 45) p4.0 in
    let p6 = or_parts _ (is_ascii_digit b) p5.0 in
    let p7 = or_parts _ (is_letter b) p6.0 in
    let p8 = or_parts _ (b == 35) p7.0 in
    let p9 = or_parts (is_white b) (is_line_feed b) p8.0 in
    rw p9.0 (rw p9.1 (rw p8.1 (rw p7.1 (rw p6.1 (rw p5.1 (rw p4.1 (rw p3.1 (rw p2.1 (no_sign_first b p1.1)))))))))

empty_run : (p : ℕ → Bool) (rest : List ℕ) → NotOn p rest → take_while p rest ≡ []
empty_run p rest ends = taken p [] rest refl ends

lone_minus_first : (rest : List ℕ) → NotOn is_ascii_digit rest → first_of 45 rest ≡ Err fault.BadByte
unfolding negative_at
lone_minus_first rest ends = minus_first rest ∙ ap (λ w. cond (nat_lt 0 (length w)) (integer_first (1 + length w) (integer_of true w)) (Err fault.BadByte)) (empty_run is_ascii_digit rest ends)

lone_sign_first : (b : ℕ) (rest : List ℕ) → (b ≡ 92) ⊎ (b ≡ 36) → NotOn is_name_byte rest → first_of b rest ≡ Err fault.BadByte
unfolding identifier_at
lone_sign_first b rest sign ends = name_first b rest sign ∙ ap (λ n. cond (nat_lt 0 (length n)) (token_of (token.Identifier (b ∷ n)) (1 + length n)) (Err fault.BadByte)) (empty_run is_name_byte rest ends)

IsOpen : List ℕ → Type 0
IsOpen rest = (body bytes more : List ℕ) → Writes body bytes → rest ≢ body ++ 34 ∷ more

not_counted : (rest : List ℕ) (o : Option ℕ) → IsOpen rest → body_length false rest ≡ o → closed_first (option_map (λ size. take size rest) o) ≡ Err fault.BadString
unfolding IsOpen
not_counted rest None none is = refl
not_counted rest (Some n) none is = let c = body_counted rest n is in absurd (none c.body c.bytes c.more c.writes c.is)

open_first : (rest : List ℕ) → IsOpen rest → first_of 34 rest ≡ Err fault.BadString
unfolding string_at
open_first rest none = quote_first rest ∙ not_counted rest (body_length false rest) none refl

too_wide : (width digits : List ℕ) → widest < decimal width → constant_of (decimal width) digits ≡ None
too_wide width digits lt = grind (arith, nat_tests)

too_many : (width digits : List ℕ) → decimal width < length digits → constant_of (decimal width) digits ≡ None
too_many width digits lt = grind (arith, nat_tests)

not_within : (width digits : List ℕ) → (IsWithin width digits → ⊥) → constant_of (decimal width) digits ≡ None
not_within width digits out = elim (cases_lt widest (decimal width)) [
  | inl lt ↦ too_wide width digits lt
  | inr le ↦ elim (cases_lt (decimal width) (length digits)) [
    | inl lt ↦ too_many width digits lt
    | inr fits ↦ absurd (out (record { narrow = le; fits = fits }))
  ]
]

pub fault_first : (text : List ℕ) (kind : TextFaultKind) → IsFaulty text kind → first_in text ≡ Some (Err kind)
unfolding IsOpen
fault_first _ _ (reading.stray_byte b rest none) = ap Some (stray_first b rest none)
fault_first _ _ (reading.lone_minus rest ends) = ap Some (lone_minus_first rest ends)
fault_first _ _ (reading.lone_sign b rest sign ends) = ap Some (lone_sign_first b rest sign ends)
fault_first _ _ (reading.open_string rest none) = ap Some (open_first rest none)
fault_first _ _ (reading.wide_escape body bytes rest w out) = string_text body bytes rest w ∙ ap (λ t. Some (string_first (length body + 2) (cond t (Some bytes) None))) out
fault_first _ _ (reading.great_integer digits rest run ends lt) = integer_text digits rest run ends ∙ ap (λ n. Some (integer_first (length digits) n)) (integer_beyond digits lt)
fault_first _ _ (reading.great_negative digits rest run ends lt) = negative_text digits rest run ends ∙ ap (λ n. Some (integer_first (length (45 ∷ digits)) n)) (negative_beyond digits lt)
fault_first _ _ (reading.wide_constant width sign digits rest is out) = constant_text width sign digits rest is ∙ ap (λ c. Some (constant_first (length (width ++ (39 ∷ sign ++ digits))) c)) (not_within width digits out)
