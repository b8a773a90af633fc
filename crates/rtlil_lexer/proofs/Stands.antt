-- What stands first in a text is a piece or a fault.
use Rattle.std.proofs.Common.{◌≡◌, ◌≢◌, ℕ, ◌==◌, Bool, true, false, not, ◌||◌, List, [], ◌∷◌, ◌++◌, length, drop, Option, Some, None, is_some, Ok, Err, refl, sym, ap, subst, ◌∙◌, arith, inl, inr, ◌⊎◌, pos, neg_ℤ}
use Rattle.std.specs.List.{list_all, prefix_len, take_while}
use Rattle.std.specs.Char.{is_ascii_digit}
use Rattle.std.proofs.lemmas.Bool.Decides.{nat_tests}
use Rattle.std.proofs.lemmas.Bool.{and_from, or_from, cases_eq, cases_lt}
use Rattle.std.proofs.lemmas.List.{append_assoc, take-append-drop}
use Rattle.std.proofs.lemmas.Option.{none-some}
use Rattle.rtlil_lexer.specs.declared.token.TokenKind.{TokenKind}
use Rattle.rtlil_lexer.specs.declared.token.TokenKind.TheVariants as token
use Rattle.rtlil_lexer.specs.declared.fault.TextFaultKind.{TextFaultKind}
use Rattle.rtlil_lexer.specs.declared.fault.TextFaultKind.TheVariants as fault
use Rattle.rtlil_lexer.specs.Characters.{is_white, is_line_feed, is_letter, is_name_byte, is_constant_digit}
use Rattle.rtlil_lexer.specs.Constants.{widest}
use Rattle.rtlil_lexer.specs.Numbers.{decimal}
use Rattle.rtlil_lexer.specs.Strings.{is_byte, body_length}
use Rattle.rtlil_lexer.specs.Pieces.{First, first_of}
use Rattle.rtlil_lexer.specs.Reading.{NotOn, IsRun, Writes, IsConstant, IsWithin, IsPiece, IsFaulty, sign_of, begins_piece}
use Rattle.rtlil_lexer.specs.Reading as reading
use Rattle.rtlil_lexer.proofs.Runs.{front_each, front_ends}
use Rattle.rtlil_lexer.proofs.Bodies.{body_counted, Closed, closed}
use Rattle.rtlil_lexer.proofs.Pieces.{first_in, piece_first, fault_first}

-- a text begins with a piece of a kind
pub record Begins (text : List ℕ) (kind : Option TokenKind) (size : ℕ) : Type 0 where
  pub bytes : List ℕ
  pub rest : List ℕ
  pub piece : IsPiece bytes kind rest
  pub is : text ≡ bytes ++ rest
  pub sized : length bytes ≡ size

-- what stands first is a piece, or a fault
abbrev pub Stood : List ℕ → First → Type 0
Stood text (Ok p) = Begins text p.token p.length
Stood text (Err kind) = IsFaulty text kind

same_answer : {A : Type 0} (x y : A) → Some x ≡ Some y → x ≡ y
same_answer x y e = grind arith

-- a piece at the front settles what stands first
pub by_piece : (b : ℕ) (text bytes : List ℕ) (kind : Option TokenKind) (rest : List ℕ) → IsPiece bytes kind rest → b ∷ text ≡ bytes ++ rest → Stood (b ∷ text) (first_of b text)
by_piece b text bytes kind rest piece is =
    let first : first_of b text ≡ Ok (record { token = kind; length = length bytes }) = same_answer _ _ (ap first_in is ∙ piece_first bytes kind rest piece) in
    subst (Stood (b ∷ text)) (sym first) (record { bytes = bytes; rest = rest; piece = piece; is = is; sized = refl })

-- and so does a fault
pub by_fault : (b : ℕ) (text faulty : List ℕ) (kind : TextFaultKind) → IsFaulty faulty kind → b ∷ text ≡ faulty → Stood (b ∷ text) (first_of b text)
by_fault b text faulty kind fault is =
    let first : first_of b text ≡ Err kind = same_answer _ _ (ap first_in is ∙ fault_first faulty kind fault) in
    subst (Stood (b ∷ text)) (sym first) (subst (λ t. IsFaulty t kind) (sym is) fault)

-- ---- the front of a text that passes a test

-- the bytes that pass, and what follows
record Front (p : ℕ → Bool) (text : List ℕ) : Type 0 where
  front : List ℕ
  rest : List ℕ
  is : text ≡ front ++ rest
  each : list_all p front ≡ true
  ends : NotOn p rest

front_of : (p : ℕ → Bool) (text : List ℕ) → Front p text
front_of p text = record {
  front = take_while p text;
  rest = drop (prefix_len p text) text;
  is = sym (take-append-drop (prefix_len p text) text);
  each = front_each p text;
  ends = front_ends p text;
}

-- a front that begins with a byte that passes
longer : (p : ℕ → Bool) (b : ℕ) (text : List ℕ) → p b ≡ true → Front p text → Front p (b ∷ text)
longer p b text e f = record {
  front = b ∷ f.front;
  rest = f.rest;
  is = ap (λ t. b ∷ t) f.is;
  each = and_from (p b) (list_all p f.front) e f.each;
  ends = f.ends;
}

run_behind : (p : ℕ → Bool) (b : ℕ) (front : List ℕ) → p b ≡ true → list_all p front ≡ true → IsRun p (b ∷ front)
run_behind p b front e each = record { some = omega arith; each = and_from (p b) (list_all p front) e each }

-- ---- one rule after another

comment_stands : (text : List ℕ) → Stood (35 ∷ text) (first_of 35 text)
comment_stands text = let f = front_of (λ b. not (is_line_feed b)) text in
    by_piece 35 text (35 ∷ f.front) None f.rest (reading.comment f.front f.rest f.each f.ends) (ap (λ t. 35 ∷ t) f.is)

word_stands : (b : ℕ) (text : List ℕ) → is_letter b ≡ true → Stood (b ∷ text) (first_of b text)
word_stands b text e = let f = front_of is_letter text in
    by_piece b text (b ∷ f.front) (Some (token.Word (b ∷ f.front))) f.rest (reading.word (b ∷ f.front) f.rest (run_behind is_letter b f.front e f.each) f.ends) (ap (λ t. b ∷ t) f.is)

name_stands : (b : ℕ) (text : List ℕ) → (b ≡ 92) ⊎ (b ≡ 36) → Stood (b ∷ text) (first_of b text)
name_stands b text sign = let f = front_of is_name_byte text in by f.front f.rest f.is f.each f.ends
  where
    by : (name rest : List ℕ) → text ≡ name ++ rest → list_all is_name_byte name ≡ true → NotOn is_name_byte rest → Stood (b ∷ text) (first_of b text)
    by [] rest is each ends = by_fault b text (b ∷ rest) fault.BadByte (reading.lone_sign b rest sign ends) (ap (λ t. b ∷ t) is)
    by (c ∷ name) rest is each ends = by_piece b text (b ∷ c ∷ name) (Some (token.Identifier (b ∷ c ∷ name))) rest (reading.identifier b (c ∷ name) rest sign (record { some = omega arith; each = each }) ends) (ap (λ t. b ∷ t) is)

negative_stands : (text : List ℕ) → Stood (45 ∷ text) (first_of 45 text)
negative_stands text = let f = front_of is_ascii_digit text in by f.front f.rest f.is f.each f.ends
  where
    by : (digits rest : List ℕ) → text ≡ digits ++ rest → list_all is_ascii_digit digits ≡ true → NotOn is_ascii_digit rest → Stood (45 ∷ text) (first_of 45 text)
    by [] rest is each ends = by_fault 45 text (45 ∷ rest) fault.BadByte (reading.lone_minus rest ends) (ap (λ t. 45 ∷ t) is)
    by (d ∷ digits) rest is each ends = elim (cases_lt 2147483648 (decimal (d ∷ digits))) [
      | inl lt ↦ by_fault 45 text (45 ∷ d ∷ digits ++ rest) fault.BadNumber (reading.great_negative (d ∷ digits) rest (record { some = omega arith; each = each }) ends lt) (ap (λ t. 45 ∷ t) is)
      | inr le ↦ by_piece 45 text (45 ∷ d ∷ digits) (Some (token.Integer (neg_ℤ (pos (decimal (d ∷ digits)))))) rest (reading.negative (d ∷ digits) rest (record { some = omega arith; each = each }) ends le) (ap (λ t. 45 ∷ t) is)
    ]

-- behind digits: a quote, or the end of an integer
quote_behind : (rest : List ℕ) → ((more : List ℕ) × (rest ≡ 39 ∷ more)) ⊎ NotOn (λ b. b == 39) rest
quote_behind [] = inr tt
quote_behind (r ∷ rest) = elim (cases_eq r 39) [
  | inl e ↦ inl (rest, ap (λ b. b ∷ rest) e)
  | inr ne ↦ inr (other r ne)
]
  where
    other : (r : ℕ) → (r ≡ 39 → ⊥) → (r == 39) ≡ false
    other r ne = grind (arith, nat_tests)

neither : (rest : List ℕ) → NotOn is_ascii_digit rest → NotOn (λ b. b == 39) rest → NotOn (λ b. is_ascii_digit b || b == 39) rest
neither [] a b = tt
neither (r ∷ rest) a b = or_from (is_ascii_digit r) (r == 39) a b

-- behind a constant's quote: its sign, its digits and what follows
record Tail (text : List ℕ) : Type 0 where
  sign : List ℕ
  digits : List ℕ
  rest : List ℕ
  is : text ≡ sign ++ (digits ++ rest)
  signed : (sign ≡ []) ⊎ (sign ≡ 115 ∷ [])
  each : list_all is_constant_digit digits ≡ true
  ends : NotOn is_constant_digit rest
  unsigned : sign ≡ [] → NotOn (λ b. b == 115) (digits ++ rest)

no_cons : (x : ℕ) (xs : List ℕ) → x ∷ xs ≡ [] → ⊥
no_cons x xs e = grind (arith, ap length e)

other_than : (b n : ℕ) → (b ≡ n → ⊥) → (b == n) ≡ false
other_than b n ne = grind (arith, nat_tests)

tail_of : (text : List ℕ) → Tail text
tail_of [] = record { sign = []; digits = []; rest = []; is = refl; signed = inl refl; each = refl; ends = tt; unsigned = λ e. tt }
tail_of (t ∷ text) = elim (cases_eq t 115) [
  | inl e ↦ (let f = front_of is_constant_digit text in record {
    sign = 115 ∷ [];
    digits = f.front;
    rest = f.rest;
    is = ap (λ b. b ∷ text) e ∙ ap (λ xs. 115 ∷ xs) f.is;
    signed = inr refl;
    each = f.each;
    ends = f.ends;
    unsigned = λ z. absurd (no_cons 115 [] z);
  })
  | inr ne ↦ (let f = front_of is_constant_digit (t ∷ text) in record {
    sign = [];
    digits = f.front;
    rest = f.rest;
    is = f.is;
    signed = inl refl;
    each = f.each;
    ends = f.ends;
    unsigned = λ z. subst (NotOn (λ b. b == 115)) f.is (other_than t 115 ne);
  })
]

decided : (width digits : List ℕ) → IsWithin width digits ⊎ (IsWithin width digits → ⊥)
decided width digits = elim (cases_lt widest (decimal width)) [
  | inl lt ↦ inr (λ w. let n = w.narrow in omega arith)
  | inr narrow ↦ elim (cases_lt (decimal width) (length digits)) [
    | inl lt ↦ inr (λ w. let n = w.fits in omega arith)
    | inr fits ↦ inl (record { narrow = narrow; fits = fits })
  ]
]

constant_stands : (b : ℕ) (text width more : List ℕ) → IsRun is_ascii_digit width → b ∷ text ≡ width ++ 39 ∷ more → Stood (b ∷ text) (first_of b text)
constant_stands b text width more run is =
    let t = tail_of more in
    let c : IsConstant width t.sign t.digits t.rest = record { sized = run; signed = t.signed; each = t.each; ends = t.ends; unsigned = t.unsigned } in
    let whole : b ∷ text ≡ width ++ (39 ∷ t.sign ++ (t.digits ++ t.rest)) = is ∙ ap (λ m. width ++ 39 ∷ m) t.is in
    elim (decided width t.digits) [
      | inl w ↦ by_piece b text (width ++ (39 ∷ t.sign ++ t.digits)) (Some _) t.rest (reading.constant width t.sign t.digits t.rest c w) (whole ∙ sym (regrouped width t.sign t.digits t.rest))
      | inr out ↦ by_fault b text (width ++ (39 ∷ t.sign ++ (t.digits ++ t.rest))) fault.BadNumber (reading.wide_constant width t.sign t.digits t.rest c out) whole
    ]
  where
    regrouped : (width sign digits rest : List ℕ) → (width ++ (39 ∷ sign ++ digits)) ++ rest ≡ width ++ (39 ∷ sign ++ (digits ++ rest))
    regrouped width sign digits rest = append_assoc width (39 ∷ sign ++ digits) rest ∙ ap (λ t. width ++ (39 ∷ t)) (append_assoc sign digits rest)

integer_stands : (b : ℕ) (text digits rest : List ℕ) → IsRun is_ascii_digit digits → NotOn (λ b. is_ascii_digit b || b == 39) rest → b ∷ text ≡ digits ++ rest → Stood (b ∷ text) (first_of b text)
integer_stands b text digits rest run ends is = elim (cases_lt 2147483647 (decimal digits)) [
  | inl lt ↦ by_fault b text (digits ++ rest) fault.BadNumber (reading.great_integer digits rest run ends lt) is
  | inr le ↦ by_piece b text digits (Some (token.Integer (pos (decimal digits)))) rest (reading.integer digits rest run ends le) is
]

number_stands : (b : ℕ) (text : List ℕ) → is_ascii_digit b ≡ true → Stood (b ∷ text) (first_of b text)
number_stands b text e =
    let f = front_of is_ascii_digit text in
    let run = run_behind is_ascii_digit b f.front e f.each in
    elim (quote_behind f.rest) [
      | inl q ↦ constant_stands b text (b ∷ f.front) q.0 run (ap (λ t. b ∷ t) (f.is ∙ ap (λ r. f.front ++ r) q.1))
      | inr n ↦ integer_stands b text (b ∷ f.front) f.rest run (neither f.rest f.ends n) (ap (λ t. b ∷ t) f.is)
    ]

-- a string's body is closed, or none is
open_or_closed : (text : List ℕ) (o : Option ℕ) → body_length false text ≡ o → ((n : ℕ) × Closed text n) ⊎ ((body bytes more : List ℕ) → Writes body bytes → text ≢ body ++ 34 ∷ more)
open_or_closed text (Some n) is = inl (n, body_counted text n is)
open_or_closed text None is = inr (λ body bytes more w e. none-some (length body) (sym is ∙ ap (body_length false) e ∙ closed body bytes more w))

string_stands : (text : List ℕ) → Stood (34 ∷ text) (first_of 34 text)
string_stands text = elim (open_or_closed text (body_length false text) refl) [
  | inl c ↦ escapes c.1.body c.1.bytes c.1.more c.1.writes c.1.is (list_all is_byte c.1.bytes) refl
  | inr none ↦ by_fault 34 text (34 ∷ text) fault.BadString (reading.open_string text none) refl
]
  where
    escapes : (body bytes more : List ℕ) → Writes body bytes → text ≡ body ++ 34 ∷ more → (t : Bool) → list_all is_byte bytes ≡ t → Stood (34 ∷ text) (first_of 34 text)
    escapes body bytes more w is true all = by_piece 34 text (34 ∷ body ++ 34 ∷ []) (Some (token.String bytes)) more (reading.string body bytes more w all) (ap (λ t. 34 ∷ t) (is ∙ sym (append_assoc body (34 ∷ []) more)))
    escapes body bytes more w is false out = by_fault 34 text (34 ∷ body ++ 34 ∷ more) fault.BadString (reading.wide_escape body bytes more w out) (ap (λ t. 34 ∷ t) is)

sign_stands : (b : ℕ) (text : List ℕ) (kind : TokenKind) → sign_of b ≡ Some kind → Stood (b ∷ text) (first_of b text)
sign_stands b text kind is = by_piece b text (b ∷ []) (Some kind) text (reading.sign b kind text is) refl

at_byte : (b n : ℕ) (text : List ℕ) → b ≡ n → Stood (n ∷ text) (first_of n text) → Stood (b ∷ text) (first_of b text)
at_byte b n text e s = subst (λ x. Stood (x ∷ text) (first_of x text)) (sym e) s

stray_stands : (b : ℕ) (text : List ℕ) → begins_piece b ≡ false → Stood (b ∷ text) (first_of b text)
stray_stands b text none = by_fault b text (b ∷ text) fault.BadByte (reading.stray_byte b text none) refl

-- what may still stand first where the byte begins no other piece
signs_stand : (b : ℕ) (text : List ℕ) (o : Option TokenKind) → sign_of b ≡ o → (is_some o ≡ false → begins_piece b ≡ false) → Stood (b ∷ text) (first_of b text)
signs_stand b text (Some kind) is none = sign_stands b text kind is
signs_stand b text None is none = stray_stands b text (none refl)

told : (t : Bool) → (t ≡ true) ⊎ (t ≡ false)
told true = inl refl
told false = inr refl

-- what stands first in a text that has a first byte is a piece or a fault, as its first byte says
pub stands : (b : ℕ) (text : List ℕ) → Stood (b ∷ text) (first_of b text)
stands b text =
    elim (told (is_white b)) [
      | inl e ↦ by_piece b text (b ∷ []) None text (reading.white b text e) refl
      | inr white ↦
          elim (cases_eq b 10) [
            | inl e ↦ at_byte b 10 text e (by_piece 10 text (10 ∷ []) (Some token.EndOfLine) text (reading.line_feed text) refl)
            | inr line_feed ↦
                elim (cases_eq b 35) [
                  | inl e ↦ at_byte b 35 text e (comment_stands text)
                  | inr hash ↦
                      elim (told (is_letter b)) [
                        | inl e ↦ word_stands b text e
                        | inr letter ↦
                            elim (told (is_ascii_digit b)) [
                              | inl e ↦ number_stands b text e
                              | inr digit ↦
                                  elim (cases_eq b 45) [
                                    | inl e ↦ at_byte b 45 text e (negative_stands text)
                                    | inr minus ↦
                                        elim (cases_eq b 92) [
                                          | inl e ↦ name_stands b text (inl e)
                                          | inr backslash ↦
                                              elim (cases_eq b 36) [
                                                | inl e ↦ name_stands b text (inr e)
                                                | inr dollar ↦
                                                    elim (cases_eq b 34) [
                                                      | inl e ↦ at_byte b 34 text e (string_stands text)
                                                      | inr quote ↦
                                                          signs_stand b text (sign_of b) refl (λ none.
                                                          or_from _ _ (or_from _ _ (or_from _ _ (or_from _ _ (or_from _ _ (or_from _ _ (or_from _ _ (or_from _ _ (or_from (is_white b) (is_line_feed b) white
                                                          (other_than b 10 line_feed)) (other_than b 35 hash)) letter) digit) (other_than b 45 minus)) (other_than b 92 backslash)) (other_than b 36 dollar)) (other_than b 34 quote)) none)
                                                    ]
                                              ]
                                        ]
                                  ]
                            ]
                      ]
                ]
          ]
    ]
