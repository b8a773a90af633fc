-- The identifiers of a text are UTF-8 and have bytes but no space behind their first one.
use Rattle.std.proofs.Common.{◌≡◌, ℕ, zero, suc, ◌+◌, ◌-◌, ◌<◌, ◌≤◌, ◌==◌, not, ◌&&◌, List, [], ◌∷◌, ◌++◌, length, length-append, length-take, take, get_or, true, false, Option, Some, None, is_some, Result, Ok, Err, refl, sym, ap, subst, ◌∙◌, inl, inr, take-take, arith, IsUtf8, IsCharBoundary}
use Rattle.std.specs.Prelude.{nat_lt}
use Rattle.std.specs.List.{list_all, position_or_len}
use Rattle.std.specs.Str.{is_utf8}
use Rattle.std.specs.Str.Lossy.{valid_len_up_to, utf8_valid_len}
use Rattle.std.proofs.lemmas.Bool.{cases_lt, cond_both, and_from, and_parts, eqb-true, lt-ltb, ne_eqb, or_from}
use Rattle.std.specs.Char.{is_ascii_digit}
use Rattle.std.proofs.lemmas.List.{get_or-append-add}
use Rattle.std.proofs.lemmas.List.Folds.{length-prefix_len}
use Rattle.std.proofs.lemmas.List.Sums.{passes_at_first}
use Rattle.std.proofs.lemmas.Option.{none-some}
use Rattle.std.proofs.lemmas.Str.{IsUtf8-nil, IsUtf8-take, IsUtf8-drop, IsUtf8-from_is_utf8, is_utf8-from_IsUtf8}
use Rattle.rtlil_lexer.specs.declared.token.Token.{Token}
use Rattle.rtlil_lexer.specs.declared.token.TokenKind.{TokenKind}
use Rattle.rtlil_lexer.specs.declared.token.TokenKind.TheVariants as token
use Rattle.rtlil_lexer.specs.declared.fault.TextFault.{TextFault}
use Rattle.rtlil_lexer.specs.declared.fault.TextFaultKind.TheVariants as fault
use Rattle.rtlil_lexer.specs.Characters.{is_white, is_letter, is_name_byte}
use Rattle.rtlil_lexer.specs.Tokens.{start, tokens_in, last_end, sound_length}
use Rattle.rtlil_lexer.specs.Reading.{IsPiece, Reads, ReadsWhole, sign_of, begins_piece}
use Rattle.rtlil_lexer.specs.Reading as reading
use Rattle.rtlil_lexer.proofs.Pieces.{piece_first, fault_first}
use Rattle.rtlil_lexer.proofs.Readings.{piece_some}
use Rattle.rtlil_lexer.proofs.Runs.{drop_all_of, take_all}
use Rattle.rtlil_names.specs.Names.{has_no_space}
use Rattle.rtlil_names.proofs.Named.{IsNamedKind, AreNamed}

-- ---- what begins a piece is ASCII

no_white : (b : ℕ) → 128 ≤ b → is_white b ≡ false
no_white b high = grind arith

no_letter : (b : ℕ) → 128 ≤ b → is_letter b ≡ false
no_letter b high = grind arith

no_digit : (b : ℕ) → 128 ≤ b → is_ascii_digit b ≡ false
no_digit b high = grind arith

no_sign : (b : ℕ) → 128 ≤ b → is_some (sign_of b) ≡ false
no_sign b high = grind arith

other : (b n : ℕ) → 128 ≤ b → n < 128 → (b == n) ≡ false
other b n high low = ne_eqb b n (λ e. omega arith)

beyond : (b : ℕ) → 128 ≤ b → begins_piece b ≡ false
beyond b high =
    or_from _ _ (or_from _ _ (or_from _ _ (or_from _ _ (or_from _ _ (or_from _ _ (or_from _ _ (or_from _ _ (or_from _ _
    (no_white b high) (other b 10 high (omega arith))) (other b 35 high (omega arith))) (no_letter b high)) (no_digit b high)) (other b 45 high (omega arith)))
    (other b 92 high (omega arith))) (other b 36 high (omega arith))) (other b 34 high (omega arith))) (no_sign b high)

neither : {A B : Type 0} (o : Option (Result A B)) (p : A) (k : B) → o ≡ Some (Ok p) → o ≡ Some (Err k) → ⊥
neither o p k one other = grind arith

piece_low : (bytes : List ℕ) (kind : Option TokenKind) (rest : List ℕ) → IsPiece bytes kind rest → get_or (bytes ++ rest) 0 0 < 128
piece_low [] kind rest is = absurd (let some = piece_some [] kind rest is in omega arith)
piece_low (b ∷ bytes) kind rest is = elim (cases_lt b 128) [
  | inl low ↦ low
  | inr high ↦ absurd (neither _ _ fault.BadByte (piece_first (b ∷ bytes) kind rest is) (fault_first (b ∷ bytes ++ rest) fault.BadByte (reading.stray_byte b (bytes ++ rest) (beyond b high))))
]

text_low : (place : _) (sound : ℕ) (text : List ℕ) (tokens : List Token) (end : Option TextFault) → Reads place sound text tokens end → end ≡ None → 0 < length text → get_or text 0 0 < 128
text_low _ _ _ _ _ (reading.ended place sound) none some = absurd (omega arith)
text_low _ _ _ _ _ (reading.piece place sound bytes kind rest tokens end is le more) none some = piece_low bytes kind rest is
text_low _ _ _ _ _ (reading.unsound place sound bytes kind rest is lt) none some = absurd (none-some _ (sym none))
text_low _ _ _ _ _ (reading.faulty place sound text kind is) none some = absurd (none-some _ (sym none))

-- ---- where a text may be parted

record AreTexts (xs ys : List ℕ) : Type 0 where
  first : IsUtf8 xs
  second : IsUtf8 ys

parted : (xs ys : List ℕ) → IsUtf8 (xs ++ ys) → (0 < length ys → get_or ys 0 0 < 128) → AreTexts xs ys
parted xs ys whole low =
    let seam : IsCharBoundary (xs ++ ys) (length xs) = at_seam in
    record { first = subst IsUtf8 (take_all xs ys) (IsUtf8-take (xs ++ ys) (length xs) whole seam); second = subst IsUtf8 (drop_all_of xs ys) (IsUtf8-drop (xs ++ ys) (length xs) whole seam) }
  where
    plus : length xs ≡ length xs + 0
    plus = omega arith

    same : get_or (xs ++ ys) (length xs) 0 ≡ get_or ys 0 0
    same = ap (λ n. get_or (xs ++ ys) n 0) plus ∙ get_or-append-add xs ys 0 0

    at_seam : IsCharBoundary (xs ++ ys) (length xs)
    at_seam = (let l = length-append xs ys in omega arith, λ lt high. absurd (let l = length-append xs ys in let s = same in let b = low (omega arith) in omega arith))

-- ---- the front that is sound

front_text : (bytes : List ℕ) (n : ℕ) → IsUtf8 (take (valid_len_up_to bytes n) bytes)
front_text bytes zero = IsUtf8-nil
front_text bytes (suc n) = cond_both (is_utf8 (take (suc n) bytes)) (suc n) (valid_len_up_to bytes n) (λ m. IsUtf8 (take m bytes)) (λ is. IsUtf8-from_is_utf8 (take (suc n) bytes) is) (λ _. front_text bytes n)

valid_text : (bytes : List ℕ) → IsUtf8 (take (utf8_valid_len bytes) bytes)
unfolding utf8_valid_len
valid_text bytes = front_text bytes (length bytes)

first_within : (bytes : List ℕ) → position_or_len (λ b. b == 0) bytes ≤ length bytes
first_within bytes = let same = length-prefix_len (λ b. not (b == 0)) bytes in let taken = length-take (position_or_len (λ b. b == 0) bytes) bytes in omega arith

zero_parts : (bytes : List ℕ) → IsUtf8 bytes → IsUtf8 (take (position_or_len (λ b. b == 0) bytes) bytes)
zero_parts bytes whole = IsUtf8-take bytes (position_or_len (λ b. b == 0) bytes) whole
    (first_within bytes, λ lt high. absurd (let z = eqb-true _ 0 (passes_at_first (λ b. b == 0) bytes 0 lt) in omega arith))

sound_text : (bytes : List ℕ) → IsUtf8 (take (sound_length bytes) bytes)
sound_text bytes = subst IsUtf8 (take-take (sound_length bytes) (utf8_valid_len bytes) bytes within) (zero_parts (take (utf8_valid_len bytes) bytes) (valid_text bytes))
  where
    within : sound_length bytes ≤ utf8_valid_len bytes
    within = let first = first_within (take (utf8_valid_len bytes) bytes) in let taken = length-take (utf8_valid_len bytes) bytes in omega arith

-- ---- pieces

name_byte : (b : ℕ) → is_name_byte b ≡ true → not (b == 32) ≡ true
name_byte b is = grind arith

spaceless : (name : List ℕ) → list_all is_name_byte name ≡ true → has_no_space name ≡ true
spaceless [] each = refl
spaceless (b ∷ name) each = let parts = and_parts (is_name_byte b) (list_all is_name_byte name) each in and_from (not (b == 32)) (has_no_space name) (name_byte b parts.0) (spaceless name parts.1)

longer : (b : ℕ) (name : List ℕ) → 0 < length name → nat_lt 1 (length (b ∷ name)) ≡ true
longer b name some = lt-ltb 1 (length (b ∷ name)) (omega (arith, some))

no_identifier : (b : ℕ) (name : List ℕ) → sign_of b ≡ Some (token.Identifier name) → ⊥
no_identifier b name is = grind arith

sign_named : (b : ℕ) (kind : TokenKind) → sign_of b ≡ Some kind → IsNamedKind kind
sign_named b (token.Identifier name) is = absurd (no_identifier b name is)
sign_named b _ is = tt

piece_named : (place : _) (bytes : List ℕ) (kind : Option TokenKind) (rest : List ℕ) → IsPiece bytes kind rest → IsUtf8 bytes → AreNamed (tokens_in place kind)
piece_named place _ _ _ (reading.white b rest is) text = tt
piece_named place _ _ _ (reading.comment bytes rest each ends) text = tt
piece_named place _ _ _ (reading.line_feed rest) text = (tt, tt)
piece_named place _ _ _ (reading.word letters rest run ends) text = (tt, tt)
piece_named place _ _ _ (reading.identifier b name rest first run ends) text = (record { text = is_utf8-from_IsUtf8 (b ∷ name) text; spaceless = spaceless name run.each; long = longer b name run.some }, tt)
piece_named place _ _ _ (reading.integer digits rest run ends le) text = (tt, tt)
piece_named place _ _ _ (reading.negative digits rest run ends le) text = (tt, tt)
piece_named place _ _ _ (reading.constant width sign digits rest is within) text = (tt, tt)
piece_named place _ _ _ (reading.string body bytes rest writes each) text = (tt, tt)
piece_named place _ _ _ (reading.sign b kind rest is) text = (sign_named b kind is, tt)

-- ---- texts

both_named : (xs ys : List Token) → AreNamed xs → AreNamed ys → AreNamed (xs ++ ys)
both_named [] ys first second = second
both_named (t ∷ ts) ys first second = (first.0, both_named ts ys first.1 second)

end_named : (place : _) → AreNamed (last_end place)
end_named place = cond_both (place.column == 1 && not (place.line == 1)) [] _ AreNamed (λ _. tt) (λ _. (tt, tt))

take_behind : (xs ys : List ℕ) (n : ℕ) → length xs ≤ n → take n (xs ++ ys) ≡ xs ++ take (n - length xs) ys
take_behind [] ys n le = ap (λ m. take m ys) (less n)
  where
    less : (n : ℕ) → n ≡ n - 0
    less n = omega arith
take_behind (x ∷ xs) ys zero le = absurd (omega arith)
take_behind (x ∷ xs) ys (suc n) le = ap (λ zs. x ∷ zs) (take_behind xs ys n (omega arith) ∙ ap (λ m. xs ++ take m ys) (less n (length xs)))
  where
    less : (n m : ℕ) → n - m ≡ suc n - suc m
    less n m = omega arith

first_taken : (n : ℕ) (xs : List ℕ) → (0 < length xs → get_or xs 0 0 < 128) → 0 < length (take n xs) → get_or (take n xs) 0 0 < 128
first_taken zero xs low some = absurd (omega arith)
first_taken (suc n) [] low some = absurd (omega arith)
first_taken (suc n) (x ∷ xs) low some = low (omega arith)

tokens_named : (place : _) (sound : ℕ) (text : List ℕ) (tokens : List Token) (end : Option TextFault) → Reads place sound text tokens end → end ≡ None → IsUtf8 (take sound text) → AreNamed tokens
tokens_named _ _ _ _ _ (reading.ended place sound) none whole = end_named place
tokens_named _ _ _ _ _ (reading.piece place sound bytes kind rest tokens end is le more) none whole =
    let parts = parted bytes (take (sound - length bytes) rest) (subst IsUtf8 (take_behind bytes rest sound le) whole) (first_taken (sound - length bytes) rest (text_low _ _ rest tokens end more none)) in
    both_named (tokens_in place kind) tokens (piece_named place bytes kind rest is parts.first) (tokens_named _ _ rest tokens end more none parts.second)
tokens_named _ _ _ _ _ (reading.unsound place sound bytes kind rest is lt) none whole = tt
tokens_named _ _ _ _ _ (reading.faulty place sound text kind is) none whole = tt

pub whole_named : (text : List ℕ) (tokens : List Token) → ReadsWhole text tokens None → AreNamed tokens
whole_named text tokens reads = tokens_named start (sound_length text) text tokens None reads refl (sound_text text)
