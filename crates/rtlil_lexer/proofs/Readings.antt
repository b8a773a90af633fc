-- A text that is read part by part is what is computed, and each text is read.
use Rattle.std.proofs.Common.{◌≡◌, ℕ, zero, suc, ◌-◌, ◌<◌, ◌≤◌, cond, nat_lt, true, false, List, [], ◌∷◌, ◌++◌, length, Option, Some, None, Ok, Err, refl, sym, ap, subst, ◌∙◌, arith, inl, inr, ◌⊎◌, length-append}
use Rattle.std.proofs.lemmas.Bool.Decides.{nat_tests}
use Rattle.std.proofs.lemmas.Bool.{cases_lt}
use Rattle.std.proofs.lemmas.Option.{none-some}
use Rattle.rtlil_lexer.specs.declared.token.Token.{Token}
use Rattle.rtlil_lexer.specs.declared.token.TokenKind.{TokenKind}
use Rattle.rtlil_lexer.specs.declared.fault.TextFault.{TextFault}
use Rattle.rtlil_lexer.specs.declared.fault.TextFaultKind.{TextFaultKind}
use Rattle.rtlil_lexer.specs.declared.fault.TextFaultKind.TheVariants as fault
use Rattle.rtlil_lexer.specs.declared.place.Place.{Place}
use Rattle.rtlil_lexer.specs.Pieces.{First, first_of}
use Rattle.rtlil_lexer.specs.Tokens.{Lexed, onward, behind, tokens_in, fault_at, last_end, with_front, with_first, tokens_from}
use Rattle.rtlil_lexer.specs.Reading.{IsPiece, IsFaulty, Reads}
use Rattle.rtlil_lexer.specs.Reading as reading
use Rattle.rtlil_lexer.proofs.Pieces.{first_in, piece_first, fault_first}
use Rattle.rtlil_lexer.proofs.Stands.{Stood, stands}

-- no piece is empty
pub piece_some : (bytes : List ℕ) (kind : Option TokenKind) (rest : List ℕ) → IsPiece bytes kind rest → 0 < length bytes
piece_some _ _ _ (reading.white b rest is) = omega arith
piece_some _ _ _ (reading.comment text rest each ends) = omega arith
piece_some _ _ _ (reading.line_feed rest) = omega arith
piece_some _ _ _ (reading.word letters rest run ends) = run.some
piece_some _ _ _ (reading.identifier b name rest sign run ends) = omega arith
piece_some _ _ _ (reading.integer digits rest run ends le) = run.some
piece_some _ _ _ (reading.negative digits rest run ends le) = omega arith
piece_some _ _ _ (reading.constant width sign digits rest is within) = let s = is.sized.some in omega (arith, length-append width (39 ∷ sign ++ digits))
piece_some _ _ _ (reading.string body bytes rest w all) = omega arith
piece_some _ _ _ (reading.sign b kind rest is) = omega arith

pub same_answer : {A : Type 0} (x y : A) → Some x ≡ Some y → x ≡ y
same_answer x y e = grind arith

-- what is left of a piece is passed over
passed : (place : Place) (sound : ℕ) (bytes rest : List ℕ) → tokens_from (length bytes) place sound (bytes ++ rest) ≡ tokens_from 0 place sound rest
unfolding tokens_from
passed place sound [] rest = refl
passed place sound (x ∷ bytes) rest = passed place sound bytes rest

-- a first piece, and what is behind it
piece_read : (place : Place) (sound x : ℕ) (xs : List ℕ) (kind : Option TokenKind) (rest : List ℕ) → first_of x (xs ++ rest) ≡ Ok (record { token = kind; length = length (x ∷ xs) })
    → tokens_from 0 place sound (x ∷ xs ++ rest) ≡ cond (nat_lt sound (length (x ∷ xs))) (Err (fault_at fault.BadByte (onward place sound)))
    (with_front (tokens_in place kind) (tokens_from 0 (behind place kind (length (x ∷ xs))) (sound - length (x ∷ xs)) rest))
unfolding tokens_from
piece_read place sound x xs kind rest first =
    let size : length (x ∷ xs) - 1 ≡ length xs = omega arith in
    ap (with_first place sound (λ read behind sound. tokens_from read behind sound (xs ++ rest))) first
    ∙ ap (λ n. cond (nat_lt sound (length (x ∷ xs))) (Err (fault_at fault.BadByte (onward place sound)))
    (with_front (tokens_in place kind) (tokens_from n (behind place kind (length (x ∷ xs))) (sound - length (x ∷ xs)) (xs ++ rest)))) size
    ∙ ap (λ t. cond (nat_lt sound (length (x ∷ xs))) (Err (fault_at fault.BadByte (onward place sound))) (with_front (tokens_in place kind) t))
    (passed (behind place kind (length (x ∷ xs))) (sound - length (x ∷ xs)) xs rest)

-- what tokens and an end come to
abbrev pub outcome : List Token → Option TextFault → Lexed
outcome tokens None = Ok tokens
outcome tokens (Some f) = Err f

in_front : (front tokens : List Token) (end : Option TextFault) → with_front front (outcome tokens end) ≡ outcome (front ++ tokens) end
in_front front tokens None = refl
in_front front tokens (Some f) = refl

pub not_below : (m n : ℕ) → n ≤ m → nat_lt m n ≡ false
not_below m n le = grind (arith, nat_tests)

pub below : (m n : ℕ) → m < n → nat_lt m n ≡ true
below m n lt = grind (arith, nat_tests)

sound_piece : (place : Place) (sound : ℕ) (bytes : List ℕ) (kind : Option TokenKind) (rest : List ℕ) → IsPiece bytes kind rest → length bytes ≤ sound
    → tokens_from 0 place sound (bytes ++ rest) ≡ with_front (tokens_in place kind) (tokens_from 0 (behind place kind (length bytes)) (sound - length bytes) rest)
sound_piece place sound [] kind rest is le = absurd (omega (arith, piece_some [] kind rest is))
sound_piece place sound (x ∷ xs) kind rest is le =
    piece_read place sound x xs kind rest (same_answer _ _ (piece_first (x ∷ xs) kind rest is))
    ∙ ap (λ t. cond t (Err (fault_at fault.BadByte (onward place sound))) (with_front (tokens_in place kind) (tokens_from 0 (behind place kind (length (x ∷ xs))) (sound - length (x ∷ xs)) rest))) (not_below sound (length (x ∷ xs)) le)

unsound_piece : (place : Place) (sound : ℕ) (bytes : List ℕ) (kind : Option TokenKind) (rest : List ℕ) → IsPiece bytes kind rest → sound < length bytes
    → tokens_from 0 place sound (bytes ++ rest) ≡ Err (fault_at fault.BadByte (onward place sound))
unsound_piece place sound [] kind rest is lt = absurd (omega (arith, piece_some [] kind rest is))
unsound_piece place sound (x ∷ xs) kind rest is lt =
    piece_read place sound x xs kind rest (same_answer _ _ (piece_first (x ∷ xs) kind rest is))
    ∙ ap (λ t. cond t (Err (fault_at fault.BadByte (onward place sound))) (with_front (tokens_in place kind) (tokens_from 0 (behind place kind (length (x ∷ xs))) (sound - length (x ∷ xs)) rest))) (below sound (length (x ∷ xs)) lt)

fault_read : (place : Place) (sound : ℕ) (text : List ℕ) (kind : TextFaultKind) → first_in text ≡ Some (Err kind) → tokens_from 0 place sound text ≡ Err (fault_at kind place)
unfolding tokens_from
fault_read place sound [] kind first = absurd (none-some _ first)
fault_read place sound (b ∷ rest) kind first = ap (with_first place sound (λ read behind sound. tokens_from read behind sound rest)) (same_answer _ _ first)

nothing_read : (place : Place) (sound : ℕ) → tokens_from 0 place sound [] ≡ Ok (last_end place)
unfolding tokens_from
nothing_read place sound = refl

-- what is read is computed
pub reads_lexed : (place : Place) (sound : ℕ) (text : List ℕ) (tokens : List Token) (end : Option TextFault) → Reads place sound text tokens end → tokens_from 0 place sound text ≡ outcome tokens end
reads_lexed _ _ _ _ _ (reading.ended place sound) = nothing_read place sound
reads_lexed _ _ _ _ _ (reading.piece place sound bytes kind rest tokens end is le more) =
    sound_piece place sound bytes kind rest is le
    ∙ ap (with_front (tokens_in place kind)) (reads_lexed (behind place kind (length bytes)) (sound - length bytes) rest tokens end more)
    ∙ in_front (tokens_in place kind) tokens end
reads_lexed _ _ _ _ _ (reading.unsound place sound bytes kind rest is lt) = unsound_piece place sound bytes kind rest is lt
reads_lexed _ _ _ _ _ (reading.faulty place sound text kind is) = fault_read place sound text kind (fault_first text kind is)

-- a text is read in some way
pub record IsRead (place : Place) (sound : ℕ) (text : List ℕ) : Type 0 where
  pub tokens : List Token
  pub end : Option TextFault
  pub reads : Reads place sound text tokens end

abbrev AllRead : ℕ → Type 0
AllRead most = (place : Place) (sound : ℕ) (text : List ℕ) → length text < most → IsRead place sound text

first_read : (most : ℕ) → AllRead most → (place : Place) (sound : ℕ) (text : List ℕ) (first : First) → length text < suc most → Stood text first → IsRead place sound text
first_read most all place sound text (Err kind) lt faulty = record { tokens = []; end = Some (fault_at kind place); reads = reading.faulty place sound text kind faulty }
first_read most all place sound text (Ok p) lt begins = by begins.bytes begins.rest begins.piece begins.is (cases_lt sound (length begins.bytes))
  where
    by : (bytes rest : List ℕ) → IsPiece bytes p.token rest → text ≡ bytes ++ rest → (sound < length bytes) ⊎ (length bytes ≤ sound) → IsRead place sound text
    by bytes rest piece is (inl short) = subst (IsRead place sound) (sym is) (record {
      tokens = [];
      end = Some (fault_at fault.BadByte (onward place sound));
      reads = reading.unsound place sound bytes p.token rest piece short;
    })
    by bytes rest piece is (inr le) =
        let fewer : length rest < most = let s = piece_some bytes p.token rest piece in let l = length-append bytes rest in let e = ap length is in omega arith in
        let more = all (behind place p.token (length bytes)) (sound - length bytes) rest fewer in
        subst (IsRead place sound) (sym is) (record {
          tokens = tokens_in place p.token ++ more.tokens;
          end = more.end;
          reads = reading.piece place sound bytes p.token rest more.tokens more.end piece le more.reads;
        })

all_read : (most : ℕ) → AllRead most
all_read zero place sound text lt = absurd (omega arith)
all_read (suc most) place sound [] lt = record { tokens = last_end place; end = None; reads = reading.ended place sound }
all_read (suc most) place sound (b ∷ rest) lt = first_read most (all_read most) place sound (b ∷ rest) (first_of b rest) lt (stands b rest)

pub is_read : (place : Place) (sound : ℕ) (text : List ℕ) → IsRead place sound text
is_read place sound text = all_read (suc (length text)) place sound text (omega arith)
