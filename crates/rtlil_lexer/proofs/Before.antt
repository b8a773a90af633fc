-- The tokens before the end or the fault of a text are one list.
use Rattle.std.proofs.Common.{◌≡◌, ℕ, zero, suc, ◌-◌, ◌<◌, ◌≤◌, cond, nat_lt, Bool, true, false, List, [], ◌∷◌, ◌++◌, length, Option, Some, Ok, Err, refl, sym, ap, ◌∙◌, arith}
use Rattle.std.proofs.lemmas.Option.{none-some}
use Rattle.rtlil_lexer.specs.declared.token.Token.{Token}
use Rattle.rtlil_lexer.specs.declared.token.TokenKind.{TokenKind}
use Rattle.rtlil_lexer.specs.declared.fault.TextFault.{TextFault}
use Rattle.rtlil_lexer.specs.declared.fault.TextFaultKind.{TextFaultKind}
use Rattle.rtlil_lexer.specs.declared.place.Place.{Place}
use Rattle.rtlil_lexer.specs.Pieces.{First, first_of}
use Rattle.rtlil_lexer.specs.Tokens.{behind, tokens_in, last_end}
use Rattle.rtlil_lexer.specs.Reading.{IsPiece, Reads}
use Rattle.rtlil_lexer.specs.Reading as reading
use Rattle.rtlil_lexer.proofs.Pieces.{first_in, piece_first, fault_first}
use Rattle.rtlil_lexer.proofs.Readings.{piece_some, same_answer, not_below, below}

-- the tokens of a piece, and those behind it
abbrev from_first : Place → ℕ → (ℕ → Place → ℕ → List Token) → First → List Token
from_first place sound go_on (Err kind) = []
from_first place sound go_on (Ok piece) =
    cond (nat_lt sound piece.length) [] (tokens_in place piece.token ++ go_on (piece.length - 1) (behind place piece.token piece.length) (sound - piece.length))

-- the tokens before the end or the first fault
before : ℕ → Place → ℕ → List ℕ → List Token
before read place sound [] = last_end place
before (suc read) place sound (b ∷ rest) = before read place sound rest
before zero place sound (b ∷ rest) = from_first place sound (λ read behind sound. before read behind sound rest) (first_of b rest)

passed : (place : Place) (sound : ℕ) (bytes rest : List ℕ) → before (length bytes) place sound (bytes ++ rest) ≡ before 0 place sound rest
unfolding before
passed place sound [] rest = refl
passed place sound (x ∷ bytes) rest = passed place sound bytes rest

-- what the tokens are, by how a first piece lies to the sound bytes
piece_before : (place : Place) (sound x : ℕ) (xs : List ℕ) (kind : Option TokenKind) (rest : List ℕ) (t : Bool) → nat_lt sound (length (x ∷ xs)) ≡ t → first_of x (xs ++ rest) ≡ Ok (record { token = kind; length = length (x ∷ xs) })
    → before 0 place sound (x ∷ xs ++ rest) ≡ cond t [] (tokens_in place kind ++ before 0 (behind place kind (length (x ∷ xs))) (sound - length (x ∷ xs)) rest)
unfolding before
piece_before place sound x xs kind rest t test first =
    let size : length (x ∷ xs) - 1 ≡ length xs = omega arith in
    ap (from_first place sound (λ read behind sound. before read behind sound (xs ++ rest))) first
    ∙ ap (λ n. cond (nat_lt sound (length (x ∷ xs))) [] (tokens_in place kind ++ before n (behind place kind (length (x ∷ xs))) (sound - length (x ∷ xs)) (xs ++ rest))) size
    ∙ ap (λ r. cond (nat_lt sound (length (x ∷ xs))) [] (tokens_in place kind ++ r)) (passed (behind place kind (length (x ∷ xs))) (sound - length (x ∷ xs)) xs rest)
    ∙ ap (λ b. cond b [] (tokens_in place kind ++ before 0 (behind place kind (length (x ∷ xs))) (sound - length (x ∷ xs)) rest)) test

sound_before : (place : Place) (sound : ℕ) (bytes : List ℕ) (kind : Option TokenKind) (rest : List ℕ) → IsPiece bytes kind rest → length bytes ≤ sound
    → before 0 place sound (bytes ++ rest) ≡ tokens_in place kind ++ before 0 (behind place kind (length bytes)) (sound - length bytes) rest
sound_before place sound [] kind rest is le = absurd (omega (arith, piece_some [] kind rest is))
sound_before place sound (x ∷ xs) kind rest is le = piece_before place sound x xs kind rest false (not_below sound (length (x ∷ xs)) le) (same_answer _ _ (piece_first (x ∷ xs) kind rest is))

unsound_before : (place : Place) (sound : ℕ) (bytes : List ℕ) (kind : Option TokenKind) (rest : List ℕ) → IsPiece bytes kind rest → sound < length bytes → before 0 place sound (bytes ++ rest) ≡ []
unsound_before place sound [] kind rest is lt = absurd (omega (arith, piece_some [] kind rest is))
unsound_before place sound (x ∷ xs) kind rest is lt = piece_before place sound x xs kind rest true (below sound (length (x ∷ xs)) lt) (same_answer _ _ (piece_first (x ∷ xs) kind rest is))

fault_before : (place : Place) (sound : ℕ) (text : List ℕ) (kind : TextFaultKind) → first_in text ≡ Some (Err kind) → before 0 place sound text ≡ []
unfolding before
fault_before place sound [] kind first = absurd (none-some _ first)
fault_before place sound (b ∷ rest) kind first = ap (from_first place sound (λ read behind sound. before read behind sound rest)) (same_answer _ _ first)

nothing_before : (place : Place) (sound : ℕ) → before 0 place sound [] ≡ last_end place
unfolding before
nothing_before place sound = refl

reads_before : (place : Place) (sound : ℕ) (text : List ℕ) (tokens : List Token) (end : Option TextFault) → Reads place sound text tokens end → before 0 place sound text ≡ tokens
reads_before _ _ _ _ _ (reading.ended place sound) = nothing_before place sound
reads_before _ _ _ _ _ (reading.piece place sound bytes kind rest tokens end is le more) =
    sound_before place sound bytes kind rest is le
    ∙ ap (λ r. tokens_in place kind ++ r) (reads_before (behind place kind (length bytes)) (sound - length bytes) rest tokens end more)
reads_before _ _ _ _ _ (reading.unsound place sound bytes kind rest is lt) = unsound_before place sound bytes kind rest is lt
reads_before _ _ _ _ _ (reading.faulty place sound text kind is) = fault_before place sound text kind (fault_first text kind is)

-- a text has one list of tokens before its end or its fault
pub same_before : (place : Place) (sound : ℕ) (text : List ℕ) (tokens others : List Token) (end other : Option TextFault) → Reads place sound text tokens end → Reads place sound text others other → tokens ≡ others
same_before place sound text tokens others end other a b = sym (reads_before place sound text tokens end a) ∙ reads_before place sound text others other b
