-- What a rule of the grammar reads from, and the steps that every rule is made of.
use Rattle.std.specs.Prelude.{◌≡◌, ◌≢◌, ℕ, zero, suc, ◌-◌, length, slice_get, ℤ, pos, List, [], ◌∷◌, Bool, true, false, Option, Some, None, Result, Ok, Err, bytes_eq, if◌then◌else◌}
use Rattle.rtlil_lexer.specs.declared.token.Token.{Token}
use Rattle.rtlil_lexer.specs.declared.token.TokenKind.{TokenKind}
use Rattle.rtlil_lexer.specs.declared.token.TokenKind.TheVariants as token
use Rattle.rtlil_lexer.specs.declared.fault.TextFault.{TextFault}
use Rattle.rtlil_lexer.specs.declared.fault.TextFault.TheVariants.{At, NoMemory as OutOfMemory}
use Rattle.rtlil_lexer.specs.declared.fault.TextFaultKind.{TextFaultKind}
use Rattle.rtlil_lexer.specs.declared.fault.TextFaultKind.TheVariants.{Syntax}
use Rattle.rtlil_tree.specs.declared.place.Place.{Place}
use Rattle.rtlil_tree.specs.declared.cursor.Sign.{Sign}
use Rattle.rtlil_tree.specs.declared.cursor.Sign.TheVariants as sign

-- the tokens that are left, and the place of the last token of all
pub record Input : Type 0 where
  pub rest : List Token
  pub end : Place

-- the place of a file's last token; a file without tokens has no fault, and any place does
abbrev pub token_place : Option Token → Place
token_place None = record { line = 1; column = 1 }
token_place (Some t) = record { line = t.line; column = t.column }

abbrev pub start : List Token → Input
start tokens = record { rest = tokens; end = token_place (slice_get tokens (length tokens - 1)) }

-- ---- the next token

abbrev pub kind_in : List Token → Option TokenKind
kind_in [] = None
kind_in (t ∷ _) = Some t.kind

abbrev pub kind : Input → Option TokenKind
kind i = kind_in i.rest

abbrev pub behind : List Token → List Token
behind [] = []
behind (_ ∷ rest) = rest

unfoldable pub next : Input → Input
next i = record i { rest = behind i.rest }

-- the place of the next token, or of the last one where none is left
abbrev pub place_in : Place → List Token → Place
place_in end [] = end
place_in end (t ∷ _) = record { line = t.line; column = t.column }

unfoldable pub place : Input → Place
place i = place_in i.end i.rest

-- the next token at fault
unfoldable pub fault_at : TextFaultKind → Input → TextFault
fault_at what i = At what (place i).line (place i).column

abbrev pub is_sign : Sign → TokenKind → Bool
is_sign sign.LeftBrace token.LeftBrace = true
is_sign sign.RightBrace token.RightBrace = true
is_sign sign.LeftBracket token.LeftBracket = true
is_sign sign.RightBracket token.RightBracket = true
is_sign sign.Colon token.Colon = true
is_sign sign.Comma token.Comma = true
is_sign sign.EndOfLine token.EndOfLine = true
is_sign _ _ = false

abbrev pub has_sign : Sign → Option TokenKind → Bool
has_sign s None = false
has_sign s (Some k) = is_sign s k

unfoldable pub sees : Sign → Input → Bool
sees s i = has_sign s (kind i)

abbrev pub is_word : List ℕ → Option TokenKind → Bool
is_word text (Some (token.Word spelling)) = bytes_eq spelling text
is_word text _ = false

unfoldable pub sees_word : List ℕ → Input → Bool
sees_word text i = is_word text (kind i)

-- ---- rules

-- a tree and what is left, or the first token that fits no rule
abbrev pub Outcome : Type 0 → Type 0
Outcome A = Result (A × Input) TextFault

abbrev pub Rule : Type 0 → Type 0
Rule A = Input → Outcome A

abbrev pub and_then : {A B : Type 0} → Outcome A → (A → Rule B) → Outcome B
and_then (Ok p) f = f p.0 p.1
and_then (Err e) f = Err e

infixl 10 ◌>>=◌
abbrev pub ◌>>=◌ : {A B : Type 0} → Rule A → (A → Rule B) → Rule B
p >>= f = λ i. and_then (p i) f

infixl 10 ◌>>◌
abbrev pub ◌>>◌ : {A B : Type 0} → Rule A → Rule B → Rule B
p >> q = p >>= (λ _. q)

-- nothing is read
abbrev pub pure : {A : Type 0} → A → Rule A
pure a = λ i. Ok (a, i)

-- no rule has this token here
abbrev pub refuse : {A : Type 0} → Rule A
refuse = λ i. Err (fault_at Syntax i)

abbrev pub fail : {A : Type 0} → TextFaultKind → Rule A
fail what = λ i. Err (fault_at what i)

-- goes on behind the sign where it comes next, and else by the other rule
abbrev pub on : {A : Type 0} → Sign → Rule A → Rule A → Rule A
on s found other = λ i. if sees s i then found (next i) else other i

-- the same for a word
abbrev pub on_word : {A : Type 0} → List ℕ → Rule A → Rule A → Rule A
on_word text found other = λ i. if sees_word text i then found (next i) else other i

unfoldable pub expect : Sign → Rule (Unit {0})
expect s = on s (pure tt) refuse

unfoldable pub expect_word : List ℕ → Rule (Unit {0})
expect_word text = on_word text (pure tt) refuse

infixr 11 ◌<$>◌
abbrev pub ◌<$>◌ : {A B : Type 0} → (A → B) → Rule A → Rule B
f <$> p = p >>= (λ x. pure (f x))

-- Step by step, as long as a step says so. The number bounds the steps, each of which takes a token, so that the count
-- of tokens is enough; behind so many steps no token is left.
unfoldable pub repeated : {S : Type 0} → (S → Rule (S × Bool)) → (S → Rule S) → ℕ → S → Rule S
repeated step ended zero state = ended state
repeated step ended (suc turns) state = step state >>= λ p. if p.1 then repeated step ended turns p.0 else pure p.0

-- a step after which more may come
abbrev pub more : {S : Type 0} → S → Rule (S × Bool)
more state = pure (state, true)

-- the last step
abbrev pub stop : {S : Type 0} → S → Rule (S × Bool)
stop state = pure (state, false)

-- as many as there are, up to a token that is none of them
abbrev pub many : {S : Type 0} → (S → Rule (S × Bool)) → S → Rule S
many step state = λ i. repeated step pure (length i.rest) state i

-- up to an end, which has to come
abbrev pub up_to_end : {S : Type 0} → (S → Rule (S × Bool)) → S → Rule S
up_to_end step state = λ i. repeated step (λ _. refuse) (length i.rest) state i

-- ---- tokens that carry a value

abbrev pub identifier_by : Option TokenKind → Rule (List ℕ)
identifier_by (Some (token.Identifier spelling)) = λ i. Ok (spelling, next i)
identifier_by _ = refuse

unfoldable pub identifier : Rule (List ℕ)
identifier = λ i. identifier_by (kind i) i

abbrev pub integer_by : Option TokenKind → Rule ℤ
integer_by (Some (token.Integer n)) = λ i. Ok (n, next i)
integer_by _ = refuse

unfoldable pub integer : Rule ℤ
integer = λ i. integer_by (kind i) i

abbrev pub natural_by : Option TokenKind → Rule ℕ
natural_by (Some (token.Integer (pos n))) = λ i. Ok (n, next i)
natural_by _ = refuse

-- an integer that is not negative
unfoldable pub natural : Rule ℕ
natural = λ i. natural_by (kind i) i

-- ---- what a function that reads ensures: the rule's outcome, unless memory runs out

abbrev pub Reads : {A : Type 0} → Outcome A → Result A TextFault → Input → Type 0
Reads outcome (Ok a) new = outcome ≡ Ok (a, new)
Reads outcome (Err e) new = e ≢ OutOfMemory → outcome ≡ Err e

-- the same for a step, which changes the state in place and tells whether more may come
abbrev pub Steps : {S : Type 0} → Outcome (S × Bool) → Result Bool TextFault → S → Input → Type 0
Steps outcome (Ok goes_on) state new = outcome ≡ Ok ((state, goes_on), new)
Steps outcome (Err e) state new = e ≢ OutOfMemory → outcome ≡ Err e
