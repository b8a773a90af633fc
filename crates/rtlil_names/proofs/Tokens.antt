-- The rules of single tokens.
use Rattle.std.proofs.Common.{ℕ, pos, List, [], ◌∷◌, Option, Some, None}
use Rattle.rtlil_lexer.specs.declared.token.Token.{Token}
use Rattle.rtlil_lexer.specs.declared.token.TokenKind.{TokenKind}
use Rattle.rtlil_lexer.specs.declared.token.TokenKind.TheVariants as token
use Rattle.rtlil_tree.specs.Input.{Input, kind, kind_in, refuse, pure, expect, expect_word, identifier, identifier_by, integer, integer_by, natural, natural_by}
use Rattle.rtlil_tree.specs.Sigs.{constant, constant_by}
use Rattle.rtlil_names.proofs.Named.{IsNamed, IsNamedKind, AreNamed, Gives, Reads, Keeps, Anything, next_named, on_keeps, word_keeps, pure_keeps, refuse_keeps, any_reads}

pub expect_keeps : (s : _) → Keeps (expect s)
unfolding expect
expect_keeps s = on_keeps s (pure tt) refuse (pure_keeps tt) (refuse_keeps (Unit {0}))

pub expect_word_keeps : (text : List ℕ) → Keeps (expect_word text)
unfolding expect_word
expect_word_keeps text = word_keeps text (pure tt) refuse (pure_keeps tt) (refuse_keeps (Unit {0}))

-- what is said of the next token
abbrev IsNamedNext : Option TokenKind → Type 0
IsNamedNext None = Unit {0}
IsNamedNext (Some k) = IsNamedKind k

first_named : (tokens : List Token) → AreNamed tokens → IsNamedNext (kind_in tokens)
first_named [] named = tt
first_named (t ∷ ts) named = named.0

identifier_given : (k : Option TokenKind) (i : Input) → IsNamedNext k → AreNamed i.rest → Gives IsNamed (identifier_by k i)
identifier_given (Some (token.Identifier name)) i is named = (is, next_named i named)
identifier_given _ i is named = tt

pub identifier_reads : Reads IsNamed identifier
unfolding identifier Reads
identifier_reads = λ i named. identifier_given (kind i) i (first_named i.rest named) named

pub identifier_keeps : Keeps identifier
identifier_keeps = any_reads IsNamed identifier identifier_reads

integer_given : (k : Option TokenKind) (i : Input) → AreNamed i.rest → Gives Anything (integer_by k i)
integer_given (Some (token.Integer n)) i named = (tt, next_named i named)
integer_given _ i named = tt

pub integer_keeps : Keeps integer
unfolding integer Reads
integer_keeps = λ i named. integer_given (kind i) i named

natural_given : (k : Option TokenKind) (i : Input) → AreNamed i.rest → Gives Anything (natural_by k i)
natural_given (Some (token.Integer (pos n))) i named = (tt, next_named i named)
natural_given _ i named = tt

pub natural_keeps : Keeps natural
unfolding natural Reads
natural_keeps = λ i named. natural_given (kind i) i named

constant_given : (k : Option TokenKind) (i : Input) → AreNamed i.rest → Gives Anything (constant_by k i)
constant_given (Some (token.Constant c)) i named = (tt, next_named i named)
constant_given (Some (token.Integer n)) i named = (tt, next_named i named)
constant_given (Some (token.String bytes)) i named = (tt, next_named i named)
constant_given _ i named = tt

pub constant_keeps : Keeps constant
unfolding constant Reads
constant_keeps = λ i named. constant_given (kind i) i named
