-- The rules of single tokens take one.
use Rattle.std.proofs.Common.{ℕ, pos, List, length, Option, Some}
use Rattle.rtlil_lexer.specs.declared.token.TokenKind.{TokenKind}
use Rattle.rtlil_lexer.specs.declared.token.TokenKind.TheVariants as token
use Rattle.rtlil_tree.specs.declared.cursor.Sign.{Sign}
use Rattle.rtlil_tree.specs.Input.{Input, kind, refuse, pure, expect, expect_word, identifier, identifier_by, integer, integer_by, natural, natural_by}
use Rattle.rtlil_tree.proofs.Leaves.{Leaves, Left, Takes, one, pure_shrinks, refuse_leaves, on_takes, word_takes, taken}

pub expect_takes : (s : Sign) → Takes (expect s)
unfolding expect
expect_takes s = on_takes s (pure tt) refuse (pure_shrinks tt) (refuse_leaves one)

pub expect_word_takes : (text : List ℕ) → Takes (expect_word text)
unfolding expect_word
expect_word_takes text = word_takes text (pure tt) refuse (pure_shrinks tt) (refuse_leaves one)

identifier_taken : (k : Option TokenKind) (i : Input) → Left one (length i.rest) (identifier_by k i)
identifier_taken (Some (token.Identifier text)) i = taken i
identifier_taken _ i = tt

pub identifier_takes : Takes identifier
unfolding identifier Leaves
identifier_takes = λ i. identifier_taken (kind i) i

integer_taken : (k : Option TokenKind) (i : Input) → Left one (length i.rest) (integer_by k i)
integer_taken (Some (token.Integer n)) i = taken i
integer_taken _ i = tt

pub integer_takes : Takes integer
unfolding integer Leaves
integer_takes = λ i. integer_taken (kind i) i

natural_taken : (k : Option TokenKind) (i : Input) → Left one (length i.rest) (natural_by k i)
natural_taken (Some (token.Integer (pos n))) i = taken i
natural_taken _ i = tt

pub natural_takes : Takes natural
unfolding natural Leaves
natural_takes = λ i. natural_taken (kind i) i
