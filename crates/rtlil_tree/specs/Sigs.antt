-- Values and signals.
use Rattle.std.specs.Prelude.{ℕ, zero, suc, List, [], ◌∷◌, ◌++◌, length, Option, Some, None, Ok, if◌then◌else◌}
use Rattle.rtlil_lexer.specs.declared.token.TokenKind.{TokenKind}
use Rattle.rtlil_lexer.specs.declared.token.TokenKind.TheVariants as token
use Rattle.rtlil_lexer.specs.declared.fault.TextFaultKind.TheVariants.{Nesting}
use Rattle.rtlil_tree.specs.declared.cursor.Sign.TheVariants as sign
use Rattle.rtlil_tree.specs.declared.sig.Const.{Const}
use Rattle.rtlil_tree.specs.declared.sig.Const.TheVariants as const
use Rattle.rtlil_tree.specs.declared.sig.Slice.{Slice}
use Rattle.rtlil_tree.specs.declared.sig.Sig.{Sig, roll-Sig}
use Rattle.rtlil_tree.specs.declared.sig.SigPart.{SigPart}
use Rattle.rtlil_tree.specs.declared.sig.SigPart.TheVariants as part
use Rattle.rtlil_tree.specs.Input.{Input, Rule, ◌>>=◌, ◌>>◌, pure, refuse, fail, on, expect, sees, kind, next, natural, identifier}

-- const = constant | integer | string
abbrev pub constant_by : Option TokenKind → Rule Const
constant_by (Some (token.Constant c)) = λ i. Ok (const.Digits c, next i)
constant_by (Some (token.Integer n)) = λ i. Ok (const.Integer n, next i)
constant_by (Some (token.String bytes)) = λ i. Ok (const.String bytes, next i)
constant_by _ = refuse

unfoldable pub constant : Rule Const
constant = λ i. constant_by (kind i) i

-- int [ ":" int ] "]", from behind the bracket on
unfoldable pub slice : Rule Slice
slice = do
  high ← natural
  low ← on sign.Colon natural (pure high)
  expect sign.RightBracket
  pure (record { high = high; low = low })

-- { "[" int [ ":" int ] "]" }; the number bounds the turns, and each turn takes a token
unfoldable pub slices_from : ℕ → List Slice → Rule (List Slice)
slices_from zero found = pure found
slices_from (suc turns) found = on sign.LeftBracket (slice >>= λ s. slices_from turns (found ++ s ∷ [])) (pure found)

unfoldable pub slices : Rule (List Slice)
slices = λ i. slices_from (length i.rest) [] i

-- const | id | "{" { sig } "}", with the rule of the braces
unfoldable pub part_with : Rule (List Sig) → Rule SigPart
part_with braces = λ i.
    if sees sign.LeftBrace i then (braces >>= λ parts. pure (part.Concatenation parts)) i else
    (named_or_constant (kind i)) i
  where
    named_or_constant : Option TokenKind → Rule SigPart
    named_or_constant (Some (token.Identifier spelling)) = λ i. Ok (part.Wire spelling, next i)
    named_or_constant _ = constant >>= λ c. pure (part.Const c)

unfoldable pub sig_with : Rule (List Sig) → Rule Sig
sig_with braces = do
  part ← part_with braces
  found ← slices
  pure (roll-Sig (record { part = part; slices = found }))

-- { sig } "}"
unfoldable pub parts_from : Rule Sig → ℕ → List Sig → Rule (List Sig)
parts_from sig zero found = refuse
parts_from sig (suc turns) found = on sign.RightBrace (pure found) (sig >>= λ s. parts_from sig turns (found ++ s ∷ []))

unfoldable pub parts : Rule Sig → Rule (List Sig)
parts sig = λ i. parts_from sig (length i.rest) [] i

-- "{" { sig } "}", where so many braces may be open at once
unfoldable pub braces_within : ℕ → Rule (List Sig)
braces_within zero = fail Nesting
braces_within (suc depth) = λ i. parts (sig_with (braces_within depth)) (next i)

abbrev pub deepest : ℕ
deepest = 256

abbrev pub sig_within : ℕ → Rule Sig
sig_within depth = sig_with (braces_within depth)

abbrev pub sig : Rule Sig
sig = sig_within deepest
