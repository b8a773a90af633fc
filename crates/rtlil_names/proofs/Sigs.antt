-- The rules of signals.
use Rattle.std.proofs.Common.{ℕ, zero, suc, List, [], ◌∷◌, ◌++◌, length}
use Rattle.rtlil_lexer.specs.declared.token.Token.{Token}
use Rattle.rtlil_lexer.specs.declared.token.TokenKind.{TokenKind}
use Rattle.rtlil_lexer.specs.declared.token.TokenKind.TheVariants as token
use Rattle.rtlil_lexer.specs.declared.fault.TextFaultKind.TheVariants.{Nesting}
use Rattle.rtlil_tree.specs.declared.place.Place.{Place}
use Rattle.rtlil_tree.specs.declared.sig.Slice.{Slice}
use Rattle.rtlil_tree.specs.declared.sig.Sig.{Sig}
use Rattle.rtlil_tree.specs.declared.sig.SigPart.TheVariants as part
use Rattle.rtlil_tree.specs.Input.{Rule, pure, sees, next}
use Rattle.rtlil_tree.specs.Sigs.{constant, slice, slices, slices_from, part_with, sig_with, parts, parts_from, braces_within, sig, deepest}
use Rattle.rtlil_names.proofs.Named.{AreNamed, Gives, Reads, Keeps, Anything, next_named, on_keeps, pure_keeps, then_keeps, refuse_keeps, fail_keeps}
use Rattle.rtlil_names.proofs.Tokens.{natural_keeps, expect_keeps}

slice_keeps : Keeps slice
unfolding slice
slice_keeps =
    then_keeps _ _ natural_keeps (λ high.
    then_keeps _ _ (on_keeps _ _ _ natural_keeps (pure_keeps high)) (λ low.
    then_keeps _ _ (expect_keeps _) (λ _.
    pure_keeps _)))

slices_from_keeps : (turns : ℕ) (found : List Slice) → Keeps (slices_from turns found)
unfolding slices_from
slices_from_keeps zero found = pure_keeps found
slices_from_keeps (suc turns) found = on_keeps _ _ _ (then_keeps _ _ slice_keeps (λ s. slices_from_keeps turns (found ++ s ∷ []))) (pure_keeps found)

slices_keep : Keeps slices
unfolding slices Reads
slices_keep = λ i. slices_from_keeps (length i.rest) [] i

-- ---- signals, with the rule of the braces

named_part : (braces : Rule (List Sig)) (kind : TokenKind) (line column : ℕ) (rest : List Token) (end : Place) → Keeps braces → AreNamed (record { kind = kind; line = line; column = column } ∷ rest)
    → Gives Anything (part_with braces (record { rest = record { kind = kind; line = line; column = column } ∷ rest; end = end }))
unfolding part_with sees constant next Reads
named_part braces (token.Word text) line column rest end keeps named = tt
named_part braces (token.Identifier text) line column rest end keeps named = (tt, named.1)
named_part braces (token.Integer n) line column rest end keeps named = (tt, named.1)
named_part braces (token.Constant c) line column rest end keeps named = (tt, named.1)
named_part braces (token.String text) line column rest end keeps named = (tt, named.1)
named_part braces token.LeftBrace line column rest end keeps named = then_keeps braces (λ parts. pure (part.Concatenation parts)) keeps (λ parts. pure_keeps (part.Concatenation parts)) (record { rest = record { kind = token.LeftBrace; line = line; column = column } ∷ rest; end = end }) named
named_part braces token.RightBrace line column rest end keeps named = tt
named_part braces token.LeftBracket line column rest end keeps named = tt
named_part braces token.RightBracket line column rest end keeps named = tt
named_part braces token.Colon line column rest end keeps named = tt
named_part braces token.Comma line column rest end keeps named = tt
named_part braces token.EndOfLine line column rest end keeps named = tt

part_given : (braces : Rule (List Sig)) (rest : List Token) (end : Place) → Keeps braces → AreNamed rest → Gives Anything (part_with braces (record { rest = rest; end = end }))
unfolding part_with sees constant next
part_given braces [] end keeps named = tt
part_given braces (t ∷ rest) end keeps named = let l = named_part braces t.kind t.line t.column rest end keeps named in l

part_keeps : (braces : Rule (List Sig)) → Keeps braces → Keeps (part_with braces)
unfolding Reads
part_keeps braces keeps = λ i named. part_given braces i.rest i.end keeps named

sig_with_keeps : (braces : Rule (List Sig)) → Keeps braces → Keeps (sig_with braces)
unfolding sig_with
sig_with_keeps braces keeps = then_keeps _ _ (part_keeps braces keeps) (λ part. then_keeps _ _ slices_keep (λ found. pure_keeps _))

-- ---- concatenations, with the rule of a part

parts_from_keeps : (inner : Rule Sig) → Keeps inner → (turns : ℕ) (found : List Sig) → Keeps (parts_from inner turns found)
unfolding parts_from
parts_from_keeps inner keeps zero found = refuse_keeps (List Sig)
parts_from_keeps inner keeps (suc turns) found = on_keeps _ _ _ (pure_keeps found) (then_keeps _ _ keeps (λ s. parts_from_keeps inner keeps turns (found ++ s ∷ [])))

parts_keep : (inner : Rule Sig) → Keeps inner → Keeps (parts inner)
unfolding parts Reads
parts_keep inner keeps = λ i. parts_from_keeps inner keeps (length i.rest) [] i

braces_keep : (depth : ℕ) → Keeps (braces_within depth)
unfolding braces_within Reads
braces_keep zero = fail_keeps (List Sig) Nesting
braces_keep (suc depth) = λ i named. parts_keep (sig_with (braces_within depth)) (sig_with_keeps (braces_within depth) (braces_keep depth)) (next i) (next_named i named)

pub sig_keeps : Keeps sig
sig_keeps = sig_with_keeps (braces_within deepest) (braces_keep deepest)
