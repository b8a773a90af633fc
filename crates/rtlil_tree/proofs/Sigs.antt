-- What the rules of values and signals leave.
use Rattle.std.proofs.Common.{◌≡◌, ◌≤◌, ℕ, zero, suc, List, [], ◌∷◌, ◌++◌, length, Bool, true, false, Option, Some, Ok, Err, refl, ap, ◌∙◌, sym, if◌then◌else◌, arith}
use Rattle.rtlil_lexer.specs.declared.token.Token.{Token}
use Rattle.rtlil_tree.specs.declared.place.Place.{Place}
use Rattle.rtlil_tree.specs.declared.sig.SigPart.TheVariants as part
use Rattle.rtlil_lexer.specs.declared.token.TokenKind.{TokenKind}
use Rattle.rtlil_lexer.specs.declared.token.TokenKind.TheVariants as token
use Rattle.rtlil_lexer.specs.declared.fault.TextFaultKind.TheVariants.{Nesting}
use Rattle.rtlil_tree.specs.declared.cursor.Sign.TheVariants as sign
use Rattle.rtlil_tree.specs.declared.sig.Slice.{Slice}
use Rattle.rtlil_tree.specs.declared.sig.Sig.{Sig}
use Rattle.rtlil_tree.specs.Input.{Input, Outcome, Rule, and_then, pure, refuse, sees, kind, next, more, repeated, natural}
use Rattle.rtlil_tree.specs.Sigs.{constant, constant_by, slice, slices, slices_from, part_with, sig_with, parts, parts_from, braces_within, sig, sig_within, deepest}
use Rattle.rtlil_tree.specs.Turns.{TakesToken, IsRepetition, slice_step, part_step, more_slices, more_parts}
use Rattle.rtlil_tree.proofs.Leaves.{Leaves, Left, Takes, Shrinks, Step, one, none, one_few, pure_shrinks, more_shrinks, stop_step, stop_shrinks, then_step, then_takes, then_shrinks, on_step, on_shrinks, next_left, taken, takes_shrinks, fail_leaves, refuse_leaves}
use Rattle.rtlil_tree.proofs.Repeated.{Ends, enough, repetition, repetition_too, Refuses, takes_token}
use Rattle.rtlil_tree.proofs.Tokens.{natural_takes, expect_takes}

constant_taken : (k : Option TokenKind) (i : Input) → Left one (length i.rest) (constant_by k i)
constant_taken (Some (token.Constant c)) i = taken i
constant_taken (Some (token.Integer n)) i = taken i
constant_taken (Some (token.String bytes)) i = taken i
constant_taken _ i = tt

pub constant_takes : Takes constant
unfolding constant Leaves
constant_takes = λ i. constant_taken (kind i) i

-- ---- slices

slice_takes : Takes slice
unfolding slice
slice_takes =
    then_takes _ _ natural_takes (λ high.
    then_shrinks _ _ (on_shrinks _ _ _ (takes_shrinks _ natural_takes) (pure_shrinks high)) (λ low.
    then_shrinks _ _ (takes_shrinks _ (expect_takes sign.RightBracket)) (λ _.
    pure_shrinks _)))

slice_refuses : Refuses slice
unfolding slice natural
slice_refuses end = refl

pub slice_takes_token : TakesToken slice
slice_takes_token = takes_token slice slice_takes slice_refuses

slice_steps : (found : List Slice) → Step (slice_step found)
slice_steps found = on_step _ _ _ (then_shrinks _ _ (takes_shrinks _ slice_takes) (λ s. more_shrinks _)) (stop_step found)

slices_end : Ends slice_step pure
unfolding sees
slices_end state end = refl

slices_case : (b : Bool) (o : Outcome Slice) (turns : ℕ) (found : List Slice) (i : Input)
    → ((found : List Slice) (j : Input) → slices_from turns found j ≡ repeated slice_step pure turns found j)
    → (if b then and_then o (λ s. slices_from turns (found ++ s ∷ [])) else Ok (found, i))
    ≡ and_then (if b then and_then o (λ s. more (found ++ s ∷ [])) else Ok ((found, false), i)) (λ p. if p.1 then repeated slice_step pure turns p.0 else pure p.0)
slices_case false o turns found i same = refl
slices_case true (Err e) turns found i same = refl
slices_case true (Ok (s, j)) turns found i same = same (found ++ s ∷ []) j

slices_repeated : (turns : ℕ) (found : List Slice) (i : Input) → slices_from turns found i ≡ repeated slice_step pure turns found i
unfolding slices_from repeated
slices_repeated zero found i = refl
slices_repeated (suc turns) found i = slices_case (sees sign.LeftBracket i) (slice (next i)) turns found i (λ found j. slices_repeated turns found j)

pub slices_enough : (turns : ℕ) (found : List Slice) (i : Input) → length i.rest ≤ turns → slices_from turns found i ≡ slices_from (length i.rest) found i
slices_enough turns found i within = slices_repeated turns found i ∙ enough slice_step pure slice_steps slices_end turns found i within ∙ sym (slices_repeated (length i.rest) found i)

pub slices_repeat : IsRepetition slice_step more_slices
slices_repeat = repetition_too slice_step more_slices (λ found i. repeated slice_step pure (length i.rest) found i) (λ found i. slices_repeated (length i.rest) found i) (repetition slice_step pure slice_steps slices_end)

slices_from_shrinks : (turns : ℕ) (found : List Slice) → Shrinks (slices_from turns found)
unfolding slices_from
slices_from_shrinks zero found = pure_shrinks found
slices_from_shrinks (suc turns) found = on_shrinks _ _ _ (then_shrinks _ _ (takes_shrinks _ slice_takes) (λ s. slices_from_shrinks turns (found ++ s ∷ []))) (pure_shrinks found)

slices_shrinks : Shrinks slices
unfolding slices Leaves
slices_shrinks = λ i. slices_from_shrinks (length i.rest) [] i

-- ---- signals, with the rule of the braces

named_part : (braces : Rule (List Sig)) (kind : TokenKind) (line column : ℕ) (rest : List Token) (end : Place) → Takes braces
    → Left one (suc (length rest)) (part_with braces (record { rest = record { kind = kind; line = line; column = column } ∷ rest; end = end }))
unfolding part_with sees constant next Leaves
named_part braces (token.Word text) line column rest end takes = tt
named_part braces (token.Identifier text) line column rest end takes = omega arith
named_part braces (token.Integer n) line column rest end takes = omega arith
named_part braces (token.Constant c) line column rest end takes = omega arith
named_part braces (token.String text) line column rest end takes = omega arith
named_part braces token.LeftBrace line column rest end takes = then_takes braces (λ parts. pure (part.Concatenation parts)) takes (λ parts. pure_shrinks (part.Concatenation parts)) (record { rest = record { kind = token.LeftBrace; line = line; column = column } ∷ rest; end = end })
named_part braces token.RightBrace line column rest end takes = tt
named_part braces token.LeftBracket line column rest end takes = tt
named_part braces token.RightBracket line column rest end takes = tt
named_part braces token.Colon line column rest end takes = tt
named_part braces token.Comma line column rest end takes = tt
named_part braces token.EndOfLine line column rest end takes = tt

part_left : (braces : Rule (List Sig)) (rest : List Token) (end : Place) → Takes braces → Left one (length rest) (part_with braces (record { rest = rest; end = end }))
unfolding part_with sees constant next
part_left braces [] end takes = tt
part_left braces (t ∷ rest) end takes = let l = named_part braces t.kind t.line t.column rest end takes in l

part_takes : (braces : Rule (List Sig)) → Takes braces → Takes (part_with braces)
unfolding Leaves
part_takes braces takes = λ i. part_left braces i.rest i.end takes

sig_with_takes : (braces : Rule (List Sig)) → Takes braces → Takes (sig_with braces)
unfolding sig_with
sig_with_takes braces takes = then_takes _ _ (part_takes braces takes) (λ part. then_shrinks _ _ slices_shrinks (λ found. pure_shrinks _))

-- ---- concatenations, with the rule of a part

part_steps : (inner : Rule Sig) → Takes inner → (found : List Sig) → Step (part_step inner found)
part_steps inner takes found = on_step _ _ _ (stop_shrinks found) (then_step _ _ takes (λ s. more_shrinks _))

parts_end : (inner : Rule Sig) → Refuses inner → Ends (part_step inner) (λ _. refuse)
unfolding sees
parts_end inner refuses state end = ap (λ o. and_then o (λ s. more (state ++ s ∷ []))) (refuses end)

parts_case : (inner : Rule Sig) (b : Bool) (o : Outcome Sig) (turns : ℕ) (found : List Sig) (i : Input)
    → ((found : List Sig) (j : Input) → parts_from inner turns found j ≡ repeated (part_step inner) (λ _. refuse) turns found j)
    → (if b then Ok (found, i) else and_then o (λ s. parts_from inner turns (found ++ s ∷ [])))
    ≡ and_then (if b then Ok ((found, false), i) else and_then o (λ s. more (found ++ s ∷ []))) (λ p. if p.1 then repeated (part_step inner) (λ _. refuse) turns p.0 else pure p.0)
parts_case inner true o turns found i same = refl
parts_case inner false (Err e) turns found i same = refl
parts_case inner false (Ok (s, j)) turns found i same = same (found ++ s ∷ []) j

parts_repeated : (inner : Rule Sig) (turns : ℕ) (found : List Sig) (i : Input) → parts_from inner turns found i ≡ repeated (part_step inner) (λ _. refuse) turns found i
unfolding parts_from repeated
parts_repeated inner zero found i = refl
parts_repeated inner (suc turns) found i = parts_case inner (sees sign.RightBrace i) (inner i) turns found (next i) (λ found j. parts_repeated inner turns found j)

parts_from_shrinks : (inner : Rule Sig) → Takes inner → (turns : ℕ) (found : List Sig) → Shrinks (parts_from inner turns found)
unfolding parts_from
parts_from_shrinks inner takes zero found = refuse_leaves none
parts_from_shrinks inner takes (suc turns) found = on_shrinks _ _ _ (pure_shrinks found) (then_shrinks _ _ (takes_shrinks _ takes) (λ s. parts_from_shrinks inner takes turns (found ++ s ∷ [])))

parts_shrinks : (inner : Rule Sig) → Takes inner → Shrinks (parts inner)
unfolding parts Leaves
parts_shrinks inner takes = λ i. parts_from_shrinks inner takes (length i.rest) [] i

braces_takes : (depth : ℕ) → Takes (braces_within depth)
unfolding braces_within Leaves
braces_takes zero = fail_leaves {A = List Sig} one Nesting
braces_takes (suc depth) = λ i. next_left one i (parts (sig_with (braces_within depth))) one_few (parts_shrinks _ (sig_with_takes _ (braces_takes depth)))

sig_within_takes : (depth : ℕ) → Takes (sig_within depth)
sig_within_takes depth = sig_with_takes (braces_within depth) (braces_takes depth)

pub sig_takes : Takes sig
sig_takes = sig_within_takes deepest

sig_refuses : (depth : ℕ) → Refuses (sig_within depth)
unfolding sig_with part_with sees constant
sig_refuses depth end = refl

pub parts_enough : (depth turns : ℕ) (found : List Sig) (i : Input) → length i.rest ≤ turns → parts_from (sig_within depth) turns found i ≡ parts_from (sig_within depth) (length i.rest) found i
parts_enough depth turns found i within =
    parts_repeated (sig_within depth) turns found i
    ∙ enough (part_step (sig_within depth)) (λ _. refuse) (part_steps (sig_within depth) (sig_within_takes depth)) (parts_end (sig_within depth) (sig_refuses depth)) turns found i within
    ∙ sym (parts_repeated (sig_within depth) (length i.rest) found i)

pub sig_takes_token : (depth : ℕ) → TakesToken (sig_within depth)
sig_takes_token depth = takes_token (sig_within depth) (sig_within_takes depth) (sig_refuses depth)

pub parts_repeat : (depth : ℕ) → IsRepetition (part_step (sig_within depth)) (more_parts (sig_within depth))
parts_repeat depth = repetition_too (part_step (sig_within depth)) (more_parts (sig_within depth)) (λ found i. repeated (part_step (sig_within depth)) (λ _. refuse) (length i.rest) found i)
    (λ found i. parts_repeated (sig_within depth) (length i.rest) found i)
    (repetition (part_step (sig_within depth)) (λ _. refuse) (part_steps (sig_within depth) (sig_within_takes depth)) (parts_end (sig_within depth) (sig_refuses depth)))
