-- A file that has a tree is read to its end.
use Rattle.std.proofs.Common.{◌≡◌, ◌≤◌, ℕ, zero, suc, List, [], ◌∷◌, ◌++◌, length, Bool, true, false, ◌==◌, Ok, Err, refl, sym, subst, codes, if◌then◌else◌, arith}
use Rattle.rtlil_lexer.specs.declared.token.Token.{Token}
use Rattle.rtlil_tree.specs.declared.cursor.Sign.{Sign}
use Rattle.rtlil_tree.specs.declared.cursor.Sign.TheVariants as sign
use Rattle.rtlil_tree.specs.declared.place.Place.{Place}
use Rattle.rtlil_tree.specs.declared.draft.Modules.{Modules}
use Rattle.rtlil_tree.specs.declared.module.File.{File}
use Rattle.rtlil_tree.specs.Input.{Input, Outcome, Rule, and_then, ◌>>=◌, ◌>>◌, pure, refuse, on, on_word, sees, sees_word, next, repeated, more, integer, expect, start}
use Rattle.rtlil_tree.specs.Statements.{attribute}
use Rattle.rtlil_tree.specs.Modules.{file, file_line, file_lines, module_part, module_with}
use Rattle.rtlil_tree.proofs.Leaves.{Leaves, Left, stepped}
use Rattle.rtlil_tree.proofs.Repeated.{at_end}
use Rattle.rtlil_tree.proofs.Modules.{file_line_steps, file_lines_end}

-- ---- a step that is never the last

abbrev GoesOn : {S : Type 0} → Outcome (S × Bool) → Type 0
GoesOn (Ok p) = p.0.1 ≡ true
GoesOn (Err e) = Unit {0}

unfoldable Endless : {S : Type 0} → Rule (S × Bool) → Type 0
Endless r = (i : Input) → GoesOn (r i)

if_goes_on : {S : Type 0} (b : Bool) (x y : Outcome (S × Bool)) → GoesOn x → GoesOn y → GoesOn (if b then x else y)
if_goes_on true x y first second = first
if_goes_on false x y first second = second

then_goes_on : {A S : Type 0} (o : Outcome A) (f : A → Rule (S × Bool)) → ((a : A) → Endless (f a)) → GoesOn (and_then o f)
unfolding Endless
then_goes_on (Ok p) f each = each p.0 p.1
then_goes_on (Err e) f each = tt

more_endless : {S : Type 0} (state : S) → Endless (more state)
unfolding Endless
more_endless state = λ i. refl

refuse_endless : (S : Type 0) → Endless {S = S} refuse
unfolding Endless
refuse_endless S = λ i. tt

then_endless : {A S : Type 0} (p : Rule A) (f : A → Rule (S × Bool)) → ((a : A) → Endless (f a)) → Endless (p >>= f)
unfolding Endless
then_endless p f each = λ i. then_goes_on (p i) f each

on_endless : {S : Type 0} (s : Sign) (found other : Rule (S × Bool)) → Endless found → Endless other → Endless (on s found other)
unfolding Endless
on_endless s found other first second = λ i. if_goes_on (sees s i) (found (next i)) (other i) (first (next i)) (second i)

word_endless : {S : Type 0} (text : List ℕ) (found other : Rule (S × Bool)) → Endless found → Endless other → Endless (on_word text found other)
unfolding Endless
word_endless text found other first second = λ i. if_goes_on (sees_word text i) (found (next i)) (other i) (first (next i)) (second i)

module_part_endless : (draft : Modules) → Endless (module_part draft)
unfolding module_part
module_part_endless draft = then_endless (module_with draft.waiting) _ (λ m. more_endless _)

-- a line of a file, where a token is left
unfoldable line : Modules → Rule (Modules × Bool)
line draft =
    on sign.EndOfLine (more draft) (
    on_word (codes "autoidx") (integer >>= λ _. expect sign.EndOfLine >> more (record draft { waiting = [] })) (
    on_word (codes "attribute") (attribute >>= λ a. more (record draft { waiting = draft.waiting ++ a ∷ [] })) (
    on_word (codes "module") (module_part draft)
    refuse)))

line_endless : (draft : Modules) → Endless (line draft)
unfolding line
line_endless draft =
    on_endless _ _ _ (more_endless draft) (
    word_endless _ _ _ (then_endless integer _ (λ n. then_endless (expect sign.EndOfLine) _ (λ _. more_endless _))) (
    word_endless _ _ _ (then_endless attribute _ (λ a. more_endless _)) (
    word_endless _ _ _ (module_part_endless draft) (
    refuse_endless Modules))))

some_left : (n : ℕ) → (suc n == 0) ≡ false
some_left n = grind arith

file_line_goes_on : (draft : Modules) (t : Token) (ts : List Token) (end : Place) → GoesOn (file_line draft (record { rest = t ∷ ts; end = end }))
unfolding file_line line Endless
file_line_goes_on draft t ts end =
    subst (λ b. GoesOn (if b then Ok ((draft, false), record { rest = t ∷ ts; end = end }) else line draft (record { rest = t ∷ ts; end = end }))) (sym (some_left (length ts)))
    (line_endless draft (record { rest = t ∷ ts; end = end }))

-- ---- what is left at the end

abbrev Whole : {A : Type 0} → Outcome A → Type 0
Whole (Ok p) = p.1.rest ≡ []
Whole (Err e) = Unit {0}

whole_then : (k : ℕ) (o : Outcome (Modules × Bool)) (after : Modules → Rule Modules) → Left stepped (suc k) o → GoesOn o
    → ((state : Modules) (i : Input) → length i.rest ≤ k → Whole (after state i)) → Whole (and_then o (λ p. if p.1 then after p.0 else pure p.0))
whole_then k (Err e) after left goes_on each = tt
whole_then k (Ok ((state, true), i)) after left goes_on each = each state i (omega arith)
whole_then k (Ok ((state, false), i)) after left goes_on each = absurd (grind arith)

lines_whole : (turns : ℕ) (state : Modules) (rest : List Token) (end : Place) → length rest ≤ turns → Whole (repeated file_line pure turns state (record { rest = rest; end = end }))
unfolding repeated Leaves
lines_whole zero state [] end within = refl
lines_whole zero state (t ∷ ts) end within = absurd (omega arith)
lines_whole (suc turns) state [] end within = subst Whole (sym (at_end file_line pure file_lines_end turns state end)) refl
lines_whole (suc turns) state (t ∷ ts) end within =
    whole_then (length ts) (file_line state (record { rest = t ∷ ts; end = end })) (repeated file_line pure turns)
    (file_line_steps state (record { rest = t ∷ ts; end = end })) (file_line_goes_on state t ts end)
    (λ state j less. lines_whole turns state j.rest j.end (omega arith))

file_from : (o : Outcome Modules) → Whole o → Whole (and_then o (λ lines. pure (let f : File = record { modules = lines.found } in f)))
file_from (Ok p) whole = whole
file_from (Err e) whole = tt

file_whole : (i : Input) → Whole (file i)
unfolding file file_lines
file_whole i = file_from (file_lines i) (lines_whole (length i.rest) _ i.rest i.end (omega arith))

pub whole_file : (tokens : List Token) (f : File) (left : Input) → file (start tokens) ≡ Ok (f, left) → left.rest ≡ []
whole_file tokens f left e = subst Whole e (file_whole (start tokens))
