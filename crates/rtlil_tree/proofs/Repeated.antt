-- A repetition with more turns than tokens.
use Rattle.std.proofs.Common.{◌≡◌, ◌≤◌, ◌<◌, ℕ, zero, suc, List, [], ◌∷◌, length, Bool, true, false, Ok, Err, refl, sym, ap, subst, ◌+◌, ◌-◌, ◌∙◌, if◌then◌else◌, arith}
use Rattle.rtlil_tree.specs.Input.{Input, Outcome, Rule, and_then, pure, refuse, fault_at, repeated, many, up_to_end}
use Rattle.rtlil_tree.specs.declared.place.Place.{Place}
use Rattle.rtlil_lexer.specs.declared.token.Token.{Token}
use Rattle.rtlil_lexer.specs.declared.fault.TextFault.{TextFault}
use Rattle.rtlil_lexer.specs.declared.fault.TextFaultKind.TheVariants.{Syntax}
use Rattle.rtlil_tree.specs.Turns.{Enough, Repeats, IsRepetition, IsStep, TakesToken}
use Rattle.rtlil_tree.proofs.Leaves.{Leaves, Left, Takes, Shrinks, one, Step, stepped, none, pure_shrinks, then_leaves, refuse_leaves}

-- the outcome of a last step
abbrev pub last : {S : Type 0} → Outcome S → Outcome (S × Bool)
last (Ok p) = Ok ((p.0, false), p.1)
last (Err e) = Err e

-- where no token is left, a step ends the repetition as no turn would
abbrev pub Ends : {S : Type 0} → (S → Rule (S × Bool)) → (S → Rule S) → Type 0
Ends {S} step ended = (state : S) (end : Place) → step state (record { rest = []; end = end }) ≡ last (ended state (record { rest = []; end = end }))

no_more : {S : Type 0} (after : S → Rule S) (o : Outcome S) → and_then (last o) (λ p. if p.1 then after p.0 else pure p.0) ≡ o
no_more after (Ok p) = refl
no_more after (Err e) = refl

pub at_end : {S : Type 0} (step : S → Rule (S × Bool)) (ended : S → Rule S) → Ends step ended
    → (turns : ℕ) (state : S) (end : Place) → repeated step ended (suc turns) state (record { rest = []; end = end }) ≡ ended state (record { rest = []; end = end })
unfolding repeated
at_end step ended ends turns state end =
    ap (λ o. and_then o (λ p. if p.1 then repeated step ended turns p.0 else pure p.0)) (ends state end) ∙ no_more (repeated step ended turns) (ended state (record { rest = []; end = end }))

goes_on : {S : Type 0} (after other : S → Rule S) (k : ℕ) (o : Outcome (S × Bool)) → Left stepped (suc k) o
    → ((state : S) (i : Input) → length i.rest ≤ k → after state i ≡ other state i)
    → and_then o (λ p. if p.1 then after p.0 else pure p.0) ≡ and_then o (λ p. if p.1 then other p.0 else pure p.0)
goes_on after other k (Err e) left same = refl
goes_on after other k (Ok ((state, true), i)) left same = same state i (omega arith)
goes_on after other k (Ok ((state, false), i)) left same = refl

same_from : {S : Type 0} (step : S → Rule (S × Bool)) (ended : S → Rule S) → ((state : S) → Step (step state)) → Ends step ended
    → (m n : ℕ) (state : S) (rest : List Token) (end : Place) → length rest ≤ m → length rest ≤ n
    → repeated step ended m state (record { rest = rest; end = end }) ≡ repeated step ended n state (record { rest = rest; end = end })
unfolding repeated Leaves
same_from step ended steps ends zero zero state rest end lm ln = refl
same_from step ended steps ends zero (suc n) state [] end lm ln = sym (at_end step ended ends n state end)
same_from step ended steps ends zero (suc n) state (_ ∷ _) end lm ln = absurd (omega arith)
same_from step ended steps ends (suc m) zero state [] end lm ln = at_end step ended ends m state end
same_from step ended steps ends (suc m) zero state (_ ∷ _) end lm ln = absurd (omega arith)
same_from step ended steps ends (suc m) (suc n) state [] end lm ln = at_end step ended ends m state end ∙ sym (at_end step ended ends n state end)
same_from step ended steps ends (suc m) (suc n) state (t ∷ ts) end lm ln =
    goes_on (repeated step ended m) (repeated step ended n) (length ts) (step state (record { rest = t ∷ ts; end = end })) (steps state (record { rest = t ∷ ts; end = end }))
    (λ state j within. same_from step ended steps ends m n state j.rest j.end (omega arith) (omega arith))

pub same : {S : Type 0} (step : S → Rule (S × Bool)) (ended : S → Rule S) → ((state : S) → Step (step state)) → Ends step ended
    → (m n : ℕ) (state : S) (i : Input) → length i.rest ≤ m → length i.rest ≤ n → repeated step ended m state i ≡ repeated step ended n state i
same step ended steps ends m n state i lm ln = same_from step ended steps ends m n state i.rest i.end lm ln

pub enough : {S : Type 0} (step : S → Rule (S × Bool)) (ended : S → Rule S) → ((state : S) → Step (step state)) → Ends step ended → Enough step ended
enough step ended steps ends turns state i within = same step ended steps ends turns (length i.rest) state i within (omega arith)

-- ---- a repetition without its bound

unbounded : {S : Type 0} (step : S → Rule (S × Bool)) (ended : S → Rule S) → S → Rule S
unbounded step ended state = λ i. repeated step ended (length i.rest) state i

unrolled_from : {S : Type 0} (step : S → Rule (S × Bool)) (ended : S → Rule S) → ((state : S) → Step (step state)) → Ends step ended → (state : S) (rest : List Token) (end : Place)
    → repeated step ended (length rest) state (record { rest = rest; end = end })
    ≡ and_then (step state (record { rest = rest; end = end })) (λ p. if p.1 then unbounded step ended p.0 else pure p.0)
unfolding repeated Leaves unbounded
unrolled_from step ended steps ends state [] end =
    sym (ap (λ o. and_then o (λ p. if p.1 then unbounded step ended p.0 else pure p.0)) (ends state end) ∙ no_more (unbounded step ended) (ended state (record { rest = []; end = end })))
unrolled_from step ended steps ends state (t ∷ ts) end =
    goes_on (repeated step ended (length ts)) (unbounded step ended) (length ts) (step state (record { rest = t ∷ ts; end = end })) (steps state (record { rest = t ∷ ts; end = end }))
    (λ state j within. same step ended steps ends (length ts) (length j.rest) state j within (omega arith))

repeats : {S : Type 0} (step : S → Rule (S × Bool)) (ended : S → Rule S) → ((state : S) → Step (step state)) → Ends step ended
    → Repeats step (λ state i. repeated step ended (length i.rest) state i)
unfolding unbounded
repeats step ended steps ends state i = unrolled_from step ended steps ends state i.rest i.end

then_same : {S : Type 0} (one other : S → Rule S) (o : Outcome (S × Bool)) → ((state : S) (i : Input) → one state i ≡ other state i)
    → and_then o (λ p. if p.1 then one p.0 else pure p.0) ≡ and_then o (λ p. if p.1 then other p.0 else pure p.0)
then_same one other (Err e) same = refl
then_same one other (Ok ((state, true), i)) same = same state i
then_same one other (Ok ((state, false), i)) same = refl

-- what reads the same repeats the same step
repeats_too : {S : Type 0} (step : S → Rule (S × Bool)) (one other : S → Rule S) → ((state : S) (i : Input) → one state i ≡ other state i) → Repeats step other → Repeats step one
repeats_too step one other same known state i = same state i ∙ known state i ∙ sym (then_same one other (step state i) same)

one_only : {S : Type 0} (step : S → Rule (S × Bool)) (ended one other : S → Rule S) → ((state : S) → Step (step state)) → Ends step ended → Repeats step one → Repeats step other
    → (bound : ℕ) (state : S) (rest : List Token) (end : Place) → length rest ≤ bound → one state (record { rest = rest; end = end }) ≡ other state (record { rest = rest; end = end })
unfolding Leaves
one_only step ended one other steps ends first second bound state [] end within =
    first state (record { rest = []; end = end })
    ∙ ap (λ o. and_then o (λ p. if p.1 then one p.0 else pure p.0)) (ends state end) ∙ no_more one (ended state (record { rest = []; end = end }))
    ∙ sym (second state (record { rest = []; end = end }) ∙ ap (λ o. and_then o (λ p. if p.1 then other p.0 else pure p.0)) (ends state end) ∙ no_more other (ended state (record { rest = []; end = end })))
one_only step ended one other steps ends first second zero state (t ∷ ts) end within = absurd (omega arith)
one_only step ended one other steps ends first second (suc bound) state (t ∷ ts) end within =
    first state (record { rest = t ∷ ts; end = end })
    ∙ goes_on one other (length ts) (step state (record { rest = t ∷ ts; end = end })) (steps state (record { rest = t ∷ ts; end = end }))
    (λ state j less. one_only step ended one other steps ends first second bound state j.rest j.end (omega arith))
    ∙ sym (second state (record { rest = t ∷ ts; end = end }))

pub repetition : {S : Type 0} (step : S → Rule (S × Bool)) (ended : S → Rule S) → ((state : S) → Step (step state)) → Ends step ended
    → IsRepetition step (λ state i. repeated step ended (length i.rest) state i)
repetition {S} step ended steps ends = (
  repeats step ended steps ends,
  (λ other known state i. one_only step ended other (λ state i. repeated step ended (length i.rest) state i) steps ends known (repeats step ended steps ends) (length i.rest) state i.rest i.end (omega arith)),
)

-- what reads the same is it too
pub repetition_too : {S : Type 0} (step : S → Rule (S × Bool)) (one other : S → Rule S) → ((state : S) (i : Input) → one state i ≡ other state i) → IsRepetition step other → IsRepetition step one
repetition_too step one other same is = (
  repeats_too step one other same is.0,
  (λ another known state i. is.1 another known state i ∙ sym (same state i)),
)

-- ---- a step after which more may come takes a token

more_after : {S : Type 0} → Outcome (S × Bool) → Bool
more_after (Ok p) = p.0.1
more_after (Err e) = false

none_after : {S : Type 0} (o : Outcome S) → more_after (last o) ≡ false
unfolding more_after
none_after (Ok p) = refl
none_after (Err e) = refl

differ : true ≡ false → ⊥
differ e = grind arith

is_step_from : {S : Type 0} (step : S → Rule (S × Bool)) (ended : S → Rule S) → ((state : S) → Step (step state)) → Ends step ended
    → (state next : S) (goes_on : Bool) (rest : List Token) (end : Place) (j : Input) → step state (record { rest = rest; end = end }) ≡ Ok ((next, goes_on), j)
    → length j.rest + (if goes_on then 1 else 0) ≤ length rest
unfolding Leaves more_after
is_step_from step ended steps ends state next false rest end j e =
    let left : length j.rest ≤ length rest - 0 = subst (λ o. Left stepped (length rest) o) e (steps state (record { rest = rest; end = end })) in omega arith
is_step_from step ended steps ends state next true [] end j e =
    absurd (differ (sym (ap more_after e) ∙ ap more_after (ends state end) ∙ none_after (ended state (record { rest = []; end = end }))))
is_step_from step ended steps ends state next true (t ∷ ts) end j e =
    let left : length j.rest ≤ suc (length ts) - 1 = subst (λ o. Left stepped (suc (length ts)) o) e (steps state (record { rest = t ∷ ts; end = end })) in omega arith

pub is_step : {S : Type 0} (step : S → Rule (S × Bool)) (ended : S → Rule S) → ((state : S) → Step (step state)) → Ends step ended → IsStep step
is_step step ended steps ends state next goes_on i j e = is_step_from step ended steps ends state next goes_on i.rest i.end j e

-- ---- a rule that takes a token

-- where no token is left, the rule refuses
abbrev pub Refuses : {A : Type 0} → Rule A → Type 0
Refuses {A} rule = (end : Place) → rule (record { rest = []; end = end }) ≡ refuse (record { rest = []; end = end })

not_read : {A : Type 0} (a : A) (f : TextFault) (o : Outcome A) (j : Input) → o ≡ Err f → o ≡ Ok (a, j) → ⊥
not_read a f o j refused read = grind arith

takes_token_from : {A : Type 0} (rule : Rule A) → Takes rule → Refuses rule
    → (a : A) (rest : List Token) (end : Place) (j : Input) → rule (record { rest = rest; end = end }) ≡ Ok (a, j) → length j.rest < length rest
unfolding Leaves
takes_token_from rule takes refuses a [] end j e = absurd (not_read a (fault_at Syntax (record { rest = []; end = end })) _ j (refuses end) e)
takes_token_from rule takes refuses a (t ∷ ts) end j e =
    let left : length j.rest ≤ suc (length ts) - 1 = subst (λ o. Left one (suc (length ts)) o) e (takes (record { rest = t ∷ ts; end = end })) in omega arith

pub takes_token : {A : Type 0} (rule : Rule A) → Takes rule → Refuses rule → TakesToken rule
takes_token rule takes refuses a i j e = takes_token_from rule takes refuses a i.rest i.end j e

-- ---- what a repetition leaves

either : {S : Type 0} (b : Bool) (x y : Rule S) → Shrinks x → Shrinks y → Shrinks (if b then x else y)
either true x y first second = first
either false x y first second = second

-- a repetition leaves no more than there was
repeated_shrinks : {S : Type 0} (step : S → Rule (S × Bool)) (ended : S → Rule S) → ((state : S) → Step (step state)) → ((state : S) → Shrinks (ended state))
    → (turns : ℕ) (state : S) → Shrinks (repeated step ended turns state)
unfolding repeated
repeated_shrinks step ended steps ends zero state = ends state
repeated_shrinks step ended steps ends (suc turns) state =
    then_leaves stepped none none (step state) (λ p. if p.1 then repeated step ended turns p.0 else pure p.0) (λ n a b. omega arith) (steps state)
    (λ p. either p.1 (repeated step ended turns p.0) (pure p.0) (repeated_shrinks step ended steps ends turns p.0) (pure_shrinks p.0))

pub many_shrinks : {S : Type 0} (step : S → Rule (S × Bool)) → ((state : S) → Step (step state)) → (state : S) → Shrinks (many step state)
unfolding Leaves
many_shrinks step steps state = λ i. repeated_shrinks step pure steps pure_shrinks (length i.rest) state i

pub up_to_end_shrinks : {S : Type 0} (step : S → Rule (S × Bool)) → ((state : S) → Step (step state)) → (state : S) → Shrinks (up_to_end step state)
unfolding Leaves
up_to_end_shrinks {S} step steps state = λ i. repeated_shrinks step (λ _. refuse) steps (λ _. refuse_leaves {A = S} none) (length i.rest) state i
