-- Words for the laws of what the grammar has in braces.
use Rattle.std.specs.Prelude.{◌≡◌, ◌≤◌, ◌<◌, ℕ, ◌+◌, Bool, List, [], ◌∷◌, ◌++◌, length, Ok, if◌then◌else◌}
use Rattle.rtlil_tree.specs.declared.cursor.Sign.TheVariants as sign
use Rattle.rtlil_tree.specs.declared.sig.Slice.{Slice}
use Rattle.rtlil_tree.specs.declared.sig.Sig.{Sig}
use Rattle.rtlil_tree.specs.Input.{Input, Rule, ◌>>=◌, pure, on, more, stop, repeated}
use Rattle.rtlil_tree.specs.Sigs.{slice, slices_from, parts_from}

-- as many turns as tokens are left, or more, give the same: the bound is not what ends the repetition
abbrev pub Enough : {S : Type 0} → (S → Rule (S × Bool)) → (S → Rule S) → Type 0
Enough {S} step ended = (turns : ℕ) (state : S) (i : Input) → length i.rest ≤ turns → repeated step ended turns state i ≡ repeated step ended (length i.rest) state i

-- what a step leaves is not more than there was, and less where more may come
abbrev pub IsStep : {S : Type 0} → (S → Rule (S × Bool)) → Type 0
IsStep {S} step = (state next : S) (goes_on : Bool) (i j : Input) → step state i ≡ Ok ((next, goes_on), j) → length j.rest + (if goes_on then 1 else 0) ≤ length i.rest

-- a rule that takes a token
abbrev pub TakesToken : {A : Type 0} → Rule A → Type 0
TakesToken {A} rule = (a : A) (i j : Input) → rule i ≡ Ok (a, j) → length j.rest < length i.rest

-- as the grammar says it, with no bound: a step, and the same again where more may come
abbrev pub Repeats : {S : Type 0} → (S → Rule (S × Bool)) → (S → Rule S) → Type 0
Repeats {S} step all = (state : S) (i : Input) → all state i ≡ (step state >>= λ p. if p.1 then all p.0 else pure p.0) i

-- the same, and no other rule is so
abbrev pub IsRepetition : {S : Type 0} → (S → Rule (S × Bool)) → (S → Rule S) → Type 0
IsRepetition {S} step all = Repeats step all × ((other : S → Rule S) → Repeats step other → (state : S) (i : Input) → other state i ≡ all state i)

-- one slice more, if there is one
abbrev pub slice_step : List Slice → Rule (List Slice × Bool)
slice_step found = on sign.LeftBracket (slice >>= λ s. more (found ++ s ∷ [])) (stop found)

-- the brace behind a concatenation, or one part more
abbrev pub part_step : Rule Sig → List Sig → Rule (List Sig × Bool)
part_step sig found = on sign.RightBrace (stop found) (sig >>= λ s. more (found ++ s ∷ []))

-- slices behind those that were read
abbrev pub more_slices : List Slice → Rule (List Slice)
more_slices found = λ i. slices_from (length i.rest) found i

-- parts of a concatenation behind those that were read
abbrev pub more_parts : Rule Sig → List Sig → Rule (List Sig)
more_parts sig found = λ i. parts_from sig (length i.rest) found i
