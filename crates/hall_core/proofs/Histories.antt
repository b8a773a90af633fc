-- Laws of the histories that a run may have.
use Rattle.std.proofs.Common.{◌≡◌, ◌≢◌, ℕ, true, List, [], ◌∷◌, ◌++◌, refl, sym, ap, subst, append-nil, ◌∙◌}
use Rattle.hall_core.specs.declared.entry.Entry.{Entry}
use Rattle.hall_core.specs.Replay.{replay}
use Rattle.hall_core.specs.Legal.{RunFacts, allowed, Meets, Next, Follows, Legal}
use Rattle.hall_core.specs.Laws.{Taken, none, one_more}

append_assoc' : (xs ys zs : List Entry) → (xs ++ ys) ++ zs ≡ xs ++ (ys ++ zs)
append_assoc' [] ys zs = refl
append_assoc' (x ∷ xs) ys zs = ap (λ z. x ∷ z) (append_assoc' xs ys zs)

-- where an entry stands in a list that one entry was put behind: it is that one, or it stands before it
data IsPlace (history : List Entry) (last : Entry) (before : List Entry) (e : Entry) : Type 0 where
  at_end : before ≡ history → e ≡ last → IsPlace history last before e
  inside : (rest : List Entry) → history ≡ before ++ e ∷ rest → IsPlace history last before e

place-cons : (y : Entry) (history : List Entry) (last : Entry) (before : List Entry) (e : Entry) → IsPlace history last before e → IsPlace (y ∷ history) last (y ∷ before) e
place-cons y history last before e (at_end same is) = at_end (ap (λ z. y ∷ z) same) is
place-cons y history last before e (inside rest same) = inside rest (ap (λ z. y ∷ z) same)

cons-nil : (y : Entry) (ys : List Entry) → y ∷ ys ≡ [] → ⊥
cons-nil y ys h = cc

no_more : (before : List Entry) (e : Entry) (more : List Entry) → [] ≡ before ++ e ∷ more → ⊥
no_more [] e more h = cons-nil e more (sym h)
no_more (b ∷ before) e more h = cons-nil b (before ++ e ∷ more) (sym h)

place : (history : List Entry) (last : Entry) (before : List Entry) (e : Entry) (more : List Entry) → history ++ last ∷ [] ≡ before ++ e ∷ more → IsPlace history last before e
place [] last [] e more h = at_end refl cc
place [] last (b ∷ before) e more h = absurd (no_more before e more cc)
place (y ∷ ys) last [] e more h = inside ys cc
place (y ∷ ys) last (b ∷ before) e more h =
    let head : y ≡ b = cc in
    subst (λ z. IsPlace (y ∷ ys) last (z ∷ before) e) head (place-cons y ys last before e (place ys last before e more cc))

next_at : (run : RunFacts) (history : List Entry) (last : Entry) → Follows run history → Next run history last → (before : List Entry) (e : Entry) → IsPlace history last before e → Next run before e
next_at run history last follows next before e (at_end same is) = subst (λ z. Next run z e) (sym same) (subst (λ z. Next run history z) (sym is) next)
next_at run history last follows next before e (inside rest same) = follows before rest e same

Follows-push : (run : RunFacts) (history : List Entry) (last : Entry) → Follows run history → Next run history last → Follows run (history ++ last ∷ [])
Follows-push run history last follows next before more e h = next_at run history last follows next before e (place history last before e more h)

push-nil : (history : List Entry) (last : Entry) → history ++ last ∷ [] ≢ []
push-nil [] last h = cons-nil last [] h
push-nil (y ∷ ys) last h = cons-nil y (ys ++ last ∷ []) h

Legal-push : (run : RunFacts) (history : List Entry) (last : Entry) → Follows run history → Next run history last → Legal run (history ++ last ∷ [])
Legal-push run history last follows next = (push-nil history last, Follows-push run history last follows next)

no_place : (run : RunFacts) → Follows run []
no_place run before more e h = absurd (no_more before e more h)

Follows-legal : (run : RunFacts) (history : List Entry) → (history ≢ [] → Legal run history) → Follows run history
Follows-legal run [] legal = no_place run
Follows-legal run (e ∷ history) legal = (legal (cons-nil e history)).1

-- an entry that may come next and fits the run keeps the history legal
pub legal_step : (count : ℕ) (history : List Entry) (e : Entry) (new : List Entry) → new ≡ history ++ e ∷ [] → allowed count (replay history) e ≡ true → (run : RunFacts) → run.count ≡ count → (history ≢ [] → Legal run history) → Meets run (replay history) e → Legal run new
legal_step count history e new is may run same legal meets =
    subst (λ z. Legal run z) (sym is) (Legal-push run history e (Follows-legal run history legal) (record { allows = subst (λ z. allowed z (replay history) e ≡ true) (sym same) may; meets = meets }))

-- the beginnings of a legal history are legal
Follows-beginning : (run : RunFacts) (begun more : List Entry) → Follows run (begun ++ more) → Follows run begun
Follows-beginning run begun more follows before rest e h = follows before (rest ++ more) e (ap (λ z. z ++ more) h ∙ append_assoc' before (e ∷ rest) more)

pub legal_beginning : (run : RunFacts) (begun more : List Entry) → begun ≢ [] → Legal run (begun ++ more) → Legal run begun
legal_beginning run begun more some legal = (some, Follows-beginning run begun more legal.1)

-- what steps lead to is legal
pub Follows-taken : (run : RunFacts) (history : List Entry) → Taken run history → Follows run history
Follows-taken run _ none = no_place run
Follows-taken run _ (one_more {history} taken e next) = Follows-push run history e (Follows-taken run history taken) next

pub legal_taken : (run : RunFacts) (history : List Entry) → Taken run history → history ≢ [] → Legal run history
legal_taken run history taken some = (some, Follows-taken run history taken)

taken_on : (run : RunFacts) (before rest : List Entry) → Taken run before → Follows run (before ++ rest) → Taken run (before ++ rest)
taken_on run before [] taken follows = subst (λ z. Taken run z) (sym (append-nil before)) taken
taken_on run before (e ∷ rest) taken follows =
    let same : (before ++ e ∷ []) ++ rest ≡ before ++ e ∷ rest = append_assoc' before (e ∷ []) rest in
    subst (λ z. Taken run z) same
    (taken_on run (before ++ e ∷ []) rest (one_more taken e (follows before rest e refl)) (subst (λ z. Follows run z) (sym same) follows))

-- steps lead to every legal history
pub taken_legal : (run : RunFacts) (history : List Entry) → Legal run history → Taken run history
taken_legal run history legal = taken_on run [] history none legal.1
