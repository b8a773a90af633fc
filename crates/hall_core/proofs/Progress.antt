-- What a history's entries do to the number of samples and to the goal.
use Rattle.std.proofs.Common.{◌≡◌, ◌≢◌, ℕ, ◌+◌, ◌≤◌, Bool, true, false, List, [], ◌∷◌, ◌++◌, refl, sym, subst, arith, ◌⊎◌, inl, inr, cond}
use Rattle.std.specs.Prelude.{fold, ◌==◌, ◌&&◌, ◌||◌, not, nat_le}
use Rattle.std.specs.List.{list_any}
use Rattle.std.proofs.lemmas.Bool.Decides.{nat_tests}
use Rattle.std.proofs.lemmas.List.Sums.{fold-append}
use Rattle.hall_core.specs.declared.entry.Entry.{Entry}
use Rattle.hall_core.specs.declared.entry.Entry.TheVariants as entry
use Rattle.hall_core.specs.declared.entry.Act.TheVariants as act
use Rattle.hall_core.specs.declared.entry.Goal.{Goal}
use Rattle.hall_core.specs.declared.entry.Goal.TheVariants as goal
use Rattle.hall_core.specs.Replay.{Replayed, after, unbegun, replay, is_goal}
use Rattle.hall_core.specs.Legal.{RunFacts, allowed, may_begin, may_follow, is_over, Meets, Next, Legal}
use Rattle.hall_core.specs.Laws.{Taken, none, one_more, is_run, is_recording}
use Rattle.hall_core.proofs.Histories.{taken_legal}

pub replay-push : (history : List Entry) (e : Entry) → replay (history ++ e ∷ []) ≡ after (replay history) e
replay-push history e = fold-append after unbegun history (e ∷ [])

n_rises : (s : Replayed) (e : Entry) → s.n ≤ (after s e).n
n_rises s (entry.Open c) = omega arith
n_rises s (entry.Packet c act.Look) = omega arith
n_rises s (entry.Packet c (act.Run m kinds)) = omega arith
n_rises s (entry.Packet c act.Pause) = omega arith
n_rises s (entry.Record m hit) = omega arith
n_rises s entry.Unsettled = omega arith
n_rises s (entry.Close c why) = omega arith
n_rises s entry.End = omega arith

below : (a b c : ℕ) → a ≤ b → b ≤ c → a ≤ c
below a b c p q = omega arith

n_rises_all : (s : Replayed) (more : List Entry) → s.n ≤ (fold after s more).n
n_rises_all s [] = omega arith
n_rises_all s (e ∷ more) = below _ _ _ (n_rises s e) (n_rises_all (after s e) more)

pub never_falls : (before more : List Entry) → (replay before).n ≤ (replay (before ++ more)).n
never_falls before more = subst (λ z. (replay before).n ≤ z.n) (sym (fold-append after unbegun before more)) (n_rises_all (replay before) more)

n_meets : (run : RunFacts) (s : Replayed) (e : Entry) → Meets run s e → s.n ≤ run.length → (after s e).n ≤ run.length
n_meets run s (entry.Open c) meets below = below
n_meets run s (entry.Packet c act.Look) meets below = below
n_meets run s (entry.Packet c (act.Run m kinds)) meets below = below
n_meets run s (entry.Packet c act.Pause) meets below = below
n_meets run s (entry.Record m hit) meets below = meets.0
n_meets run s entry.Unsettled meets below = below
n_meets run s (entry.Close c why) meets below = below
n_meets run s entry.End meets below = below

n_taken : (run : RunFacts) (history : List Entry) → Taken run history → (replay history).n ≤ run.length
n_taken run _ none = omega arith
n_taken run _ (one_more {history} taken e next) =
    subst (λ z. z.n ≤ run.length) (sym (replay-push history e)) (n_meets run (replay history) e next.meets (n_taken run history taken))

pub never_passes : (run : RunFacts) (history : List Entry) → Legal run history → (replay history).n ≤ run.length
never_passes run history legal = n_taken run history (taken_legal run history legal)

-- sample 0 is recorded, or does not settle
abbrev IsBegun : Replayed → Type 0
IsBegun s = s.n ≡ 0 → s.unsettled ≡ true

unsettled_stays : (s : Replayed) (e : Entry) → s.unsettled ≡ true → (after s e).unsettled ≡ true
unsettled_stays s (entry.Open c) h = h
unsettled_stays s (entry.Packet c act.Look) h = h
unsettled_stays s (entry.Packet c (act.Run m kinds)) h = h
unsettled_stays s (entry.Packet c act.Pause) h = h
unsettled_stays s (entry.Record m hit) h = h
unsettled_stays s entry.Unsettled h = refl
unsettled_stays s (entry.Close c why) h = h
unsettled_stays s entry.End h = h

zero_before : (a b : ℕ) → a ≤ b → b ≡ 0 → a ≡ 0
zero_before a b p q = omega arith

IsBegun-after : (s : Replayed) (e : Entry) → IsBegun s → IsBegun (after s e)
IsBegun-after s e begun zero = unsettled_stays s e (begun (zero_before s.n (after s e).n (n_rises s e) zero))

pub false-true : false ≡ true → ⊥
false-true h = cc

pub and-first : (a b : Bool) → (a && b) ≡ true → a ≡ true
and-first true b h = refl
and-first false b h = absurd (false-true h)

no_one : (m : ℕ) → (m == 1) ≡ true → 0 + m ≡ 0 → ⊥
no_one m is zero = grind (arith, nat_tests)

one_is_not_zero : (m : ℕ) (b c : Bool) → ((m == 1) && b && c) ≡ true → 0 + m ≡ 0 → ⊥
one_is_not_zero m b c h zero = no_one m (and-first (m == 1) b (and-first ((m == 1) && b) c h)) zero

IsBegun-first : (count : ℕ) (e : Entry) → allowed count unbegun e ≡ true → IsBegun (after unbegun e)
IsBegun-first count (entry.Open c) may zero = absurd (false-true may)
IsBegun-first count (entry.Packet c what) may zero = absurd (false-true may)
IsBegun-first count (entry.Record m hit) may zero = absurd (one_is_not_zero m (not hit) true may zero)
IsBegun-first count entry.Unsettled may zero = refl
IsBegun-first count (entry.Close c why) may zero = absurd (false-true may)
IsBegun-first count entry.End may zero = absurd (false-true may)

IsBegun-next : (run : RunFacts) (history : List Entry) (e : Entry) → (history ≡ []) ⊎ IsBegun (replay history) → Next run history e → IsBegun (after (replay history) e)
IsBegun-next run history e (inl empty) next = subst (λ z. IsBegun (after (replay z) e)) (sym empty) (IsBegun-first run.count e (subst (λ z. allowed run.count (replay z) e ≡ true) empty next.allows))
IsBegun-next run history e (inr begun) next = IsBegun-after (replay history) e begun

IsBegun-taken : (run : RunFacts) (history : List Entry) → Taken run history → (history ≡ []) ⊎ IsBegun (replay history)
IsBegun-taken run _ none = inl refl
IsBegun-taken run _ (one_more {history} taken e next) =
    inr (subst (λ z. IsBegun z) (sym (replay-push history e)) (IsBegun-next run history e (IsBegun-taken run history taken) next))

of_some : (run : RunFacts) (history : List Entry) → history ≢ [] → (history ≡ []) ⊎ IsBegun (replay history) → IsBegun (replay history)
of_some run history some (inl empty) = absurd (some empty)
of_some run history some (inr begun) = begun

-- the goal lets nothing be recorded
data IsHeld : Goal → Type 0 where
  by_hold : IsHeld goal.Hold
  by_over : IsHeld goal.Over

IsHeld-cond : (b : Bool) (g : Goal) → IsHeld g → IsHeld (cond b goal.Hold g)
IsHeld-cond true g held = by_hold
IsHeld-cond false g held = held

IsHeld-after : (s : Replayed) (e : Entry) → is_run e ≡ false → IsHeld s.goal → IsHeld (after s e).goal
IsHeld-after s (entry.Open c) no_run held = held
IsHeld-after s (entry.Packet c act.Look) no_run held = held
IsHeld-after s (entry.Packet c (act.Run m kinds)) no_run held = absurd (false-true (sym no_run))
IsHeld-after s (entry.Packet c act.Pause) no_run held = by_hold
IsHeld-after s (entry.Record m hit) no_run held = IsHeld-cond (hit || is_goal s.goal (s.n + m)) s.goal held
IsHeld-after s entry.Unsettled no_run held = by_hold
IsHeld-after s (entry.Close c why) no_run held = held
IsHeld-after s entry.End no_run held = by_over

pub or-false : (a b : Bool) → (a || b) ≡ false → (a ≡ false) × (b ≡ false)
or-false true b h = absurd (false-true (sym h))
or-false false b h = (refl, h)

IsHeld-all : (s : Replayed) (more : List Entry) → list_any is_run more ≡ false → IsHeld s.goal → IsHeld (fold after s more).goal
IsHeld-all s [] no_run held = held
IsHeld-all s (e ∷ more) no_run held =
    let parts = or-false (is_run e) (list_any is_run more) no_run in
    IsHeld-all (after s e) more parts.1 (IsHeld-after s e parts.0 held)

IsBegun-all : (s : Replayed) (more : List Entry) → IsBegun s → IsBegun (fold after s more)
IsBegun-all s [] begun = begun
IsBegun-all s (e ∷ more) begun = IsBegun-all (after s e) more (IsBegun-after s e begun)

and-false : (b : Bool) → (b && false) ≡ false
and-false true = refl
and-false false = refl

and-right : (a b : Bool) → b ≡ false → (a && b) ≡ false
and-right true b h = h
and-right false b h = refl

is_zero : (n : ℕ) → (n == 0) ≡ true → n ≡ 0
is_zero n h = grind (arith, nat_tests)

-- neither begins where sample 0 is past
no_begin : (s : Replayed) (e : Entry) → is_recording e ≡ true → s.unsettled ≡ true → may_begin s e ≡ false
no_begin s (entry.Open c) recording unsettled = absurd (false-true recording)
no_begin s (entry.Packet c what) recording unsettled = absurd (false-true recording)
no_begin s (entry.Record m hit) recording unsettled = rw unsettled (and-false ((m == 1) && not hit))
no_begin s entry.Unsettled recording unsettled = rw unsettled refl
no_begin s (entry.Close c why) recording unsettled = absurd (false-true recording)
no_begin s entry.End recording unsettled = absurd (false-true recording)

no_follow : (count : ℕ) (s : Replayed) (e : Entry) → is_recording e ≡ true → s.goal ≡ goal.Hold → may_follow count s e ≡ false
no_follow count s (entry.Open c) recording held = absurd (false-true recording)
no_follow count s (entry.Packet c what) recording held = absurd (false-true recording)
no_follow count s (entry.Record m hit) recording held = rw (held, and-false (nat_le 1 m)) refl
no_follow count s entry.Unsettled recording held = rw held refl
no_follow count s (entry.Close c why) recording held = absurd (false-true recording)
no_follow count s entry.End recording held = absurd (false-true recording)

neither : (b : Bool) (s : Replayed) (count : ℕ) (e : Entry) → (s.n == 0) ≡ b → is_recording e ≡ true → IsBegun s → s.goal ≡ goal.Hold → cond b (may_begin s e) (may_follow count s e) ≡ false
neither true s count e is recording begun held = no_begin s e recording (begun (is_zero s.n is))
neither false s count e is recording begun held = no_follow count s e recording held

nothing_recorded : (count : ℕ) (s : Replayed) (e : Entry) (g : Goal) → s.goal ≡ g → IsHeld g → is_recording e ≡ true → IsBegun s → allowed count s e ≡ false
nothing_recorded count s e _ is by_hold recording begun = and-right (not (is_over s.goal)) _ (neither (s.n == 0) s count e refl recording begun is)
nothing_recorded count s e _ is by_over recording begun = rw is refl

pub holds : (run : RunFacts) (before more : List Entry) (e : Entry) → Legal run before → (replay before).goal ≡ goal.Hold → list_any is_run more ≡ false → is_recording e ≡ true → allowed run.count (replay (before ++ more)) e ≡ false
holds run before more e legal held no_run recording =
    let begun = of_some run before legal.0 (IsBegun-taken run before (taken_legal run before legal)) in
    let still = IsHeld-all (replay before) more no_run (subst (λ z. IsHeld z) (sym held) by_hold) in
    subst (λ z. allowed run.count z e ≡ false) (sym (fold-append after unbegun before more))
    (nothing_recorded run.count (fold after (replay before) more) e _ refl still recording (IsBegun-all (replay before) more begun))
