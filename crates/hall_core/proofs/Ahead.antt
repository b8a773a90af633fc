-- A goal lies ahead, and clients are opened in the order of their numbers.
use Rattle.std.proofs.Common.{◌≡◌, ℕ, zero, suc, ◌+◌, ◌<◌, ◌≤◌, Bool, true, false, List, [], ◌∷◌, ◌++◌, refl, sym, ap, subst, arith, ◌∙◌, cond, length, length-append}
use Rattle.std.specs.Prelude.{⊤, fold, ◌==◌, ◌&&◌, ◌||◌, not, nat_le, slice_set, if◌then◌else◌}
use Rattle.std.proofs.lemmas.Bool.Decides.{nat_tests}
use Rattle.std.proofs.lemmas.List.Sums.{sum_by-append}
use Rattle.sim_base.specs.declared.kinds.Kinds.{Kinds}
use Rattle.hall_core.specs.declared.entry.Entry.{Entry}
use Rattle.hall_core.specs.declared.entry.Entry.TheVariants as entry
use Rattle.hall_core.specs.declared.entry.Act.TheVariants as act
use Rattle.hall_core.specs.declared.entry.Goal.{Goal}
use Rattle.hall_core.specs.declared.entry.Goal.TheVariants as goal
use Rattle.hall_core.specs.Replay.{Replayed, after, unbegun, replay, is_goal, runs_on}
use Rattle.hall_core.specs.Moments.{moment_of, step}
use Rattle.hall_core.specs.Legal.{RunFacts, allowed, is_open, is_over, lets, may_act, Legal, Next}
use Rattle.hall_core.specs.Laws.{Taken, none, one_more, LiesAhead, opened, is_opening}
use Rattle.hall_core.proofs.Histories.{taken_legal}
use Rattle.hall_core.proofs.Progress.{and-first, false-true, replay-push}

and-second : (a b : Bool) → (a && b) ≡ true → b ≡ true
and-second true b p = p
and-second false b p = absurd (false-true p)

-- ---- moments

moment-after : (s : Replayed) (e : Entry) → moment_of (after s e) ≡ step (moment_of s) e
moment-after s (entry.Open c) = refl
moment-after s (entry.Packet c act.Look) = refl
moment-after s (entry.Packet c (act.Run m kinds)) = refl
moment-after s (entry.Packet c act.Pause) = refl
moment-after s (entry.Record m hit) = refl
moment-after s entry.Unsettled = refl
moment-after s (entry.Close c why) = refl
moment-after s entry.End = refl

pub moment_push : (before : List Entry) (e : Entry) → moment_of (replay (before ++ e ∷ [])) ≡ step (moment_of (replay before)) e
moment_push before e = ap moment_of (replay-push before e) ∙ moment-after (replay before) e

-- ---- goals

-- a goal that is there lies ahead
abbrev Ahead : RunFacts → Replayed → Goal → Type 0
Ahead run s goal.Hold = ⊤
Ahead run s (goal.To g kinds) = LiesAhead run s g
Ahead run s goal.Over = ⊤

run_ahead : (run : RunFacts) (s : Replayed) (m : ℕ) (kinds : Kinds) (on : Bool) → runs_on s m ≡ on → m ≤ run.count → Ahead run s (if on then goal.To m kinds else goal.Hold)
run_ahead run s m kinds true e le = (grind (arith, nat_tests), le, grind (arith, nat_tests))
run_ahead run s m kinds false e le = tt {0}

le_of : (a b : ℕ) → nat_le a b ≡ true → a ≤ b
le_of a b e = grind (arith, nat_tests)

asks_within : (run : RunFacts) (s : Replayed) (c m : ℕ) (kinds : Kinds) (first : Bool) → (s.n == 0) ≡ first → (not (is_over s.goal) && (if first then false else is_open s c && may_act run.count (act.Run m kinds))) ≡ true → m ≤ run.count
asks_within run s c m kinds true is may = absurd (false-true (and-second _ _ may))
asks_within run s c m kinds false is may = le_of m run.count (and-second _ _ (and-second _ _ may))

fits_first : (m : ℕ) (hit unsettled : Bool) → (m == 1 && not hit && not unsettled) ≡ true → m ≡ 1
fits_first m hit unsettled may = grind (arith, nat_tests)

-- a record that may come next goes no further than the goal
record_within : (run : RunFacts) (s : Replayed) (m g : ℕ) (kinds : Kinds) (hit first : Bool) → s.goal ≡ goal.To g kinds → s.n < g → (s.n == 0) ≡ first
    → (not (is_over s.goal) && (if first then (m == 1 && not hit && not s.unsettled) else (nat_le 1 m && lets s.goal (s.n + m) && not s.unsettled))) ≡ true → s.n + m ≤ g
record_within run s m g kinds hit true is lt first may = (let one : m ≡ 1 = fits_first m hit s.unsettled (and-second _ _ may) in omega (arith, one, lt))
record_within run s m g kinds hit false is lt first may =
    le_of (s.n + m) g (ap (λ x. lets x (s.n + m)) (sym is) ∙ and-second (nat_le 1 m) (lets s.goal (s.n + m)) (and-first (nat_le 1 m && lets s.goal (s.n + m)) (not s.unsettled) (and-second _ _ may)))

goes_on : (run : RunFacts) (s : Replayed) (m g : ℕ) (kinds : Kinds) (hit at : Bool) → (s.n + m == g) ≡ at → s.n + m ≤ g → g ≤ run.count → s.unsettled ≡ false
    → Ahead run (record { n = s.n + m; goal = (if hit || at then goal.Hold else goal.To g kinds); unsettled = s.unsettled; clients = s.clients }) (if hit || at then goal.Hold else goal.To g kinds)
goes_on run s m g kinds true at is within le free = tt {0}
goes_on run s m g kinds false true is within le free = tt {0}
goes_on run s m g kinds false false is within le free = (grind (arith, nat_tests), le, free)

record_ahead : (run : RunFacts) (s : Replayed) (m : ℕ) (hit : Bool) (x : Goal) → s.goal ≡ x → Ahead run s x → allowed run.count s (entry.Record m hit) ≡ true
    → Ahead run (record { n = s.n + m; goal = (if hit || is_goal x (s.n + m) then goal.Hold else x); unsettled = s.unsettled; clients = s.clients }) (if hit || is_goal x (s.n + m) then goal.Hold else x)
record_ahead run s m true goal.Hold is a may = tt {0}
record_ahead run s m false goal.Hold is a may = tt {0}
record_ahead run s m hit (goal.To g kinds) is a may = goes_on run s m g kinds hit (s.n + m == g) refl (record_within run s m g kinds hit (s.n == 0) is a.0 refl may) a.1 a.2
record_ahead run s m true goal.Over is a may = tt {0}
record_ahead run s m false goal.Over is a may = tt {0}

ahead_after : (run : RunFacts) (s : Replayed) (e : Entry) → Ahead run s s.goal → allowed run.count s e ≡ true → Ahead run (after s e) (after s e).goal
ahead_after run s (entry.Open c) a may = a
ahead_after run s (entry.Packet c act.Look) a may = a
ahead_after run s (entry.Packet c (act.Run m kinds)) a may = run_ahead run s m kinds (runs_on s m) refl (asks_within run s c m kinds (s.n == 0) refl may)
ahead_after run s (entry.Packet c act.Pause) a may = tt {0}
ahead_after run s (entry.Record m hit) a may = record_ahead run s m hit s.goal refl a may
ahead_after run s entry.Unsettled a may = tt {0}
ahead_after run s (entry.Close c why) a may = a
ahead_after run s entry.End a may = tt {0}

ahead_taken : (run : RunFacts) (history : List Entry) → Taken run history → Ahead run (replay history) (replay history).goal
ahead_taken run _ none = tt {0}
ahead_taken run _ (one_more {history} taken e next) =
    subst (λ (s : Replayed). Ahead run s s.goal) (sym (replay-push history e)) (ahead_after run (replay history) e (ahead_taken run history taken) next.allows)

pub lies_ahead : (run : RunFacts) (history : List Entry) (g : ℕ) (kinds : Kinds) → Legal run history → (replay history).goal ≡ goal.To g kinds → LiesAhead run (replay history) g
lies_ahead run history g kinds legal is = subst (λ (x : Goal). Ahead run (replay history) x) is (ahead_taken run history (taken_legal run history legal))

-- ---- clients

set_length : (xs : List Bool) (i : ℕ) (x : Bool) → length (slice_set xs i x) ≡ length xs
set_length [] i x = refl
set_length (y ∷ xs) zero x = refl
set_length (y ∷ xs) (suc i) x = (let rest : length (slice_set xs i x) ≡ length xs = set_length xs i x in omega (arith, rest))

one_opened : (s : Replayed) (e : Entry) → length (after s e).clients ≡ length s.clients + cond (is_opening e) 1 0
one_opened s (entry.Open c) = length-append s.clients (true ∷ [])
one_opened s (entry.Packet c act.Look) = omega arith
one_opened s (entry.Packet c (act.Run m kinds)) = omega arith
one_opened s (entry.Packet c act.Pause) = omega arith
one_opened s (entry.Record m hit) = omega arith
one_opened s entry.Unsettled = omega arith
one_opened s (entry.Close c why) = (let e : length (slice_set s.clients c false) ≡ length s.clients = set_length s.clients c false in omega (arith, e))
one_opened s entry.End = omega arith

opened_all : (s : Replayed) (history : List Entry) → length (fold after s history).clients ≡ length s.clients + opened history
opened_all s [] = omega arith
opened_all s (e ∷ more) =
    let here : length (after s e).clients ≡ length s.clients + cond (is_opening e) 1 0 = one_opened s e in
    let rest : length (fold after (after s e) more).clients ≡ length (after s e).clients + opened more = opened_all (after s e) more in
    let goes : length (fold after s (e ∷ more)).clients ≡ length (fold after (after s e) more).clients = refl in
    let split : opened (e ∷ more) ≡ opened (e ∷ []) + opened more = sum_by-append (λ x. cond (is_opening x) 1 0) (e ∷ []) more in
    let one : opened (e ∷ []) ≡ 0 + cond (is_opening e) 1 0 = refl in
    omega (arith, here, rest, goes, split, one)

none_more : (a b : ℕ) → a ≡ 0 → a + b ≡ b
none_more a b is = omega (arith, is)

pub clients_opened : (history : List Entry) → length (replay history).clients ≡ opened history
clients_opened history = opened_all unbegun history ∙ none_more (length unbegun.clients) (opened history) refl

eq_of : (a b : ℕ) → (a == b) ≡ true → a ≡ b
eq_of a b h = grind (arith, nat_tests)

is_next : (s : Replayed) (c : ℕ) (first : Bool) → (not (is_over s.goal) && (if first then false else c == length s.clients)) ≡ true → c ≡ length s.clients
is_next s c true may = absurd (false-true (and-second _ _ may))
is_next s c false may = eq_of c (length s.clients) (and-second _ _ may)

pub opens_next : (run : RunFacts) (before more : List Entry) (c : ℕ) → Legal run (before ++ entry.Open c ∷ more) → c ≡ opened before
opens_next run before more c legal =
    let next : Next run before (entry.Open c) = legal.1 before more (entry.Open c) refl in
    is_next (replay before) c ((replay before).n == 0) next.allows ∙ clients_opened before
