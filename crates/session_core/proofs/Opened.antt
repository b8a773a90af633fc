-- Nothing is said to a client before it is opened.
use Rattle.std.proofs.Common.{◌≡◌, ℕ, zero, suc, ◌+◌, ◌≤◌, Bool, true, false, List, [], ◌∷◌, ◌++◌, length, refl, sym, ap, arith, ◌∙◌, None, cond}
use Rattle.std.specs.Prelude.{◌==◌, ◌&&◌, not, slice_get, take, if◌then◌else◌}
use Rattle.std.proofs.lemmas.Bool.{false≢true}
use Rattle.std.proofs.lemmas.Bool.Decides.{nat_tests}
use Rattle.std.proofs.lemmas.List.Sums.{sum_by-append}
use Rattle.circuit.specs.Rounds.{Run}
use Rattle.hall_core.specs.Facts.{facts_of}
use Rattle.hall_core.specs.Laws.{Taken, is_opening, none, one_more, opened}
use Rattle.hall_core.specs.Legal.{Legal, allowed, is_open, is_over, is_true, may_act}
use Rattle.hall_core.specs.Replay.{Replayed, reaches, replay}
use Rattle.hall_core.specs.declared.entry.Entry.{Entry}
use Rattle.hall_core.specs.declared.entry.Entry.TheVariants as entry
use Rattle.hall_core.proofs.Ahead.{clients_opened, opens_next}
use Rattle.hall_core.proofs.Histories.{legal_beginning, taken_legal}
use Rattle.hall_core.proofs.Progress.{replay-push}
use Rattle.session_core.specs.Replies.{event}
use Rattle.session_core.specs.Refusals.{is_greeted}
use Rattle.session_core.specs.Said.{answered, listens, packets_in, said, said_behind}
use Rattle.session_core.proofs.Sayings.{said_push}

and-first : (a b : Bool) → (a && b) ≡ true → a ≡ true
and-first true b p = refl
and-first false b p = p

and-second : (a b : Bool) → (a && b) ≡ true → b ≡ true
and-second true b p = p
and-second false b p = absurd (false≢true p)

past_end : (xs : List Bool) (i : ℕ) → length xs ≤ i → slice_get xs i ≡ None
past_end [] i le = refl
past_end (x ∷ xs) zero le = absurd (omega (arith, le))
past_end (x ∷ xs) (suc i) le = past_end xs i (omega (arith, le))

-- a client that was not opened is not open
not_open : (history : List Entry) (c : ℕ) → opened history ≤ c → is_open (replay history) c ≡ false
not_open history c le = ap is_true (past_end (replay history).clients c (let e : length (replay history).clients ≡ opened history = clients_opened history in omega (arith, e, le)))

-- an entry of a client, once sample 0 is recorded, finds it open
open_there : (o first b more : Bool) → (o && (if first then false else b && more)) ≡ true → b ≡ true
open_there o true b more may = absurd (false≢true (and-second o false may))
open_there o false b more may = and-first b more (and-second o (b && more) may)

close_there : (o first b : Bool) → (o && (if first then false else b)) ≡ true → b ≡ true
close_there o true b may = absurd (false≢true (and-second o false may))
close_there o false b may = and-second o b may

same : (c d : ℕ) → (c == d) ≡ true → c ≡ d
same c d h = grind (arith, nat_tests)

unless : (b : Bool) (xs : List ℕ) → (b ≡ true → ⊥) → (if b then xs else []) ≡ []
unless true xs apart = absurd (apart refl)
unless false xs apart = refl

-- an entry behind others gives nothing to a client that was not opened before it
nothing_answered : (run : Run) (packets : List (List ℕ)) (c : ℕ) (before : List Entry) (e : Entry) → opened before ≤ c → allowed run.count (replay before) e ≡ true → answered run packets c before e ≡ []
nothing_answered run packets c before (entry.Open d) le may = refl
nothing_answered run packets c before (entry.Packet d what) le may =
    unless (c == d) _
    (λ is. false≢true (sym (not_open before c le) ∙ ap (λ z. is_open (replay before) z) (same c d is) ∙ open_there (not (is_over (replay before).goal)) ((replay before).n == 0) (is_open (replay before) d) (may_act run.count what) may))
nothing_answered run packets c before (entry.Record m hit) le may = refl
nothing_answered run packets c before entry.Unsettled le may = refl
nothing_answered run packets c before (entry.Close d why) le may =
    unless (c == d) _
    (λ is. false≢true (sym (not_open before c le) ∙ ap (λ z. is_open (replay before) z) (same c d is) ∙ close_there (not (is_over (replay before).goal)) ((replay before).n == 0) (is_open (replay before) d) may))
nothing_answered run packets c before entry.End le may = refl

no_event : (run : Run) (l : Bool) (s : Replayed) (e : Entry) → l ≡ false → event run l s e ≡ []
no_event run l s e deaf = ap (λ z. event run z s e) deaf ∙ deaf_to (reaches s e) _
  where
    deaf_to : (b : Bool) (xs : List ℕ) → (if b && false then xs else []) ≡ []
    deaf_to true xs = refl
    deaf_to false xs = refl

deaf : (packets : List (List ℕ)) (c : ℕ) (before : List Entry) (e : Entry) → opened (before ++ e ∷ []) ≤ c → listens packets c before e ≡ false
deaf packets c before e le = ap (λ b. b && is_greeted (take (packets_in c (before ++ e ∷ [])) packets)) (sym (ap (λ (s : Replayed). is_open s c) (replay-push before e)) ∙ not_open (before ++ e ∷ []) c le)

both_nothing : (xs ys zs : List ℕ) → xs ≡ [] → ys ≡ [] → zs ≡ [] → xs ++ (ys ++ zs) ≡ []
both_nothing xs ys zs p q r = ap (λ x. x ++ (ys ++ zs)) p ∙ ap (λ y. y ++ zs) q ∙ r

nothing_said : (run : Run) (packets : List (List ℕ)) (c : ℕ) (history : List Entry) → Taken (facts_of run) history → opened history ≤ c → said run packets c history ≡ []
nothing_said run packets c _ none le = unfold said_behind in refl
nothing_said run packets c _ (one_more {history} taken e next) le =
    let split : opened (history ++ e ∷ []) ≡ opened history + opened (e ∷ []) = sum_by-append (λ x. cond (is_opening x) 1 0) history (e ∷ []) in
    let before : opened history ≤ c = omega (arith, split, le) in
    said_push run packets c history e
    ∙ both_nothing (said run packets c history) (answered run packets c history e) (event run (listens packets c history e) (replay history) e)
    (nothing_said run packets c history taken before) (nothing_answered run packets c history e before next.allows) (no_event run (listens packets c history e) (replay history) e (deaf packets c history e le))

first_entries : (run : Run) (packets : List (List ℕ)) (c : ℕ) (before more : List Entry) → Legal (facts_of run) (before ++ entry.Open c ∷ more) → said run packets c before ≡ []
first_entries run packets c [] more legal = unfold said_behind in refl
first_entries run packets c (e ∷ before) more legal =
    nothing_said run packets c (e ∷ before) (taken_legal (facts_of run) (e ∷ before) (legal_beginning (facts_of run) (e ∷ before) (entry.Open c ∷ more) (some e before) legal))
    (let is : c ≡ opened (e ∷ before) = opens_next (facts_of run) (e ∷ before) more c legal in omega (arith, is))
  where
    some : (x : Entry) (xs : List Entry) → x ∷ xs ≡ [] → ⊥
    some x xs h = cc

pub unopened : (run : Run) (packets : List (List ℕ)) (c : ℕ) (before more : List Entry) → Legal (facts_of run) (before ++ entry.Open c ∷ more) → said run packets c before ≡ []
unopened run packets c before more legal = first_entries run packets c before more legal
