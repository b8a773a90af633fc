-- A client is open exactly where it was opened and not closed.
use Rattle.std.proofs.Common.{◌≡◌, ℕ, zero, suc, ◌+◌, ◌<◌, Bool, true, false, List, [], ◌∷◌, ◌++◌, length, refl, sym, ap, subst, arith, ◌∙◌, nat_lt, cond}
use Rattle.std.specs.Prelude.{◌==◌, ◌&&◌, ◌||◌, not, slice_get, slice_set}
use Rattle.std.specs.List.{list_any}
use Rattle.std.proofs.lemmas.Bool.Decides.{nat_tests}
use Rattle.std.proofs.lemmas.List.{length-set, length_push}
use Rattle.std.proofs.lemmas.List.Folds.{list_any-append}
use Rattle.hall_core.specs.declared.entry.Entry.{Entry}
use Rattle.hall_core.specs.declared.entry.Entry.TheVariants as entry
use Rattle.hall_core.specs.declared.entry.Act.TheVariants as act
use Rattle.hall_core.specs.declared.entry.Why.{Why}
use Rattle.hall_core.specs.Replay.{Replayed, after, replay}
use Rattle.hall_core.specs.Legal.{RunFacts, allowed, is_over, is_open, is_true, Legal}
use Rattle.hall_core.specs.Laws.{Taken, none, one_more, opens, closes, is_there}
use Rattle.hall_core.proofs.Histories.{taken_legal}
use Rattle.hall_core.proofs.Progress.{replay-push, false-true}

-- what is known of the clients: those opened are the first ones, and those closed are among them
record IsKept (opened closed : ℕ → Bool) (clients : List Bool) : Type 0 where
  known : (c : ℕ) → opened c ≡ nat_lt c (length clients)
  below : (c : ℕ) → closed c ≡ true → c < length clients
  same : (c : ℕ) → is_true (slice_get clients c) ≡ (opened c && not (closed c))

or-false_right : (b : Bool) → (b || false) ≡ b
or-false_right true = refl
or-false_right false = refl

-- an entry that is neither
neither_kept : (opened closed : ℕ → Bool) (clients : List Bool) → IsKept opened closed clients → IsKept (λ c. opened c || false) (λ c. closed c || false) clients
neither_kept opened closed clients kept = record {
  known = λ c. or-false_right (opened c) ∙ kept.known c;
  below = λ c h. kept.below c (sym (or-false_right (closed c)) ∙ h);
  same = λ c. kept.same c ∙ sym (ap (λ z. z && not (closed c || false)) (or-false_right (opened c)) ∙ ap (λ z. opened c && not z) (or-false_right (closed c)));
}

lt_or_eq : (c n : ℕ) → (nat_lt c n || ((c == n) || false)) ≡ nat_lt c (n + 1)
lt_or_eq c n = grind (arith, nat_tests)

suc_is_not_zero : (i : ℕ) → (suc i == 0) ≡ false
suc_is_not_zero i = grind (arith, nat_tests)

zero_is_not_suc : (n : ℕ) → (0 == suc n) ≡ false
zero_is_not_suc n = grind (arith, nat_tests)

same_suc : (i n : ℕ) → (suc i == suc n) ≡ (i == n)
same_suc i n = grind (arith, nat_tests)

get_push : (clients : List Bool) (c : ℕ) → is_true (slice_get (clients ++ true ∷ []) c) ≡ (is_true (slice_get clients c) || (c == length clients))
get_push [] zero = refl
get_push [] (suc i) = sym (suc_is_not_zero i)
get_push (b ∷ clients) zero = sym (ap (λ z. b || z) (zero_is_not_suc (length clients)) ∙ or-false_right b)
get_push (b ∷ clients) (suc i) = get_push clients i ∙ sym (ap (λ z. is_true (slice_get clients i) || z) (same_suc i (length clients)))

and-false_right : (a : Bool) → (a && false) ≡ false
and-false_right true = refl
and-false_right false = refl

and-true_right : (a : Bool) → (a && true) ≡ a
and-true_right true = refl
and-true_right false = refl

get_set : (clients : List Bool) (d c : ℕ) → is_true (slice_get (slice_set clients d false) c) ≡ (is_true (slice_get clients c) && not (c == d))
get_set [] d c = refl
get_set (b ∷ clients) zero zero = sym (and-false_right b)
get_set (b ∷ clients) zero (suc i) = sym (ap (λ z. is_true (slice_get clients i) && not z) (suc_is_not_zero i) ∙ and-true_right (is_true (slice_get clients i)))
get_set (b ∷ clients) (suc d) zero = sym (ap (λ z. b && not z) (zero_is_not_suc d) ∙ and-true_right b)
get_set (b ∷ clients) (suc d) (suc i) = get_set clients d i ∙ sym (ap (λ z. is_true (slice_get clients i) && not z) (same_suc i d))

within : (clients : List Bool) (d : ℕ) → is_true (slice_get clients d) ≡ true → d < length clients
within [] d h = absurd (false-true h)
within (b ∷ clients) zero h = omega arith
within (b ∷ clients) (suc d) h = let more = within clients d h in omega arith

open_bools : (o c e : Bool) → (e ≡ true → c ≡ false) → ((o && not c) || e) ≡ ((o || (e || false)) && not (c || false))
open_bools true true true h = absurd (false-true (sym (h refl)))
open_bools true true false h = refl
open_bools true false true h = refl
open_bools true false false h = refl
open_bools false true true h = absurd (false-true (sym (h refl)))
open_bools false true false h = refl
open_bools false false true h = refl
open_bools false false false h = refl

close_bools : (o c e : Bool) → ((o && not c) && not e) ≡ ((o || false) && not (c || (e || false)))
close_bools true true true = refl
close_bools true true false = refl
close_bools true false true = refl
close_bools true false false = refl
close_bools false c e = refl

equal : (c n : ℕ) → (c == n) ≡ true → c ≡ n
equal c n h = grind (arith, nat_tests)

not_closed : (b : Bool) (c n : ℕ) → (b ≡ true → c < n) → (c == n) ≡ true → b ≡ false
not_closed true c n h is = let lt = h refl in let same = equal c n is in absurd (omega arith)
not_closed false c n h is = refl

one_wider : (c n m : ℕ) → c < n → m ≡ n + 1 → c < m
one_wider c n m lt is = omega arith

open_kept : (opened closed : ℕ → Bool) (clients : List Bool) (d : ℕ) → d ≡ length clients → IsKept opened closed clients → IsKept (λ c. opened c || ((c == d) || false)) (λ c. closed c || false) (clients ++ true ∷ [])
open_kept opened closed clients d is kept = subst (λ z. IsKept (λ c. opened c || ((c == z) || false)) (λ c. closed c || false) (clients ++ true ∷ [])) (sym is) (record {
  known = λ c. ap (λ z. z || ((c == length clients) || false)) (kept.known c) ∙ lt_or_eq c (length clients) ∙ sym (ap (λ z. nat_lt c z) (length_push clients true));
  below = λ c h. one_wider c _ _ (kept.below c (sym (or-false_right (closed c)) ∙ h)) (length_push clients true);
  same = λ c. get_push clients c ∙ ap (λ z. z || (c == length clients)) (kept.same c) ∙ open_bools (opened c) (closed c) (c == length clients) (not_closed (closed c) c (length clients) (kept.below c));
})

closed_below : (b : Bool) (c d n : ℕ) → (b || ((c == d) || false)) ≡ true → (b ≡ true → c < n) → d < n → c < n
closed_below true c d n h before lt = before refl
closed_below false c d n h before lt = let same = equal c d (sym (or-false_right (c == d)) ∙ h) in omega arith

close_kept : (opened closed : ℕ → Bool) (clients : List Bool) (d : ℕ) → is_true (slice_get clients d) ≡ true → IsKept opened closed clients → IsKept (λ c. opened c || false) (λ c. closed c || ((c == d) || false)) (slice_set clients d false)
close_kept opened closed clients d there kept = record {
  known = λ c. or-false_right (opened c) ∙ kept.known c ∙ sym (ap (λ z. nat_lt c z) (length-set clients d false));
  below = λ c h. subst (λ z. c < z) (sym (length-set clients d false)) (closed_below (closed c) c d (length clients) h (kept.below c) (within clients d there));
  same = λ c. get_set clients d c ∙ ap (λ z. z && not (c == d)) (kept.same c) ∙ close_bools (opened c) (closed c) (c == d);
}

abbrev Keeps : List Entry → Type 0
Keeps history = IsKept (λ c. list_any (opens c) history) (λ c. list_any (closes c) history) (replay history).clients

-- the rules of a client's entries hold wherever they are allowed
and-second : (a b : Bool) → (a && b) ≡ true → b ≡ true
and-second true b h = h
and-second false b h = absurd (false-true h)

never_below : (c : ℕ) → nat_lt c 0 ≡ false
never_below c = grind (arith, nat_tests)

picked : (b x y : Bool) → cond b false x ≡ true → x ≡ true
picked true x y h = absurd (false-true h)
picked false x y h = h

next_open : (count : ℕ) (s : Replayed) (d : ℕ) → allowed count s (entry.Open d) ≡ true → d ≡ length s.clients
next_open count s d h = equal d (length s.clients) (picked (s.n == 0) _ true (and-second (not (is_over s.goal)) _ h))

next_close : (count : ℕ) (s : Replayed) (d : ℕ) (why : Why) → allowed count s (entry.Close d why) ≡ true → is_open s d ≡ true
next_close count s d why h = picked (s.n == 0) _ true (and-second (not (is_over s.goal)) _ h)

parts : (history : List Entry) (e : Entry) → IsKept (λ c. list_any (opens c) history || list_any (opens c) (e ∷ [])) (λ c. list_any (closes c) history || list_any (closes c) (e ∷ [])) (after (replay history) e).clients → Keeps (history ++ e ∷ [])
parts history e kept = record {
  known = λ c. list_any-append (opens c) history (e ∷ []) ∙ kept.known c ∙ ap (λ z. nat_lt c (length z.clients)) (sym (replay-push history e));
  below = λ c h. subst (λ z. c < length z.clients) (sym (replay-push history e)) (kept.below c (sym (list_any-append (closes c) history (e ∷ [])) ∙ h));
  same = λ c. ap (λ z. is_true (slice_get z.clients c)) (replay-push history e) ∙ kept.same c
      ∙ sym (ap (λ z. z && not (list_any (closes c) (history ++ e ∷ []))) (list_any-append (opens c) history (e ∷ []))
      ∙ ap (λ z. (list_any (opens c) history || list_any (opens c) (e ∷ [])) && not z) (list_any-append (closes c) history (e ∷ [])));
}

step_keeps : (run : RunFacts) (history : List Entry) (e : Entry) → allowed run.count (replay history) e ≡ true → Keeps history → IsKept (λ c. list_any (opens c) history || list_any (opens c) (e ∷ [])) (λ c. list_any (closes c) history || list_any (closes c) (e ∷ [])) (after (replay history) e).clients
step_keeps run history (entry.Open d) may kept = open_kept _ _ _ d (next_open run.count (replay history) d may) kept
step_keeps run history (entry.Packet d act.Look) may kept = neither_kept _ _ _ kept
step_keeps run history (entry.Packet d (act.Run m kinds)) may kept = neither_kept _ _ _ kept
step_keeps run history (entry.Packet d act.Pause) may kept = neither_kept _ _ _ kept
step_keeps run history (entry.Record m hit) may kept = neither_kept _ _ _ kept
step_keeps run history entry.Unsettled may kept = neither_kept _ _ _ kept
step_keeps run history (entry.Close d why) may kept = close_kept _ _ _ d (next_close run.count (replay history) d why may) kept
step_keeps run history entry.End may kept = neither_kept _ _ _ kept

no_clients : Keeps []
no_clients = record {
  known = λ c. sym (never_below c);
  below = λ c h. absurd (false-true h);
  same = λ c. refl;
}

keeps : (run : RunFacts) (history : List Entry) → Taken run history → Keeps history
keeps run _ none = no_clients
keeps run _ (one_more {history} taken e next) = parts history e (step_keeps run history e next.allows (keeps run history taken))

pub open_exactly : (run : RunFacts) (history : List Entry) (c : ℕ) → Legal run history → is_open (replay history) c ≡ is_there history c
open_exactly run history c legal = (keeps run history (taken_legal run history legal)).same c
