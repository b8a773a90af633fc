-- How many samples a batch records.
use Rattle.std.proofs.Common.{◌≡◌, ℕ, zero, suc, ◌+◌, ◌-◌, ◌<◌, ◌≤◌, List, [], Bool, true, false, not, refl, sym, ◌∙◌, ap, subst, arith, inl, inr, get_or, min, append-nil}
use Rattle.std.proofs.lemmas.Bool.{cases_lt, cond-true, cond-false, false≢true}
use Rattle.std.proofs.lemmas.Bool.Decides.{nat_tests}
use Rattle.std.specs.Prelude.{nat_le, ◌&&◌}
use Rattle.sim_base.specs.declared.kinds.Kinds.{Kinds}
use Rattle.std.proofs.lemmas.List.Folds.{list_any_none}
use Rattle.circuit.specs.Rounds.{Run, run_length}
use Rattle.circuit.specs.Shown.{fires_at, hits, is_among}
use Rattle.circuit.specs.declared.diagnostic.DiagKind.{DiagKind}
use Rattle.circuit.specs.declared.diagnostic.DiagKind.TheVariants as diag
use Rattle.hall_core.specs.Facts.{facts_of}
use Rattle.hall_core.specs.Legal.{RunFacts, allowed}
use Rattle.hall_core.specs.Replay.{Replayed}
use Rattle.hall_core.specs.declared.entry.Entry.TheVariants as entry
use Rattle.hall_core.specs.declared.entry.Goal.{Goal}
use Rattle.hall_core.specs.declared.entry.Goal.TheVariants as goal
use Rattle.solo_session.specs.Pace.{batch_size, most_next, record_entries, stop_entries}
use Rattle.hall_core.specs.Batches.{may_record, may_stop, record_of, some_hits}
use Rattle.session_core.specs.Replies.{event, events}
use Rattle.solo_session.specs.Hits.{IsUpToHit}
use Rattle.solo_session.specs.Session.{IsAhead, IsRunning, IsServing}
use Rattle.hall_core.proofs.Batches.{each_of_them, greatest_at, greatest_passes, some_of_them}

and-first : (a b : Bool) → (a && b) ≡ true → a ≡ true
and-first true b p = refl
and-first false b p = p

and-second : (a b : Bool) → (a && b) ≡ true → b ≡ true
and-second true b p = p
and-second false b p = absurd (false≢true p)

and_true : (a b : Bool) → a ≡ true → b ≡ true → (a && b) ≡ true
and_true a b p q = ap (λ x. x && b) p ∙ q

false_first : (a b : Bool) → a ≡ false → (a && b) ≡ false
false_first a b p = ap (λ x. x && b) p

false_second : (a b : Bool) → b ≡ false → (a && b) ≡ false
false_second true b q = q
false_second false b q = refl

abbrev standing : ℕ → ℕ → Kinds → List Bool → Replayed
standing n g kinds clients = record { n = n; goal = goal.To g kinds; unsettled = false; clients = clients }

-- a goal that is asked for lets samples be recorded up to it, of those that settle, and up to the first that hits
module _ (facts : RunFacts) (n g : ℕ) (kinds : Kinds) (clients : List Bool) (some : 1 ≤ n) where
  none_hits : (m : ℕ) → ((k : ℕ) → n ≤ k → k < n + m → facts.hits k kinds ≡ false) → some_hits facts (goal.To g kinds) n m ≡ false
  none_hits m none = each_of_them facts (goal.To g kinds) n m none

  may : (m : ℕ) (hit : Bool) → 1 ≤ m → n + m ≤ g → allowed facts.count (standing n g kinds clients) (entry.Record m hit) ≡ true
  may m hit one fits = grind (arith, nat_tests)

  may_not : (m : ℕ) (hit : Bool) → g < n + m → allowed facts.count (standing n g kinds clients) (entry.Record m hit) ≡ false
  may_not m hit over = grind (arith, nat_tests)

  settled_is : (m : ℕ) → n + m ≤ facts.length → nat_le (n + m) facts.length ≡ true
  settled_is m le = grind (arith, nat_tests)

  settled_not : (m : ℕ) → facts.length < n + m → nat_le (n + m) facts.length ≡ false
  settled_not m lt = grind (arith, nat_tests)

  pub passes : (m : ℕ) → 1 ≤ m → n + m ≤ g → n + m ≤ facts.length → ((k : ℕ) → n ≤ k → k < n + (m - 1) → facts.hits k kinds ≡ false) → may_record facts (standing n g kinds clients) m ≡ true
  passes m one fits settles none = and_true _ _ (may m _ one fits) (and_true _ _ (settled_is m settles) (ap not (none_hits (m - 1) none)))

  pub fails : (m : ℕ) → min (g - n) (facts.length - n) < m → may_record facts (standing n g kinds clients) m ≡ false
  fails m over = elim (cases_lt g (n + m)) [
    | inl out ↦ false_first _ _ (may_not m _ out)
    | inr within ↦ false_second _ _ (false_first _ _ (settled_not m (let h : facts.length < n + m = omega (arith, over, within, some) in h)))
  ]

  pub fails_behind : (m k : ℕ) → n ≤ k → k < n + (m - 1) → facts.hits k kinds ≡ true → may_record facts (standing n g kinds clients) m ≡ false
  fails_behind m k low high hit = false_second _ _ (false_second _ _ (ap not (some_of_them facts (goal.To g kinds) n (m - 1) k low high hit)))

-- no diagnostic is of one of no kinds, so none of them fires
among_none : (kinds : Kinds) → kinds.asserts ≡ false → kinds.assumes ≡ false → (kind : DiagKind) → is_among kinds kind ≡ false
among_none kinds asserts assumes diag.Assert = asserts
among_none kinds asserts assumes diag.Assume = assumes

pub none_asked : (run : Run) (kinds : Kinds) (k : ℕ) → kinds.asserts ≡ false → kinds.assumes ≡ false → hits run k kinds ≡ false
none_asked run kinds k asserts assumes =
    list_any_none (λ d. is_among kinds d.kind && fires_at run k d) run.circuit.diags (λ i d l. false_first _ _ (among_none kinds asserts assumes (get_or run.circuit.diags i d).kind))

-- a goal that is asked for lets the samples be recorded
module _ (run : Run) (s : Replayed) (g : ℕ) (kinds : Kinds) (serving : IsServing run s) (asked : s.goal ≡ goal.To g kinds) where
  ahead : IsAhead run s (goal.To g kinds)
  ahead = subst (λ (x : Goal). IsAhead run s x) asked serving.ahead

  as_standing : s ≡ standing s.n g kinds s.clients
  as_standing = ap (λ (x : Goal). record { n = s.n; goal = x; unsettled = s.unsettled; clients = s.clients }) asked ∙ ap (λ (b : Bool). record { n = s.n; goal = goal.To g kinds; unsettled = b; clients = s.clients }) (let e : s.unsettled ≡ false = ahead.2 in e)

  most_at : (m : ℕ) → m ≤ batch_size → (0 < m → may_record (facts_of run) (standing s.n g kinds s.clients) m ≡ true) → ((j : ℕ) → m < j → j ≤ batch_size → may_record (facts_of run) (standing s.n g kinds s.clients) j ≡ false) → most_next (facts_of run) s ≡ m
  most_at m le may not_more = ap (most_next (facts_of run)) as_standing ∙ greatest_at (may_record (facts_of run) (standing s.n g kinds s.clients)) batch_size m le may not_more

  abbrev IsReached : ℕ → Type 0
  IsReached end = end ≡ min (s.n + min (g - s.n) 256) (run_length run)

  pub most_reached : (end m : ℕ) (hit : Bool) → IsReached end → IsUpToHit run kinds s.n end m hit → m ≡ most_next (facts_of run) s
  most_reached end m false is up =
      let lt : s.n < g = ahead.0 in
      let all : s.n + m ≡ end = up.0 in
      sym (most_at m (omega (arith, is, all, lt, serving.settled))
      (λ one. passes (facts_of run) s.n g kinds s.clients serving.some m (omega (arith, one)) (omega (arith, is, all, lt)) (omega (arith, is, all)) (λ k low high. up.1 k low (omega (arith, high, all, one))))
      (λ j more within. fails (facts_of run) s.n g kinds s.clients serving.some j (omega (arith, is, all, lt, more, within, serving.settled))))
  most_reached end m true is up =
      let lt : s.n < g = ahead.0 in
      let some : 1 ≤ m = up.0 in
      let within_end : s.n + m ≤ end = up.1 in
      sym (most_at m (omega (arith, is, within_end, lt, serving.settled))
      (λ one. passes (facts_of run) s.n g kinds s.clients serving.some m some (omega (arith, is, within_end, lt)) (omega (arith, is, within_end)) (λ k low high. up.2 k low (omega (arith, high, some))))
      (λ j more within. fails_behind (facts_of run) s.n g kinds s.clients serving.some j (s.n + m - 1) (omega (arith, some)) (omega (arith, more, some)) up.3))

  last_hits : (end m : ℕ) (hit : Bool) → IsUpToHit run kinds s.n end m hit → 0 < m → hits run (s.n + m - 1) kinds ≡ hit
  last_hits end m false up one = (let all : s.n + m ≡ end = up.0 in up.1 (s.n + m - 1) (omega (arith, one)) (omega (arith, all, one)))
  last_hits end m true up one = up.3

  pub entry_reached : (end m : ℕ) (hit : Bool) → IsUpToHit run kinds s.n end m hit → 0 < m → record_of (facts_of run) s m ≡ entry.Record m hit
  entry_reached end m hit up one = ap (λ x. record_of (facts_of run) x m) as_standing ∙ ap (λ b. entry.Record m b) (last_hits end m hit up one)

-- a goal that is held, or over, lets nothing be recorded
module _ (facts : RunFacts) (n : ℕ) (unsettled : Bool) (clients : List Bool) (some : 1 ≤ n) where
  held_fails : (m : ℕ) (hit : Bool) → allowed facts.count (record { n = n; goal = goal.Hold; unsettled = unsettled; clients = clients }) (entry.Record m hit) ≡ false
  held_fails m hit = grind (arith, nat_tests)

module _ (run : Run) (s : Replayed) (serving : IsServing run s) (held : (g : ℕ) (kinds : Kinds) → s.goal ≡ goal.To g kinds → ⊥) where
  is_held : (x : Goal) → s.goal ≡ x → IsAhead run s x → s.goal ≡ goal.Hold
  is_held goal.Hold e a = e
  is_held (goal.To g kinds) e a = absurd (held g kinds e)
  is_held goal.Over e a = absurd a

  pub goal_held : s.goal ≡ goal.Hold
  goal_held = is_held s.goal refl serving.ahead

  as_held : s ≡ record { n = s.n; goal = goal.Hold; unsettled = s.unsettled; clients = s.clients }
  as_held = ap (λ (x : Goal). record { n = s.n; goal = x; unsettled = s.unsettled; clients = s.clients }) goal_held

  pub most_held : most_next (facts_of run) s ≡ 0
  most_held =
      greatest_at (may_record (facts_of run) s) batch_size 0 (omega arith) (λ one. absurd (omega (arith, one)))
      (λ m more within. ap (λ x. may_record (facts_of run) x m) as_held ∙ false_first _ _ (held_fails (facts_of run) s.n s.unsettled s.clients serving.some m false))

-- a number that is the most, and not 0, may be recorded
most_passes : (facts : RunFacts) (s : Replayed) (m : ℕ) → m ≡ most_next facts s → 0 < m → may_record facts s m ≡ true
most_passes facts s m is lt = ap (may_record facts s) is ∙ greatest_passes (may_record facts s) batch_size (subst (λ x. 0 < x) is lt)

pub may_most : (facts : RunFacts) (s : Replayed) (m : ℕ) (hit : Bool) → m ≡ most_next facts s → 0 < m → record_of facts s m ≡ entry.Record m hit → allowed facts.count s (entry.Record m hit) ≡ true
may_most facts s m hit is lt entry = ap (allowed facts.count s) (sym entry) ∙ and-first _ _ (most_passes facts s m is lt)

pub settles_most : (facts : RunFacts) (s : Replayed) (m : ℕ) → m ≡ most_next facts s → 0 < m → s.n + m ≤ facts.length
settles_most facts s m is lt = le_of (s.n + m) facts.length (and-first _ _ (and-second _ _ (most_passes facts s m is lt)))
  where
    le_of : (a b : ℕ) → nat_le a b ≡ true → a ≤ b
    le_of a b e = grind (arith, nat_tests)

running_by : (run : Run) (s : Replayed) (x : Goal) → s.goal ≡ x → IsAhead run s x → (s.goal ≡ goal.Hold → ⊥) → IsRunning x
running_by run s goal.Hold e a free = absurd (free e)
running_by run s (goal.To g kinds) e a free = tt {0}
running_by run s goal.Over e a free = absurd a

-- where something may be recorded, the goal asks for it
pub most_running : (run : Run) (s : Replayed) (m : ℕ) → IsServing run s → m ≡ most_next (facts_of run) s → 0 < m → IsRunning s.goal
most_running run s m serving is lt =
    running_by run s s.goal refl serving.ahead
    (λ held. (let none : most_next (facts_of run) s ≡ 0 = most_held run s serving (λ g kinds e. (let x : goal.Hold ≡ goal.To g kinds = sym held ∙ e in cc)) in omega (arith, is, lt, none)))

-- ---- the events of a batch's entries

pub events_recorded : (run : Run) (l : Bool) (facts : RunFacts) (s : Replayed) (m : ℕ) (hit : Bool) → 0 < m → record_of facts s m ≡ entry.Record m hit → events run l s (record_entries facts s m) ≡ event run l s (entry.Record m hit)
unfolding events
events_recorded run l facts s zero hit lt is = absurd (omega (arith, lt))
events_recorded run l facts s (suc m) hit lt is = append-nil _ ∙ ap (event run l s) is

pub events_unrecorded : (run : Run) (l : Bool) (facts : RunFacts) (s : Replayed) (m : ℕ) → m ≡ 0 → events run l s (record_entries facts s m) ≡ []
unfolding events
events_unrecorded run l facts s zero is = refl
events_unrecorded run l facts s (suc m) is = absurd (omega (arith, is))

pub events_stopped : (run : Run) (l : Bool) (facts : RunFacts) (s : Replayed) → may_stop facts s ≡ true → events run l s (stop_entries facts s) ≡ event run l s entry.Unsettled
unfolding events
events_stopped run l facts s on = ap (events run l s) (cond-true (may_stop facts s) _ _ on) ∙ append-nil _

pub events_unstopped : (run : Run) (l : Bool) (facts : RunFacts) (s : Replayed) → may_stop facts s ≡ false → events run l s (stop_entries facts s) ≡ []
unfolding events
events_unstopped run l facts s off = ap (events run l s) (cond-false (may_stop facts s) _ _ off)
