-- As many batches as there are samples leave no goal.
use Rattle.std.proofs.Common.{◌≡◌, ℕ, zero, suc, ◌+◌, ◌<◌, ◌≤◌, Bool, true, false, List, [], ◌∷◌, ◌++◌, refl, sym, ap, subst, arith, ◌∙◌, append-nil, inl, inr, if◌then◌else◌}
use Rattle.std.specs.Prelude.{nat_le, ◌&&◌, ◌⊎◌}
use Rattle.std.proofs.lemmas.Bool.{cases_Bool, cases_lt, cond-true, cond-false, false≢true}
use Rattle.std.proofs.lemmas.Bool.Decides.{nat_tests}
use Rattle.sim_base.specs.declared.kinds.Kinds.{Kinds}
use Rattle.circuit.specs.Rounds.{Run, run_length}
use Rattle.hall_core.specs.Facts.{facts_of}
use Rattle.hall_core.specs.Legal.{RunFacts, allowed}
use Rattle.hall_core.specs.Replay.{Replayed, reaches, replay}
use Rattle.hall_core.specs.declared.entry.Entry.{Entry}
use Rattle.hall_core.specs.declared.entry.Entry.TheVariants as entry
use Rattle.hall_core.specs.declared.entry.Goal.{Goal}
use Rattle.hall_core.specs.declared.entry.Goal.TheVariants as goal
use Rattle.hall_core.proofs.Progress.{replay-push}
use Rattle.solo_session.specs.Pace.{batch, batch_size, batches, most_next, opening, record_entries, recorded, with_packets}
use Rattle.hall_core.specs.Batches.{greatest, may_record, may_stop, record_of, some_hits}
use Rattle.solo_session.specs.Session.{IsAhead, IsServing}
use Rattle.solo_session.proofs.Paced.{serving_batch, serving_packets}
use Rattle.solo_session.proofs.Serving.{serving_within}

-- ---- a goal that is held stays so

held_or : (b : Bool) (g : Goal) → g ≡ goal.Hold → (if b then goal.Hold else g) ≡ goal.Hold
held_or true g is = refl
held_or false g is = is

held_recorded : (facts : RunFacts) (h : List Entry) (m : ℕ) → (replay h).goal ≡ goal.Hold → (replay (h ++ record_entries facts (replay h) m)).goal ≡ goal.Hold
held_recorded facts h zero is = ap (λ z. (replay z).goal) (append-nil h) ∙ is
held_recorded facts h (suc m) is =
    ap (λ (z : Replayed). z.goal) (replay-push h (record_of facts (replay h) (suc m))) ∙ held_or (reaches (replay h) (record_of facts (replay h) (suc m))) (replay h).goal is

held_stopped : (h : List Entry) (stops : Bool) → (replay h).goal ≡ goal.Hold → (replay (h ++ (if stops then entry.Unsettled ∷ [] else []))).goal ≡ goal.Hold
held_stopped h true is = ap (λ (z : Replayed). z.goal) (replay-push h entry.Unsettled)
held_stopped h false is = ap (λ z. (replay z).goal) (append-nil h) ∙ is

held_batch : (facts : RunFacts) (h : List Entry) → (replay h).goal ≡ goal.Hold → (replay (batch facts h)).goal ≡ goal.Hold
held_batch facts h is =
    held_stopped (recorded facts h) (may_stop facts (replay (recorded facts h))) (held_recorded facts h (most_next facts (replay h)) is)

held_batches : (facts : RunFacts) (k : ℕ) (h : List Entry) → (replay h).goal ≡ goal.Hold → (replay (batches facts k h)).goal ≡ goal.Hold
unfolding batches
held_batches facts zero h is = is
held_batches facts (suc k) h is = held_batches facts k (batch facts h) (held_batch facts h is)

-- ---- where nothing can be recorded, the next sample does not settle

none_of : (test : ℕ → Bool) (n m : ℕ) → greatest test n ≡ 0 → 1 ≤ m → m ≤ n → test m ≡ false
unfolding greatest
none_of test zero m is some within = absurd (omega (arith, some, within))
none_of test (suc n) m is some within = elim (cases_Bool (test (suc n))) [
  | inl on ↦ absurd (let e : suc n ≡ 0 = sym (cond-true (test (suc n)) (suc n) (greatest test n) on) ∙ is in omega (arith, e))
  | inr off ↦ elim (cases_lt m (suc n)) [
    | inl lt ↦ none_of test n m (sym (cond-false (test (suc n)) (suc n) (greatest test n) off) ∙ is) some (omega (arith, lt))
    | inr ge ↦ (let last : m ≡ suc n = omega (arith, ge, within) in ap test last ∙ off)
  ]
]

middle : (a b c : Bool) → a ≡ true → c ≡ true → (a && (b && c)) ≡ false → b ≡ false
middle a false c one other fails = refl
middle true true true one other fails = fails
middle false true c one other fails = absurd (false≢true one)
middle true true false one other fails = absurd (false≢true other)

abbrev asking : ℕ → ℕ → Kinds → List Bool → Replayed
asking n g kinds clients = record { n = n; goal = goal.To g kinds; unsettled = false; clients = clients }

module _ (facts : RunFacts) (n g : ℕ) (kinds : Kinds) (clients : List Bool) (some : 1 ≤ n) (ahead : n < g) (within : g ≤ facts.count) (settled : n ≤ facts.length) where
  may_one : (hit : Bool) → allowed facts.count (asking n g kinds clients) (entry.Record 1 hit) ≡ true
  may_one hit = grind (arith, nat_tests)

  above : nat_le (n + 1) facts.length ≡ false → n ≡ facts.length
  above fails = grind (arith, nat_tests)

  may_end : n ≡ facts.length → may_stop facts (asking n g kinds clients) ≡ true
  may_end is = grind (arith, nat_tests)

  stops : most_next facts (asking n g kinds clients) ≡ 0 → may_stop facts (asking n g kinds clients) ≡ true
  unfolding some_hits
  stops is =
      may_end (above (middle _ (nat_le (n + 1) facts.length) _ (may_one _) refl (none_of (may_record facts (asking n g kinds clients)) batch_size 1 is (omega arith) (omega arith))))

is_asking : (s : Replayed) (g : ℕ) (kinds : Kinds) → s.goal ≡ goal.To g kinds → s.unsettled ≡ false → s ≡ asking s.n g kinds s.clients
is_asking s g kinds asked free =
    ap (λ (x : Goal). record { n = s.n; goal = x; unsettled = s.unsettled; clients = s.clients }) asked
    ∙ ap (λ (b : Bool). record { n = s.n; goal = goal.To g kinds; unsettled = b; clients = s.clients }) free

stops_there : (run : Run) (s : Replayed) (g : ℕ) (kinds : Kinds) → IsServing run s → s.goal ≡ goal.To g kinds → most_next (facts_of run) s ≡ 0 → may_stop (facts_of run) s ≡ true
stops_there run s g kinds serving asked is =
    let ahead : IsAhead run s (goal.To g kinds) = subst (λ (x : Goal). IsAhead run s x) asked serving.ahead in
    let same : s ≡ asking s.n g kinds s.clients = is_asking s g kinds asked ahead.2 in
    ap (may_stop (facts_of run)) same
    ∙ stops (facts_of run) s.n g kinds s.clients serving.some ahead.0 ahead.1 serving.settled (sym (ap (most_next (facts_of run)) same) ∙ is)

-- ---- a batch leaves no goal, or records

n_stopped : (h : List Entry) (stops : Bool) → (replay (h ++ (if stops then entry.Unsettled ∷ [] else []))).n ≡ (replay h).n
n_stopped h true = ap (λ (z : Replayed). z.n) (replay-push h entry.Unsettled)
n_stopped h false = ap (λ z. (replay z).n) (append-nil h)

held_by : (h : List Entry) (stops : Bool) → stops ≡ true → (replay (h ++ (if stops then entry.Unsettled ∷ [] else []))).goal ≡ goal.Hold
held_by h true is = ap (λ (z : Replayed). z.goal) (replay-push h entry.Unsettled)
held_by h false is = absurd (false≢true is)

abbrev GoesOn : RunFacts → List Entry → Type 0
GoesOn facts h = ((replay (batch facts h)).goal ≡ goal.Hold) ⊎ ((replay h).n + 1 ≤ (replay (batch facts h)).n)

n_recorded : (facts : RunFacts) (h : List Entry) (m k : ℕ) → m ≡ suc k → (replay h).n + 1 ≤ (replay (h ++ record_entries facts (replay h) m)).n
n_recorded facts h zero k is = absurd (omega (arith, is))
n_recorded facts h (suc m) k is =
    let there : (replay (h ++ record_of facts (replay h) (suc m) ∷ [])).n ≡ (replay h).n + suc m = ap (λ (z : Replayed). z.n) (replay-push h (record_of facts (replay h) (suc m))) in
    omega (arith, there)

nothing_recorded : (facts : RunFacts) (h : List Entry) (m : ℕ) → m ≡ 0 → h ++ record_entries facts (replay h) m ≡ h
nothing_recorded facts h zero is = append-nil h
nothing_recorded facts h (suc m) is = absurd (omega (arith, is))

idle_batch : (run : Run) (h : List Entry) (x : Goal) → (replay h).goal ≡ x → IsServing run (replay h) → IsAhead run (replay h) x → most_next (facts_of run) (replay h) ≡ 0 → (replay (batch (facts_of run) h)).goal ≡ goal.Hold
idle_batch run h goal.Hold is serving ahead none = held_batch (facts_of run) h is
idle_batch run h (goal.To g kinds) is serving ahead none =
    let same : recorded (facts_of run) h ≡ h = nothing_recorded (facts_of run) h (most_next (facts_of run) (replay h)) none in
    held_by (recorded (facts_of run) h) (may_stop (facts_of run) (replay (recorded (facts_of run) h)))
    (ap (λ z. may_stop (facts_of run) (replay z)) same ∙ stops_there run (replay h) g kinds serving is none)
idle_batch run h goal.Over is serving ahead none = absurd ahead

goes_on_by : (run : Run) (h : List Entry) (m : ℕ) → most_next (facts_of run) (replay h) ≡ m → IsServing run (replay h) → GoesOn (facts_of run) h
goes_on_by run h zero most serving = inl (idle_batch run h (replay h).goal refl serving serving.ahead most)
goes_on_by run h (suc m) most serving =
    let more = n_recorded (facts_of run) h (most_next (facts_of run) (replay h)) m most in
    let same = n_stopped (recorded (facts_of run) h) (may_stop (facts_of run) (replay (recorded (facts_of run) h))) in
    inr (omega (arith, more, same))

-- ---- batches

go_on : (run : Run) (k : ℕ) (h : List Entry) → IsServing run (replay h) → ((replay (batches (facts_of run) k h)).goal ≡ goal.Hold) ⊎ (((replay h).n + k ≤ (replay (batches (facts_of run) k h)).n) × IsServing run (replay (batches (facts_of run) k h)))
unfolding batches
go_on run zero h serving = inr (omega arith, serving)
go_on run (suc k) h serving = elim (goes_on_by run h (most_next (facts_of run) (replay h)) refl serving) [
  | inl held ↦ inl (held_batches (facts_of run) k (batch (facts_of run) h) held)
  | inr more ↦ elim (go_on run k (batch (facts_of run) h) (serving_batch run h serving)) [
    | inl held ↦ inl held
    | inr rest ↦ (let far = rest.0 in inr (omega (arith, more, far), rest.1))
  ]
]

pub no_goal_left : (run : Run) (h : List Entry) → IsServing run (replay h) → (replay (batches (facts_of run) run.count h)).goal ≡ goal.Hold
no_goal_left run h serving = elim (go_on run run.count h serving) [
  | inl held ↦ held
  | inr rest ↦ (let far = rest.0 in absurd (let top = serving_within run (replay (batches (facts_of run) run.count h)) rest.1 in omega (arith, far, top, serving.some)))
]

pub none_left : (run : Run) (ps : List (List ℕ)) → 1 ≤ run_length run → (replay (batches (facts_of run) run.count (with_packets run [] opening ps))).goal ≡ goal.Hold
none_left run ps some = no_goal_left run (with_packets run [] opening ps) (serving_packets run ps some)
