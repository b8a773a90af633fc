-- The entries that a session adds to a history may come next.
use Rattle.std.proofs.Common.{◌≡◌, ◌≢◌, ℕ, zero, suc, ◌≤◌, Bool, true, false, not, List, [], ◌∷◌, ◌++◌, refl, sym, ap, subst, arith, ◌∙◌, append-nil, inl, inr}
use Rattle.std.specs.Prelude.{nat_le, slice_get, slice_set, ◌==◌, ◌&&◌, if◌then◌else◌}
use Rattle.std.specs.List.{list_all, list_any}
use Rattle.std.proofs.lemmas.Bool.{cases_Bool, cond-true, cond-false}
use Rattle.std.proofs.lemmas.Bool.Decides.{nat_tests}
use Rattle.std.proofs.lemmas.List.{append_assoc}
use Rattle.circuit.specs.Rounds.{Run}
use Rattle.hall_core.specs.Facts.{facts_of}
use Rattle.hall_core.specs.Laws.{Taken, one_more, is_recording}
use Rattle.hall_core.specs.Legal.{Legal, RunFacts, allowed, is_open, is_over, is_true, some_open}
use Rattle.hall_core.specs.Replay.{Replayed, after, replay}
use Rattle.hall_core.specs.declared.entry.Act.{Act}
use Rattle.hall_core.specs.declared.entry.Entry.{Entry}
use Rattle.hall_core.specs.declared.entry.Entry.TheVariants as entry
use Rattle.hall_core.specs.declared.entry.Goal.{Goal}
use Rattle.hall_core.specs.declared.entry.Goal.TheVariants as goal
use Rattle.hall_core.specs.declared.entry.Why.{Why}
use Rattle.hall_core.proofs.Batches.{may_record_next, may_stop_next}
use Rattle.hall_core.proofs.Histories.{legal_taken}
use Rattle.hall_core.proofs.Progress.{replay-push}
use Rattle.solo_session.specs.Pace.{batch_size, most_next, record_entries, recorded, stop_entries, stopped}
use Rattle.hall_core.specs.Batches.{greatest, may_record, may_stop, record_of}
use Rattle.solo_session.specs.Session.{IsAhead, IsServing}

-- ---- what is recorded

pub all_recording_record : (facts : RunFacts) (s : Replayed) (m : ℕ) → list_all is_recording (record_entries facts s m) ≡ true
all_recording_record facts s zero = refl
all_recording_record facts s (suc m) = refl

all_recording_if : (b : Bool) → list_all is_recording (if b then entry.Unsettled ∷ [] else []) ≡ true
all_recording_if true = refl
all_recording_if false = refl

pub all_recording_stop : (facts : RunFacts) (s : Replayed) → list_all is_recording (stop_entries facts s) ≡ true
all_recording_stop facts s = all_recording_if (may_stop facts s)

-- the greatest number that passes, where it is not 0, passes
pub greatest_passes : (test : ℕ → Bool) (n m : ℕ) → greatest test n ≡ suc m → test (suc m) ≡ true
unfolding greatest
greatest_passes test zero m is = cc
greatest_passes test (suc n) m is = elim (cases_Bool (test (suc n))) [
  | inl on ↦ ap test (sym is ∙ cond-true (test (suc n)) (suc n) (greatest test n) on) ∙ on
  | inr off ↦ greatest_passes test n m (sym (cond-false (test (suc n)) (suc n) (greatest test n) off) ∙ is)
]

pub le_of : (a b : ℕ) → nat_le a b ≡ true → a ≤ b
le_of a b h = grind (arith, nat_tests)

taken_record : (facts : RunFacts) (h : List Entry) (m : ℕ) → most_next facts (replay h) ≡ m → Taken facts h → Taken facts (h ++ record_entries facts (replay h) m)
taken_record facts h zero most taken = subst (λ z. Taken facts z) (sym (append-nil h)) taken
taken_record facts h (suc m) most taken =
    one_more taken (record_of facts (replay h) (suc m)) (may_record_next facts h (suc m) (greatest_passes (may_record facts (replay h)) batch_size m most))

pub taken_recorded : (facts : RunFacts) (h : List Entry) → Taken facts h → Taken facts (recorded facts h)
taken_recorded facts h taken = taken_record facts h (most_next facts (replay h)) refl taken

-- ---- the next sample does not settle

taken_stop : (facts : RunFacts) (h : List Entry) (stops : Bool) → may_stop facts (replay h) ≡ stops → Taken facts h → Taken facts (h ++ (if stops then entry.Unsettled ∷ [] else []))
taken_stop facts h true may taken = one_more taken entry.Unsettled (may_stop_next facts h may)
taken_stop facts h false may taken = subst (λ z. Taken facts z) (sym (append-nil h)) taken

pub taken_stopped : (facts : RunFacts) (h : List Entry) → Taken facts h → Taken facts (stopped facts h)
taken_stopped facts h taken = taken_stop facts h (may_stop facts (replay h)) refl taken

-- ---- a packet, and the end

pub taken_packet : (facts : RunFacts) (h : List Entry) (what : Act) → allowed facts.count (replay h) (entry.Packet 0 what) ≡ true → Taken facts h → Taken facts (h ++ entry.Packet 0 what ∷ [])
taken_packet facts h what may taken = one_more taken (entry.Packet 0 what) (record { allows = may; meets = tt {0} })

goes_on : (run : Run) (s : Replayed) (g : Goal) → IsAhead run s g → is_over g ≡ false
goes_on run s goal.Hold ahead = refl
goes_on run s (goal.To g kinds) ahead = refl
goes_on run s goal.Over ahead = absurd ahead

some_recorded : (n : ℕ) → 1 ≤ n → (n == 0) ≡ false
some_recorded n some = grind (arith, nat_tests)

-- behind sample 0 and before the end, what may follow may come next
follows : (over first begins may : Bool) → over ≡ false → first ≡ false → may ≡ true → (not over && (if first then begins else may)) ≡ true
follows over first begins may on behind is = ap (λ o. not o && (if first then begins else may)) on ∙ ap (λ b. if b then begins else may) behind ∙ is

close_allowed : (run : Run) (s : Replayed) (cause : Why) → IsServing run s → allowed run.count s (entry.Close 0 cause) ≡ true
close_allowed run s cause serving =
    follows (is_over s.goal) (s.n == 0) false (is_open s 0) (goes_on run s s.goal serving.ahead) (some_recorded s.n serving.some)
    (ap (λ cs. is_true (slice_get cs 0)) serving.clients)

none_open : (s : Replayed) (cause : Why) → s.clients ≡ true ∷ [] → some_open (after s (entry.Close 0 cause)) ≡ false
none_open s cause is = ap (λ cs. list_any (λ one. one) (slice_set cs 0 false)) is

end_allowed : (run : Run) (s : Replayed) (cause : Why) → IsServing run s → allowed run.count (after s (entry.Close 0 cause)) entry.End ≡ true
end_allowed run s cause serving =
    follows (is_over s.goal) (s.n == 0) s.unsettled (not (some_open (after s (entry.Close 0 cause)))) (goes_on run s s.goal serving.ahead) (some_recorded s.n serving.some)
    (ap not (none_open s cause serving.clients))

pub taken_closed : (run : Run) (h : List Entry) (cause : Why) → IsServing run (replay h) → Taken (facts_of run) h → Taken (facts_of run) (h ++ entry.Close 0 cause ∷ entry.End ∷ [])
taken_closed run h cause serving taken =
    let closed : Taken (facts_of run) (h ++ entry.Close 0 cause ∷ []) = one_more taken (entry.Close 0 cause) (record { allows = close_allowed run (replay h) cause serving; meets = tt {0} }) in
    subst (λ z. Taken (facts_of run) z) (append_assoc h (entry.Close 0 cause ∷ []) (entry.End ∷ []))
    (one_more closed entry.End (record { allows = subst (λ z. allowed run.count z entry.End ≡ true) (sym (replay-push h (entry.Close 0 cause))) (end_allowed run (replay h) cause serving); meets = tt {0} }))

not_empty : (h : List Entry) (e : Entry) (es : List Entry) → h ++ e ∷ es ≢ []
not_empty [] e es is = cc
not_empty (first ∷ h) e es is = cc

pub closed_legal : (run : Run) (h : List Entry) (cause : Why) → IsServing run (replay h) → Taken (facts_of run) h → Legal (facts_of run) (h ++ entry.Close 0 cause ∷ entry.End ∷ [])
closed_legal run h cause serving taken = legal_taken (facts_of run) (h ++ entry.Close 0 cause ∷ entry.End ∷ []) (taken_closed run h cause serving taken) (not_empty h (entry.Close 0 cause) (entry.End ∷ []))
