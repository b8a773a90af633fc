-- The history of the pace is legal, and at its end no goal is left.
use Rattle.std.proofs.Common.{◌≡◌, ℕ, zero, suc, ◌+◌, ◌-◌, ◌≤◌, Bool, true, false, not, List, [], ◌∷◌, ◌++◌, length, refl, sym, ap, subst, arith, ◌∙◌, append-nil, inl, inr, if◌then◌else◌}
use Rattle.std.specs.Prelude.{nat_le, ◌==◌, ◌&&◌}
use Rattle.std.proofs.lemmas.Bool.{and_parts, cases_Bool, cond-true, cond-false}
use Rattle.std.proofs.lemmas.Bool.Decides.{nat_tests}
use Rattle.std.proofs.lemmas.List.{append_assoc, length_push}
use Rattle.circuit.specs.Rounds.{Run, run_length}
use Rattle.hall_core.specs.Facts.{facts_of}
use Rattle.hall_core.specs.Laws.{Taken, none, one_more}
use Rattle.hall_core.specs.Legal.{Legal, allowed}
use Rattle.hall_core.specs.Replay.{Replayed, replay}
use Rattle.hall_core.specs.declared.entry.Entry.{Entry}
use Rattle.hall_core.specs.declared.entry.Entry.TheVariants as entry
use Rattle.hall_core.specs.declared.entry.Why.{Why}
use Rattle.hall_core.specs.declared.entry.Why.TheVariants as why
use Rattle.hall_core.proofs.Histories.{legal_taken}
use Rattle.hall_core.proofs.Progress.{replay-push}
use Rattle.proto_packets.specs.Asked.{asked}
use Rattle.session_core.specs.Refusals.{client_of}
use Rattle.session_core.specs.Replies.{act_of}
use Rattle.session_core.specs.Said.{Agrees, packets_in}
use Rattle.solo_session.specs.Pace.{batch, batch_size, batches, closing, most_next, opening, packets_of, record_entries, recorded, solo_history, stop_entries, stopped, with_packet, with_packets}
use Rattle.hall_core.specs.Batches.{hits_goal, may_record, may_stop, record_of, some_hits}
use Rattle.solo_session.specs.Session.{IsServing, Conversation}
use Rattle.session_core.proofs.Agreeing.{agrees_batch, agrees_other, agrees_packet, no_packet_there}
use Rattle.solo_session.proofs.Going.{may_in, opened_agrees, opened_taken}
use Rattle.session_core.proofs.Sayings.{packets_in_batch, packets_in_other, packets_in_push_packet}
use Rattle.solo_session.proofs.Serving.{packet_allowed, packet_served, record_served}
use Rattle.solo_session.proofs.Taking.{all_recording_record, all_recording_stop, closed_legal, greatest_passes, le_of, taken_packet, taken_recorded, taken_stopped}

-- ---- the client goes on to be served

serving_recorded : (run : Run) (h : List Entry) (m : ℕ) → most_next (facts_of run) (replay h) ≡ m → IsServing run (replay h) → IsServing run (replay (h ++ record_entries (facts_of run) (replay h) m))
serving_recorded run h zero most serving = subst (λ z. IsServing run (replay z)) (sym (append-nil h)) serving
serving_recorded run h (suc m) most serving =
    let passes : may_record (facts_of run) (replay h) (suc m) ≡ true = greatest_passes (may_record (facts_of run) (replay h)) batch_size m most in
    let parts = and_parts (allowed run.count (replay h) (record_of (facts_of run) (replay h) (suc m))) (nat_le ((replay h).n + suc m) (run_length run) && not (some_hits (facts_of run) (replay h).goal (replay h).n (suc m - 1))) passes in
    let settles = and_parts (nat_le ((replay h).n + suc m) (run_length run)) (not (some_hits (facts_of run) (replay h).goal (replay h).n (suc m - 1))) parts.1 in
    subst (λ (z : Replayed). IsServing run z) (sym (replay-push h (record_of (facts_of run) (replay h) (suc m))))
    (record_served run (replay h) (suc m) (hits_goal (facts_of run) (replay h).goal ((replay h).n + suc m - 1)) serving (le_of ((replay h).n + suc m) (run_length run) settles.0) parts.0)

serving_if : (run : Run) (h : List Entry) (stops : Bool) → IsServing run (replay h) → IsServing run (replay (h ++ (if stops then entry.Unsettled ∷ [] else [])))
serving_if run h true serving =
    subst (λ (z : Replayed). IsServing run z) (sym (replay-push h entry.Unsettled)) (record { clients = serving.clients; some = serving.some; settled = serving.settled; ahead = tt {0} })
serving_if run h false serving = subst (λ z. IsServing run (replay z)) (sym (append-nil h)) serving

pub serving_batch : (run : Run) (h : List Entry) → IsServing run (replay h) → IsServing run (replay (batch (facts_of run) h))
serving_batch run h serving =
    serving_if run (recorded (facts_of run) h) (may_stop (facts_of run) (replay (recorded (facts_of run) h))) (serving_recorded run h (most_next (facts_of run) (replay h)) refl serving)

pub serving_batches : (run : Run) (k : ℕ) (h : List Entry) → IsServing run (replay h) → IsServing run (replay (batches (facts_of run) k h))
unfolding batches
serving_batches run zero h serving = serving
serving_batches run (suc k) h serving = serving_batches run k (batch (facts_of run) h) (serving_batch run h serving)

-- ---- what holds of a history of the pace

record IsPaced (run : Run) (packets : List (List ℕ)) (h : List Entry) : Type 0 where
  serving : IsServing run (replay h)
  taken : Taken (facts_of run) h
  counted : packets_in 0 h ≡ length packets
  agrees : Agrees run packets 0 h

paced_recorded : (run : Run) (ps : List (List ℕ)) (h : List Entry) → IsPaced run ps h → IsPaced run ps (recorded (facts_of run) h)
paced_recorded run ps h paced =
    let all = all_recording_record (facts_of run) (replay h) (most_next (facts_of run) (replay h)) in
    record {
      serving = serving_recorded run h (most_next (facts_of run) (replay h)) refl paced.serving;
      taken = taken_recorded (facts_of run) h paced.taken;
      counted = packets_in_batch h (record_entries (facts_of run) (replay h) (most_next (facts_of run) (replay h))) all ∙ paced.counted;
      agrees = agrees_batch run ps h (record_entries (facts_of run) (replay h) (most_next (facts_of run) (replay h))) paced.agrees all;
    }

paced_stopped : (run : Run) (ps : List (List ℕ)) (h : List Entry) → IsPaced run ps h → IsPaced run ps (stopped (facts_of run) h)
paced_stopped run ps h paced =
    let all = all_recording_stop (facts_of run) (replay h) in
    record {
      serving = serving_if run h (may_stop (facts_of run) (replay h)) paced.serving;
      taken = taken_stopped (facts_of run) h paced.taken;
      counted = packets_in_batch h (stop_entries (facts_of run) (replay h)) all ∙ paced.counted;
      agrees = agrees_batch run ps h (stop_entries (facts_of run) (replay h)) paced.agrees all;
    }

paced_batch : (run : Run) (ps : List (List ℕ)) (h : List Entry) → IsPaced run ps h → IsPaced run ps (batch (facts_of run) h)
paced_batch run ps h paced = paced_stopped run ps (recorded (facts_of run) h) (paced_recorded run ps h paced)

paced_packet : (run : Run) (ps : List (List ℕ)) (p : List ℕ) (h : List Entry) → IsPaced run ps h → IsPaced run (ps ++ p ∷ []) (h ++ entry.Packet 0 (act_of run ps p) ∷ [])
paced_packet run ps p h paced =
    let may = may_in run (client_of ps) (asked p) in
    record {
      serving = subst (λ (z : Replayed). IsServing run z) (sym (replay-push h (entry.Packet 0 (act_of run ps p)))) (packet_served run (replay h) (act_of run ps p) paced.serving may);
      taken = taken_packet (facts_of run) h (act_of run ps p) (packet_allowed run (replay h) (act_of run ps p) paced.serving may) paced.taken;
      counted = omega (arith, paced.counted, packets_in_push_packet h (act_of run ps p), length_push ps p);
      agrees = agrees_packet run ps p h paced.agrees paced.counted;
    }

paced_packets : (run : Run) (earlier : List (List ℕ)) (h : List Entry) (ps : List (List ℕ)) → IsPaced run earlier h → IsPaced run (earlier ++ ps) (with_packets run earlier h ps)
unfolding with_packets
paced_packets run earlier h [] paced = subst (λ z. IsPaced run z h) (sym (append-nil earlier)) paced
paced_packets run earlier h (p ∷ ps) paced =
    subst (λ z. IsPaced run z (with_packets run (earlier ++ p ∷ []) (with_packet run earlier h p) ps)) (append_assoc earlier (p ∷ []) ps)
    (paced_packets run (earlier ++ p ∷ []) (with_packet run earlier h p) ps (paced_batch run (earlier ++ p ∷ []) (h ++ entry.Packet 0 (act_of run earlier p) ∷ []) (paced_packet run earlier p h paced)))

paced_batches : (run : Run) (ps : List (List ℕ)) (k : ℕ) (h : List Entry) → IsPaced run ps h → IsPaced run ps (batches (facts_of run) k h)
unfolding batches
paced_batches run ps zero h paced = paced
paced_batches run ps (suc k) h paced = paced_batches run ps k (batch (facts_of run) h) (paced_batch run ps h paced)

paced_opening : (run : Run) → 1 ≤ run_length run → IsPaced run [] opening
paced_opening run some = record {
  serving = record { clients = refl; some = omega arith; settled = some; ahead = tt {0} };
  taken = opened_taken (facts_of run) some;
  counted = refl;
  agrees = opened_agrees run;
}

pub serving_packets : (run : Run) (ps : List (List ℕ)) → 1 ≤ run_length run → IsServing run (replay (with_packets run [] opening ps))
serving_packets run ps some = (paced_packets run [] opening ps (paced_opening run some)).serving

-- ---- a session from call to call

pub run_out_serving : (s next : Conversation) → IsServing s.run (replay s.history) → next ≡ record s { history = batches (facts_of s.run) s.run.count s.history } → IsServing next.run (replay next.history)
run_out_serving s next serving is =
    subst (λ (x : Conversation). IsServing x.run (replay x.history)) (sym is) (serving_batches s.run s.run.count s.history serving)

-- ---- a history that has ended

record IsWhole (run : Run) (packets : List (List ℕ)) (h : List Entry) : Type 0 where
  legal : Legal (facts_of run) h
  counted : packets_in 0 h ≡ length packets
  agrees : Agrees run packets 0 h

whole_closed : (run : Run) (ps : List (List ℕ)) (h : List Entry) (cause : Why) → IsPaced run ps h → IsWhole run ps (h ++ entry.Close 0 cause ∷ entry.End ∷ [])
whole_closed run ps h cause paced =
    let closed = agrees_other run ps h (entry.Close 0 cause) paced.agrees refl in
    record {
      legal = closed_legal run h cause paced.serving paced.taken;
      counted =
          ap (λ z. packets_in 0 z) (sym (append_assoc h (entry.Close 0 cause ∷ []) (entry.End ∷ [])))
          ∙ packets_in_other (h ++ entry.Close 0 cause ∷ []) entry.End refl ∙ packets_in_other h (entry.Close 0 cause) refl ∙ paced.counted;
      agrees = subst (λ z. Agrees run ps 0 z) (append_assoc h (entry.Close 0 cause ∷ []) (entry.End ∷ [])) (agrees_other run ps (h ++ entry.Close 0 cause ∷ []) entry.End closed refl);
    }

whole_if : (run : Run) (ps : List (List ℕ)) (h : List Entry) (long more : Bool) → IsPaced run ps h
    → IsWhole run ps (if long then h ++ entry.Close 0 why.TooLong ∷ entry.End ∷ [] else (if more then h ++ entry.Close 0 why.Limit ∷ entry.End ∷ [] else batches (facts_of run) run.count h ++ entry.Close 0 why.Ended ∷ entry.End ∷ []))
whole_if run ps h true more paced = whole_closed run ps h why.TooLong paced
whole_if run ps h false true paced = whole_closed run ps h why.Limit paced
whole_if run ps h false false paced = whole_closed run ps (batches (facts_of run) run.count h) why.Ended (paced_batches run ps run.count h paced)

legal_at_once : (run : Run) → run_length run ≡ 0 → 1 ≤ run.count → Legal (facts_of run) (entry.Unsettled ∷ entry.End ∷ [])
legal_at_once run first some =
    legal_taken (facts_of run) (entry.Unsettled ∷ entry.End ∷ [])
    (one_more (one_more none entry.Unsettled (record { allows = refl; meets = (sym first, omega (arith, first, some)) })) entry.End (record { allows = refl; meets = tt {0} }))
    (λ is. cc)

agrees_none : (run : Run) (ps : List (List ℕ)) → Agrees run ps 0 []
agrees_none run ps = record { taken = omega arith; acts = λ before rest what packet same is. absurd (no_packet_there before (entry.Packet 0 what) rest same) }

agrees_at_once : (run : Run) (ps : List (List ℕ)) → Agrees run ps 0 (entry.Unsettled ∷ entry.End ∷ [])
agrees_at_once run ps = agrees_other run ps (entry.Unsettled ∷ []) entry.End (agrees_other run ps [] entry.Unsettled (agrees_none run ps) refl) refl

module _ (run : Run) (bytes : List ℕ) where
  whole_served : 1 ≤ run_length run → IsWhole run (packets_of bytes) (closing run bytes (with_packets run [] opening (packets_of bytes)))
  whole_served some =
      whole_if run (packets_of bytes) (with_packets run [] opening (packets_of bytes)) _ _ (paced_packets run [] opening (packets_of bytes) (paced_opening run some))

  is_zero : (n : ℕ) → (n == 0) ≡ true → n ≡ 0
  is_zero n is = grind (arith, nat_tests)

  is_some : (n : ℕ) → (n == 0) ≡ false → 1 ≤ n
  is_some n is = grind (arith, nat_tests)

  not_zero : (n : ℕ) → 1 ≤ n → (n == 0) ≡ false
  not_zero n some = grind (arith, nat_tests)

  history_at_once : (run_length run == 0) ≡ true → solo_history run bytes ≡ entry.Unsettled ∷ entry.End ∷ []
  history_at_once first = cond-true (run_length run == 0) _ _ first

  history_served : (run_length run == 0) ≡ false → solo_history run bytes ≡ closing run bytes (with_packets run [] opening (packets_of bytes))
  history_served served = cond-false (run_length run == 0) _ _ served

  pub solo_legal : 1 ≤ run.count → Legal (facts_of run) (solo_history run bytes)
  solo_legal some = elim (cases_Bool (run_length run == 0)) [
    | inl first ↦ subst (λ z. Legal (facts_of run) z) (sym (history_at_once first)) (legal_at_once run (is_zero (run_length run) first) some)
    | inr served ↦ subst (λ z. Legal (facts_of run) z) (sym (history_served served)) (whole_served (is_some (run_length run) served)).legal
  ]

  pub solo_agrees : Agrees run (packets_of bytes) 0 (solo_history run bytes)
  solo_agrees = elim (cases_Bool (run_length run == 0)) [
    | inl first ↦ subst (λ z. Agrees run (packets_of bytes) 0 z) (sym (history_at_once first)) (agrees_at_once run (packets_of bytes))
    | inr served ↦ subst (λ z. Agrees run (packets_of bytes) 0 z) (sym (history_served served)) (whole_served (is_some (run_length run) served)).agrees
  ]

  pub solo_counted : 1 ≤ run_length run → packets_in 0 (solo_history run bytes) ≡ length (packets_of bytes)
  solo_counted some = ap (λ z. packets_in 0 z) (history_served (not_zero (run_length run) some)) ∙ (whole_served some).counted
