-- What holds of a session goes on to hold as a packet is served, and as samples are recorded.
use Rattle.std.proofs.Common.{◌≡◌, ℕ, zero, suc, ◌+◌, ◌≤◌, Bool, true, false, List, [], ◌∷◌, ◌++◌, length, refl, sym, ap, subst, arith, ◌∙◌, append-nil, Option, Some, None, Ok, Err, if◌then◌else◌}
use Rattle.std.specs.Prelude.{nat_le, slice_get}
use Rattle.std.specs.List.{list_all}
use Rattle.std.proofs.lemmas.Bool.Decides.{nat_tests}
use Rattle.std.proofs.lemmas.List.{append_assoc, length_push}
use Rattle.circuit.specs.Rounds.{Row, Run, run_length}
use Rattle.hall_core.specs.Samples.{samples_until}
use Rattle.hall_core.specs.Facts.{facts_of}
use Rattle.hall_core.specs.Laws.{Taken, none, one_more, is_recording}
use Rattle.hall_core.specs.Legal.{RunFacts, is_open, is_true, may_act}
use Rattle.hall_core.specs.Replay.{Replayed, after, replay}
use Rattle.hall_core.specs.declared.entry.Act.{Act}
use Rattle.hall_core.specs.declared.entry.Entry.{Entry}
use Rattle.hall_core.specs.declared.entry.Entry.TheVariants as entry
use Rattle.hall_core.proofs.Progress.{replay-push}
use Rattle.proto_packets.specs.Asked.{asked}
use Rattle.proto_packets.specs.declared.request.Request.TheVariants as request
use Rattle.proto_replies.specs.Data.{packet_text}
use Rattle.proto_replies.specs.declared.answer.ErrorKind.{ErrorKind}
use Rattle.session_core.specs.Refusals.{Asking, Client, client_after, client_of, error_of, new_client}
use Rattle.session_core.specs.Replies.{act_asked, act_in, act_of, act_unless, answer_in, event, goal_of, events}
use Rattle.hall_core.specs.Moments.{moment_of}
use Rattle.session_core.specs.Said.{Agrees, packets_in, said, said_behind}
use Rattle.solo_session.specs.Pace.{batch, batches, opening, with_packet, with_packets}
use Rattle.solo_session.specs.Session.{HasSaid, HasServed, IsServing, Conversation, packet_entry}
use Rattle.session_core.proofs.Sayings.{client_push, packets_in_batch, packets_in_push_packet, said_batch, said_packet}
use Rattle.session_core.proofs.Agreeing.{agrees_batch, agrees_packet}
use Rattle.solo_session.proofs.Serving.{packet_allowed, packet_served}
use Rattle.solo_session.proofs.Taking.{taken_packet}

-- ---- one packet and one batch more

pub with_packets_push : (run : Run) (earlier : List (List ℕ)) (h : List Entry) (ps : List (List ℕ)) (q : List ℕ) → with_packets run earlier h (ps ++ q ∷ []) ≡ with_packet run (earlier ++ ps) (with_packets run earlier h ps) q
unfolding with_packets
with_packets_push run earlier h [] q = ap (λ z. with_packet run z h q) (sym (append-nil earlier))
with_packets_push run earlier h (p ∷ ps) q =
    with_packets_push run (earlier ++ p ∷ []) (with_packet run earlier h p) ps q
    ∙ ap (λ z. with_packet run z (with_packets run (earlier ++ p ∷ []) (with_packet run earlier h p) ps) q) (append_assoc earlier (p ∷ []) ps)

batches_suc : (facts : RunFacts) (k : ℕ) (h : List Entry) → batches facts (suc k) h ≡ batch facts (batches facts k h)
unfolding batches
batches_suc facts zero h = refl
batches_suc facts (suc k) h = batches_suc facts k (batch facts h)

pub batches_push : (facts : RunFacts) (k : ℕ) (h : List Entry) → batches facts (k + 1) h ≡ batch facts (batches facts k h)
batches_push facts k h = (let more : k + 1 ≡ suc k = omega arith in ap (λ z. batches facts z h) more) ∙ batches_suc facts k h

-- ---- samples are recorded

open_served : (run : Run) (s : Replayed) → IsServing run s → is_open s 0 ≡ true
open_served run s serving = ap (λ cs. is_true (slice_get cs 0)) serving.clients

pub has_said_more : (packets : List (List ℕ)) (s : Conversation) (bytes : List ℕ) (es : List Entry) → HasSaid packets s bytes → list_all is_recording es ≡ true → Taken (facts_of s.run) (s.history ++ es) → IsServing s.run (replay (s.history ++ es))
    → HasSaid packets (record s { history = s.history ++ es }) (bytes ++ events s.run s.client.greeted (replay s.history) es)
has_said_more packets s bytes es has all taken serving = record {
  serving = serving;
  client = has.client;
  counted = packets_in_batch s.history es all ∙ has.counted;
  taken = taken;
  agrees = agrees_batch s.run packets s.history es has.agrees all;
  said =
      ap (λ z. z ++ events s.run s.client.greeted (replay s.history) es) has.said
      ∙ ap (λ (client : Client). said s.run packets 0 s.history ++ events s.run client.greeted (replay s.history) es) has.client
      ∙ sym (said_batch s.run packets s.history es (open_served s.run (replay s.history) has.serving) has.counted all);
}

-- ---- a run is asked for at most all samples

until_within : (row : ℕ → Row) (n time : ℕ) → samples_until row n time ≤ n
unfolding samples_until
until_within row zero time = omega arith
until_within row (suc n) time = one_more_within (nat_le (row n).time time) (samples_until row n time) n (until_within row n time)
  where
    one_more_within : (b : Bool) (m n : ℕ) → m ≤ n → m + (if b then 1 else 0) ≤ suc n
    one_more_within true m n le = omega (arith, le)
    one_more_within false m n le = omega (arith, le)

goal_within : (run : Run) (until : Option ℕ) → goal_of run until ≤ run.count
goal_within run None = omega arith
goal_within run (Some time) = until_within run.row run.count time

may_goal : (m n : ℕ) → m ≤ n → nat_le m n ≡ true
may_goal m n le = grind (arith, nat_tests)

may_asked : (run : Run) (read : Asking) → may_act run.count (act_asked run read) ≡ true
may_asked run (Ok (request.RunSimulation until kinds)) = may_goal (goal_of run until) run.count (goal_within run until)
may_asked run (Ok (request.Greeting version)) = refl
may_asked run (Ok (request.ListScopes scope)) = refl
may_asked run (Ok (request.ListItems scope)) = refl
may_asked run (Ok (request.ReferenceItems reference items)) = refl
may_asked run (Ok (request.QueryInterval begin end items encoding collapse diagnostics)) = refl
may_asked run (Ok request.Status) = refl
may_asked run (Ok request.PauseSimulation) = refl
may_asked run (Err e) = refl

may_unless : (count : ℕ) (refusal : Option ErrorKind) (what : Act) → may_act count what ≡ true → may_act count (act_unless refusal what) ≡ true
may_unless count (Some e) what may = refl
may_unless count None what may = may

pub may_in : (run : Run) (client : Client) (read : Asking) → may_act run.count (act_in run client read) ≡ true
may_in run client read = may_unless run.count (error_of client read) (act_asked run read) (may_asked run read)

-- ---- a packet is served

module _ (packets : List (List ℕ)) (s : Conversation) (bytes p : List ℕ) (has : HasSaid packets s bytes) where
  client_more : client_after s.client (asked p) ≡ client_of (packets ++ p ∷ [])
  client_more = ap (λ (client : Client). client_after client (asked p)) has.client ∙ sym (client_push packets p)

  what_is : act_in s.run s.client (asked p) ≡ act_of s.run packets p
  what_is = ap (λ (client : Client). act_in s.run client (asked p)) has.client

  serving_packet : IsServing s.run (replay (s.history ++ packet_entry s (asked p) ∷ []))
  serving_packet =
      subst (λ z. IsServing s.run z) (sym (replay-push s.history (packet_entry s (asked p))))
      (packet_served s.run (replay s.history) (act_in s.run s.client (asked p)) has.serving (may_in s.run s.client (asked p)))

  counted_packet : packets_in 0 (s.history ++ packet_entry s (asked p) ∷ []) ≡ length (packets ++ p ∷ [])
  counted_packet = omega (arith, has.counted, packets_in_push_packet s.history (act_in s.run s.client (asked p)), length_push packets p)

  taken_in : Taken (facts_of s.run) (s.history ++ packet_entry s (asked p) ∷ [])
  taken_in =
      taken_packet (facts_of s.run) s.history (act_in s.run s.client (asked p))
      (packet_allowed s.run (replay s.history) (act_in s.run s.client (asked p)) has.serving (may_in s.run s.client (asked p))) has.taken

  agrees_in : Agrees s.run (packets ++ p ∷ []) 0 (s.history ++ packet_entry s (asked p) ∷ [])
  agrees_in = subst (λ z. Agrees s.run (packets ++ p ∷ []) 0 (s.history ++ entry.Packet 0 z ∷ [])) (sym what_is) (agrees_packet s.run packets p s.history has.agrees has.counted)

  text_of : Client → Client → List ℕ
  text_of was now = packet_text (answer_in s.run was (moment_of (after (replay s.history) (packet_entry s (asked p)))) (asked p)) ++ event s.run now.greeted (replay s.history) (packet_entry s (asked p))

  said_in : bytes ++ text_of s.client (client_after s.client (asked p)) ≡ said s.run (packets ++ p ∷ []) 0 (s.history ++ packet_entry s (asked p) ∷ [])
  unfolding text_of
  said_in =
      ap (λ z. z ++ text_of s.client (client_after s.client (asked p))) has.said
      ∙ ap (λ (client : Client). said s.run packets 0 s.history ++ text_of client (client_after s.client (asked p))) has.client
      ∙ ap (λ (client : Client). said s.run packets 0 s.history ++ text_of (client_of packets) client) client_more
      ∙ sym (said_packet s.run packets p s.history (act_in s.run s.client (asked p)) (open_served s.run (replay s.history) has.serving) has.counted)

pub has_said_packet : (packets : List (List ℕ)) (s : Conversation) (bytes p : List ℕ) → HasSaid packets s bytes
    → HasSaid (packets ++ p ∷ []) (record s { history = s.history ++ packet_entry s (asked p) ∷ []; client = client_after s.client (asked p) })
    (bytes ++ (packet_text (answer_in s.run s.client (moment_of (after (replay s.history) (packet_entry s (asked p)))) (asked p)) ++ event s.run (client_after s.client (asked p)).greeted (replay s.history) (packet_entry s (asked p))))
unfolding text_of
has_said_packet packets s bytes p has = record {
  serving = serving_packet packets s bytes p has;
  client = client_more packets s bytes p has;
  counted = counted_packet packets s bytes p has;
  taken = taken_in packets s bytes p has;
  agrees = agrees_in packets s bytes p has;
  said = said_in packets s bytes p has;
}

paced_packet : (packets : List (List ℕ)) (s next : Conversation) (bytes p : List ℕ) → HasServed packets s bytes → next.run ≡ s.run → next.history ≡ batch (facts_of s.run) (s.history ++ packet_entry s (asked p) ∷ [])
    → next.history ≡ with_packets next.run [] opening (packets ++ p ∷ [])
paced_packet packets s next bytes p served same is =
    is
    ∙ ap (λ (client : Client). batch (facts_of s.run) (s.history ++ entry.Packet 0 (act_in s.run client (asked p)) ∷ [])) served.has_said.client
    ∙ ap (λ h. with_packet s.run packets h p) served.paced
    ∙ sym (with_packets_push s.run [] opening packets p)
    ∙ ap (λ (r : Run). with_packets r [] opening (packets ++ p ∷ [])) (sym same)

pub has_served_packet : (packets : List (List ℕ)) (s next : Conversation) (bytes p now : List ℕ) → HasServed packets s bytes → HasSaid (packets ++ p ∷ []) next now → next.run ≡ s.run
    → next.history ≡ batch (facts_of s.run) (s.history ++ packet_entry s (asked p) ∷ []) → HasServed (packets ++ p ∷ []) next now
has_served_packet packets s next bytes p now served has same is = record {
  paced = paced_packet packets s next bytes p served same is;
  has_said = has;
}

-- ---- the outset

pub opened_agrees : (run : Run) → Agrees run [] 0 opening
opened_agrees run = record {
  taken = omega arith;
  acts = λ before more what packet same is. absurd (nothing packet is);
}
  where
    nothing : (packet : List ℕ) → None ≡ Some packet → ⊥
    nothing packet e = cc

opened_said : (run : Run) → [] ≡ said run [] 0 opening
unfolding said_behind
opened_said run = refl

pub opened_taken : (facts : RunFacts) → 1 ≤ facts.length → Taken facts opening
opened_taken facts some = one_more (one_more none (entry.Record 1 false) (record { allows = refl; meets = (some, tt {0}) })) (entry.Open 0) (record { allows = refl; meets = tt {0} })

pub opened : (run : Run) → 1 ≤ run_length run → HasServed [] (record { run = run; history = opening; client = new_client }) []
unfolding with_packets
opened run some = record {
  paced = refl;
  has_said = record {
    serving = record { clients = refl; some = omega arith; settled = some; ahead = tt {0} };
    client = refl;
    counted = refl;
    taken = opened_taken (facts_of run) some;
    agrees = opened_agrees run;
    said = opened_said run;
  };
}

-- a session of a run of which sample 0 settles, with the beginning of a history
pub opened_as : (s : Conversation) (run : Run) → s.run ≡ run → s.history ≡ opening → s.client ≡ new_client → 1 ≤ run_length run → HasServed [] s []
opened_as s run same_run is plain some =
    subst (λ (r : Run). HasServed [] (record { run = r; history = s.history; client = s.client }) []) (sym same_run)
    (subst (λ (h : List Entry). HasServed [] (record { run = run; history = h; client = s.client }) []) (sym is)
    (subst (λ (client : Client). HasServed [] (record { run = run; history = opening; client = client }) []) (sym plain) (opened run some)))
