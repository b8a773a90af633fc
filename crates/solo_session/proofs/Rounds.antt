-- A session from call to call.
use Rattle.std.proofs.Common.{◌≡◌, ℕ, ◌+◌, true, List, [], ◌∷◌, ◌++◌, map, refl, sym, ap, subst, ◌∙◌, append-nil}
use Rattle.std.specs.List.{list_all}
use Rattle.std.proofs.lemmas.List.{append_assoc}
use Rattle.circuit.specs.Rounds.{Run}
use Rattle.frame_zero.specs.Packets.{Packet, packets, whole}
use Rattle.hall_core.specs.Facts.{facts_of}
use Rattle.hall_core.specs.Laws.{Taken, is_recording}
use Rattle.hall_core.specs.Replay.{after, replay}
use Rattle.hall_core.specs.declared.entry.Entry.{Entry}
use Rattle.proto_packets.specs.Asked.{asked}
use Rattle.proto_replies.specs.Data.{packet_text}
use Rattle.session_core.specs.Refusals.{client_after}
use Rattle.session_core.specs.Replies.{answer_in, event, events}
use Rattle.hall_core.specs.Moments.{moment_of}
use Rattle.solo_session.specs.Pace.{batch, batches, most_next, record_entries, recorded, stop_entries, stopped}
use Rattle.solo_session.specs.Session.{HasSaid, HasServed, IsServedSoFar, IsServing, Conversation, Over, packet_entry}
use Rattle.solo_session.proofs.Going.{batches_push, has_said_more, has_said_packet, has_served_packet}
use Rattle.frame_zero.proofs.Streams.{taken_more}
use Rattle.solo_session.proofs.Taking.{all_recording_record, all_recording_stop, taken_recorded, taken_stopped}

-- what was said goes on by what a call puts behind the text
on_text : (sent text more now : List ℕ) → now ≡ text ++ more → (sent ++ text) ++ more ≡ sent ++ now
on_text sent text more now is = append_assoc sent text more ∙ ap (λ z. sent ++ z) (sym is)

said_step : (ps : List (List ℕ)) (s next : Conversation) (sent text now : List ℕ) (es : List Entry) → HasSaid ps s (sent ++ text) → list_all is_recording es ≡ true → Taken (facts_of s.run) (s.history ++ es)
    → next ≡ record s { history = s.history ++ es } → IsServing next.run (replay next.history) → now ≡ text ++ events s.run s.client.greeted (replay s.history) es → HasSaid ps next (sent ++ now)
said_step ps s next sent text now es has all taken is serving text_is =
    subst (λ x. HasSaid ps x (sent ++ now)) (sym is)
    (subst (λ b. HasSaid ps (record s { history = s.history ++ es }) b) (on_text sent text (events s.run s.client.greeted (replay s.history) es) now text_is)
    (has_said_more ps s (sent ++ text) es has all taken (subst (λ (x : Conversation). IsServing x.run (replay x.history)) is serving)))

pub recorded_said : (ps : List (List ℕ)) (s next : Conversation) (sent text now : List ℕ) → HasSaid ps s (sent ++ text) → next ≡ record s { history = recorded (facts_of s.run) s.history } → IsServing next.run (replay next.history)
    → now ≡ text ++ events s.run s.client.greeted (replay s.history) (record_entries (facts_of s.run) (replay s.history) (most_next (facts_of s.run) (replay s.history))) → HasSaid ps next (sent ++ now)
recorded_said ps s next sent text now has is serving text_is =
    said_step ps s next sent text now (record_entries (facts_of s.run) (replay s.history) (most_next (facts_of s.run) (replay s.history))) has
    (all_recording_record (facts_of s.run) (replay s.history) (most_next (facts_of s.run) (replay s.history))) (taken_recorded (facts_of s.run) s.history has.taken) is serving text_is

pub stopped_said : (ps : List (List ℕ)) (s next : Conversation) (sent text now : List ℕ) → HasSaid ps s (sent ++ text) → next ≡ record s { history = stopped (facts_of s.run) s.history } → IsServing next.run (replay next.history)
    → now ≡ text ++ events s.run s.client.greeted (replay s.history) (stop_entries (facts_of s.run) (replay s.history)) → HasSaid ps next (sent ++ now)
stopped_said ps s next sent text now has is serving text_is =
    said_step ps s next sent text now (stop_entries (facts_of s.run) (replay s.history)) has (all_recording_stop (facts_of s.run) (replay s.history)) (taken_stopped (facts_of s.run) s.history has.taken) is serving text_is

abbrev with_entry : Conversation → List ℕ → Conversation
with_entry s p = record s { history = s.history ++ packet_entry s (asked p) ∷ []; client = client_after s.client (asked p) }

abbrev packet_bytes : Conversation → List ℕ → List ℕ
packet_bytes s p = packet_text (answer_in s.run s.client (moment_of (after (replay s.history) (packet_entry s (asked p)))) (asked p)) ++ event s.run (client_after s.client (asked p)).greeted (replay s.history) (packet_entry s (asked p))

packet_said : (ps : List (List ℕ)) (s next : Conversation) (sent text now p : List ℕ) → HasSaid ps s (sent ++ text) → next ≡ with_entry s p → now ≡ text ++ packet_bytes s p → HasSaid (ps ++ p ∷ []) next (sent ++ now)
packet_said ps s next sent text now p has is text_is =
    subst (λ x. HasSaid (ps ++ p ∷ []) x (sent ++ now)) (sym is)
    (subst (λ b. HasSaid (ps ++ p ∷ []) (with_entry s p) b) (on_text sent text (packet_bytes s p) now text_is) (has_said_packet ps s (sent ++ text) p has))

abbrev after_batch : Conversation → Conversation
after_batch s = record s { history = batch (facts_of s.run) s.history }

abbrev after_record : Conversation → Conversation
after_record s = record s { history = recorded (facts_of s.run) s.history }

abbrev after_stop : Conversation → Conversation
after_stop s = record s { history = stopped (facts_of s.run) s.history }

batch_is : (s one two : Conversation) → one ≡ after_record s → two ≡ after_stop one → two ≡ after_batch s
batch_is s one two recorded_is stopped_is = stopped_is ∙ ap after_stop recorded_is

-- a packet and a batch
pub packet_served : (ps : List (List ℕ)) (s one two three : Conversation) (sent t0 t1 t2 t3 p : List ℕ) → HasServed ps s (sent ++ t0)
    → one ≡ with_entry s p → t1 ≡ t0 ++ packet_bytes s p
    → two ≡ after_record one → IsServing two.run (replay two.history)
    → t2 ≡ t1 ++ events one.run one.client.greeted (replay one.history) (record_entries (facts_of one.run) (replay one.history) (most_next (facts_of one.run) (replay one.history)))
    → three ≡ after_stop two → IsServing three.run (replay three.history)
    → t3 ≡ t2 ++ events two.run two.client.greeted (replay two.history) (stop_entries (facts_of two.run) (replay two.history))
    → HasServed (ps ++ p ∷ []) three (sent ++ t3)
packet_served ps s one two three sent t0 t1 t2 t3 p has one_is t1_is two_is two_serving t2_is three_is three_serving t3_is =
    let first = packet_said ps s one sent t0 t1 p has.has_said one_is t1_is in
    let second = recorded_said (ps ++ p ∷ []) one two sent t1 t2 first two_is two_serving t2_is in
    let third = stopped_said (ps ++ p ∷ []) two three sent t2 t3 second three_is three_serving t3_is in
    let whole_is : three ≡ after_batch (with_entry s p) = batch_is one two three two_is three_is ∙ ap after_batch one_is in
    has_served_packet ps s three (sent ++ t0) p (sent ++ t3) has third (ap (λ (x : Conversation). x.run) whole_is) (ap (λ (x : Conversation). x.history) whole_is)

abbrev keeps_record : {F : Type 0} → (F → Run) → Over F → Over F
keeps_record run_of s = record s { history = recorded (facts_of (run_of s.samples)) s.history }

abbrev keeps_stop : {F : Type 0} → (F → Run) → Over F → Over F
keeps_stop run_of s = record s { history = stopped (facts_of (run_of s.samples)) s.history }

-- one batch more
pub batches_go : {F : Type 0} (run_of : F → Run) (s one two three : Over F) (k : ℕ) → one ≡ record s { history = batches (facts_of (run_of s.samples)) k s.history } → two ≡ keeps_record run_of one → three ≡ keeps_stop run_of two
    → three ≡ record s { history = batches (facts_of (run_of s.samples)) (k + 1) s.history }
batches_go {F} run_of s one two three k one_is two_is three_is =
    three_is ∙ ap (keeps_stop run_of) two_is ∙ ap (λ (x : Over F). keeps_stop run_of (keeps_record run_of x)) one_is
    ∙ ap (λ (h : List Entry). record s { history = h }) (sym (batches_push (facts_of (run_of s.samples)) k s.history))

-- ---- packets taken from a stream

map_push : (done : List (List ℕ)) (p : List ℕ) (more : List Packet) → map whole (done ++ p ∷ []) ++ more ≡ map whole done ++ whole p ∷ more
map_push [] p more = refl
map_push (d ∷ done) p more = ap (λ z. whole d ∷ z) (map_push done p more)

pub none_taken : (bytes : List ℕ) (s : Conversation) (text : List ℕ) → IsServedSoFar bytes bytes s s text text
none_taken bytes s text = record {
  run = refl;
  done = [];
  parts = λ more. refl;
  served = λ earlier sent has. subst (λ z. HasServed z s (sent ++ text)) (sym (append-nil earlier)) has;
}

pub one_taken : (bytes left new p : List ℕ) (s before now : Conversation) (text before_text now_text : List ℕ) → IsServedSoFar bytes left s before text before_text
    → left ≡ p ++ 0 ∷ new → packets left ≡ whole p ∷ packets new → now.run ≡ before.run
    → ((ps : List (List ℕ)) (sent : List ℕ) → HasServed ps before (sent ++ before_text) → HasServed (ps ++ p ∷ []) now (sent ++ now_text))
    → IsServedSoFar bytes new s now text now_text
one_taken bytes left new p s before now text before_text now_text so_far is first run_is step = record {
  run = run_is ∙ so_far.run;
  done = so_far.done ++ p ∷ [];
  parts = λ more. so_far.parts more ∙ ap (λ z. map whole so_far.done ++ z) (taken_more left p new is first more) ∙ sym (map_push so_far.done p (packets (new ++ more)));
  served = λ earlier sent has. subst (λ z. HasServed z now (sent ++ now_text)) (append_assoc earlier so_far.done (p ∷ [])) (step (earlier ++ so_far.done) sent (so_far.served earlier sent has));
}
