-- What is said depends on a run by the number of its samples, their times, and what the recorded ones show.
use Rattle.std.proofs.Common.{◌≡◌, ℕ, ◌-◌, Bool, List, [], ◌∷◌, ◌++◌, refl, ap, ◌∙◌, Option, Some, None, Ok, Err, if◌then◌else◌}
use Rattle.std.specs.Prelude.{◌==◌, ◌&&◌, ◌||◌, slice_get, take}
use Rattle.circuit.specs.Rounds.{Run}
use Rattle.hall_core.specs.Moments.{Moment, moment_of}
use Rattle.hall_core.specs.Replay.{Replayed, after, reaches, replay}
use Rattle.hall_core.specs.declared.entry.Entry.{Entry}
use Rattle.hall_core.specs.declared.entry.Entry.TheVariants as entry
use Rattle.proto_packets.specs.Asked.{asked}
use Rattle.proto_packets.specs.declared.request.Request.TheVariants as request
use Rattle.proto_replies.specs.Data.{answer_data, packet_text}
use Rattle.proto_replies.specs.declared.answer.Answer.TheVariants as answer
use Rattle.proto_replies.specs.declared.answer.RunState.{RunState}
use Rattle.proto_replies.specs.declared.answer.RunState.TheVariants as state
use Rattle.session_core.specs.Recorded.{AreAlike}
use Rattle.session_core.specs.Refusals.{Asking, client_of, error_of}
use Rattle.session_core.specs.Replies.{answer_to, answer_unless, cause_of, event, event_of, is_finished, is_running, next_time, reply, state_of, status, time_of}
use Rattle.session_core.specs.Said.{answered, given_by, listens, packets_in, reply_at, reply_to, said, said_behind}

module _ (n : ℕ) (one other : Run) (alike : AreAlike n one other) where
  same_finished : (m : Moment) → is_finished one m ≡ is_finished other m
  same_finished m = ap (λ count. (m.n == count) || m.unsettled) alike.count

  same_state : (m : Moment) → state_of one m ≡ state_of other m
  same_state m = ap (λ done. if is_running m.goal then state.Running else (if done then state.Finished else state.Paused)) (same_finished m)

  same_next : (k : ℕ) (how : RunState) → next_time one k how ≡ next_time other k how
  same_next k state.Running = ap (λ time. Some time) (alike.times k)
  same_next k state.Paused = ap (λ time. Some time) (alike.times k)
  same_next k state.Finished = refl

  same_status : (m : Moment) → status one m ≡ status other m
  same_status m =
      ap (λ time. answer.Status time (state_of one m) (next_time one m.n (state_of one m))) (alike.times (m.n - 1))
      ∙ ap (λ how. answer.Status (time_of other (m.n - 1)) how (next_time one m.n how)) (same_state m)
      ∙ ap (λ next. answer.Status (time_of other (m.n - 1)) (state_of other m) next) (same_next m.n (state_of other m))

  same_answer : (m : Moment) (read : Asking) → answer_to one m read ≡ answer_to other m read
  same_answer m (Ok (request.Greeting version)) = refl
  same_answer m (Ok request.Status) = ap answer_data (same_status m)
  same_answer m (Ok (request.RunSimulation until kinds)) = refl
  same_answer m (Ok (request.ListScopes scope)) = refl
  same_answer m (Ok (request.ListItems scope)) = refl
  same_answer m (Ok (request.ReferenceItems reference items)) = refl
  same_answer m (Ok (request.QueryInterval begin end items encoding collapse diagnostics)) = refl
  same_answer m (Ok request.PauseSimulation) = refl
  same_answer m (Err e) = refl

  same_reply : (m : Moment) (earlier : List (List ℕ)) (packet : List ℕ) → reply one m earlier packet ≡ reply other m earlier packet
  same_reply m earlier packet = ap (λ content. packet_text (answer_unless (error_of (client_of earlier) (asked packet)) content)) (same_answer m (asked packet))

  same_reply_to : (m : Moment) (earlier : List (List ℕ)) (packet : Option (List ℕ)) → reply_to one m earlier packet ≡ reply_to other m earlier packet
  same_reply_to m earlier None = refl
  same_reply_to m earlier (Some packet) = same_reply m earlier packet

  same_answered : (packets : List (List ℕ)) (c : ℕ) (before : List Entry) (e : Entry) → answered one packets c before e ≡ answered other packets c before e
  same_answered packets c before (entry.Open d) = refl
  same_answered packets c before (entry.Packet d what) =
      ap (λ bytes. if c == d then bytes else [])
      (same_reply_to (moment_of (after (replay before) (entry.Packet d what))) (take (packets_in c before) packets) (slice_get packets (packets_in c before)))
  same_answered packets c before (entry.Record m hit) = refl
  same_answered packets c before entry.Unsettled = refl
  same_answered packets c before (entry.Close d why) = refl
  same_answered packets c before entry.End = refl

  same_event_of : (m : Moment) (e : Entry) → event_of one m e ≡ event_of other m e
  same_event_of m e =
      ap (λ done. answer_data (if done then answer.Finished (time_of one (m.n - 1)) else answer.Paused (cause_of e) (time_of one (m.n - 1)))) (same_finished m)
      ∙ ap (λ time. answer_data (if is_finished other m then answer.Finished time else answer.Paused (cause_of e) time)) (alike.times (m.n - 1))

  same_event : (hears : Bool) (s : Replayed) (e : Entry) → event one hears s e ≡ event other hears s e
  same_event hears s e = ap (λ content. if reaches s e && hears then packet_text content else []) (same_event_of (moment_of (after s e)) e)

  same_given : (packets : List (List ℕ)) (c : ℕ) (before : List Entry) (e : Entry) → given_by one packets c before e ≡ given_by other packets c before e
  same_given packets c before e =
      ap (λ bytes. bytes ++ event one (listens packets c before e) (replay before) e) (same_answered packets c before e)
      ∙ ap (λ bytes. answered other packets c before e ++ bytes) (same_event (listens packets c before e) (replay before) e)

  same_behind : (packets : List (List ℕ)) (c : ℕ) (before es : List Entry) → said_behind one packets c before es ≡ said_behind other packets c before es
  unfolding said_behind
  same_behind packets c before [] = refl
  same_behind packets c before (e ∷ es) =
      ap (λ bytes. bytes ++ said_behind one packets c (before ++ e ∷ []) es) (same_given packets c before e)
      ∙ ap (λ bytes. given_by other packets c before e ++ bytes) (same_behind packets c (before ++ e ∷ []) es)

pub said_alike : (one other : Run) (packets : List (List ℕ)) (c : ℕ) (history : List Entry) → AreAlike (replay history).n one other → said one packets c history ≡ said other packets c history
said_alike one other packets c history alike = same_behind (replay history).n one other alike packets c [] history
