-- What a client is sent for a packet, and where a goal is reached.
use Rattle.std.specs.Prelude.{ℕ, ◌-◌, ◌==◌, List, [], ◌∷◌, ◌++◌, Bool, true, false, ◌&&◌, ◌||◌, Option, Some, None, Ok, Err, if◌then◌else◌}
use Rattle.circuit.specs.Rounds.{Run}
use Rattle.hall_core.specs.Samples.{samples_until}
use Rattle.serde_json.specs.Data.{Data}
use Rattle.hall_core.specs.Moments.{Moment, moment_of}
use Rattle.hall_core.specs.Replay.{Replayed, after, reaches}
use Rattle.hall_core.specs.declared.entry.Act.{Act}
use Rattle.hall_core.specs.declared.entry.Act.TheVariants as act
use Rattle.hall_core.specs.declared.entry.Entry.{Entry}
use Rattle.hall_core.specs.declared.entry.Entry.TheVariants as entry
use Rattle.hall_core.specs.declared.entry.Goal.{Goal}
use Rattle.hall_core.specs.declared.entry.Goal.TheVariants as goal
use Rattle.proto_packets.specs.Asked.{asked}
use Rattle.proto_packets.specs.declared.request.Request.TheVariants as request
use Rattle.proto_replies.specs.Data.{answer_data, packet_text}
use Rattle.proto_replies.specs.declared.answer.Answer.{Answer}
use Rattle.proto_replies.specs.declared.answer.Answer.TheVariants as answer
use Rattle.proto_replies.specs.declared.answer.Cause.{Cause}
use Rattle.proto_replies.specs.declared.answer.Cause.TheVariants as cause
use Rattle.proto_replies.specs.declared.answer.ErrorKind.{ErrorKind}
use Rattle.proto_replies.specs.declared.answer.ErrorKind.TheVariants as error
use Rattle.proto_replies.specs.declared.answer.RunState.{RunState}
use Rattle.proto_replies.specs.declared.answer.RunState.TheVariants as state
use Rattle.session_core.specs.Refusals.{Asking, Client, client_of, error_of}

-- ---- what a packet does

-- how many samples a run goes to: those up to a time, or all
abbrev pub goal_of : Run → Option ℕ → ℕ
goal_of run None = run.count
goal_of run (Some time) = samples_until run.row run.count time

-- what a request does that is not refused
abbrev pub act_asked : Run → Asking → Act
act_asked run (Ok (request.RunSimulation until kinds)) = act.Run (goal_of run until) kinds
act_asked run (Ok (request.Greeting version)) = act.Look
act_asked run (Ok (request.ListScopes scope)) = act.Look
act_asked run (Ok (request.ListItems scope)) = act.Look
act_asked run (Ok (request.ReferenceItems reference items)) = act.Look
act_asked run (Ok (request.QueryInterval begin end items encoding collapse diagnostics)) = act.Look
act_asked run (Ok request.Status) = act.Look
act_asked run (Ok request.PauseSimulation) = act.Look
act_asked run (Err e) = act.Look

abbrev pub act_unless : Option ErrorKind → Act → Act
act_unless (Some e) what = act.Look
act_unless None what = what

-- what a packet of a client does
abbrev pub act_in : Run → Client → Asking → Act
act_in run client read = act_unless (error_of client read) (act_asked run read)

-- what a packet behind a client's earlier packets does
abbrev pub act_of : Run → List (List ℕ) → List ℕ → Act
act_of run earlier packet = act_in run (client_of earlier) (asked packet)

-- ---- replies

-- the time of a sample in femtoseconds
abbrev pub time_of : Run → ℕ → ℕ
time_of run k = (run.row k).time

-- all samples are recorded, or the next one does not settle
abbrev pub is_finished : Run → Moment → Bool
is_finished run m = (m.n == run.count) || m.unsettled

abbrev pub is_running : Goal → Bool
is_running goal.Hold = false
is_running (goal.To g kinds) = true
is_running goal.Over = false

abbrev pub state_of : Run → Moment → RunState
state_of run m = if is_running m.goal then state.Running else (if is_finished run m then state.Finished else state.Paused)

-- the time of the next sample, where there is one to come
abbrev pub next_time : Run → ℕ → RunState → Option ℕ
next_time run n state.Running = Some (time_of run n)
next_time run n state.Paused = Some (time_of run n)
next_time run n state.Finished = None

abbrev pub status : Run → Moment → Answer
status run m = answer.Status (time_of run (m.n - 1)) (state_of run m) (next_time run m.n (state_of run m))

-- the reply to a request that is not refused, as data; the others are refused always
abbrev pub answer_to : Run → Moment → Asking → Data
answer_to run m (Ok (request.Greeting version)) = answer_data answer.Greeting
answer_to run m (Ok request.Status) = answer_data (status run m)
answer_to run m (Ok (request.RunSimulation until kinds)) = answer_data answer.RunSimulation
answer_to run m (Ok (request.ListScopes scope)) = answer_data (answer.Error error.InvalidCommand)
answer_to run m (Ok (request.ListItems scope)) = answer_data (answer.Error error.InvalidCommand)
answer_to run m (Ok (request.ReferenceItems reference items)) = answer_data (answer.Error error.InvalidCommand)
answer_to run m (Ok (request.QueryInterval begin end items encoding collapse diagnostics)) = answer_data (answer.Error error.InvalidCommand)
answer_to run m (Ok request.PauseSimulation) = answer_data (answer.Error error.InvalidCommand)
answer_to run m (Err e) = answer_data (answer.Error error.InvalidJson)

abbrev pub answer_unless : Option ErrorKind → Data → Data
answer_unless (Some e) content = answer_data (answer.Error e)
answer_unless None content = content

-- the reply to a packet of a client
abbrev pub answer_in : Run → Client → Moment → Asking → Data
answer_in run client m read = answer_unless (error_of client read) (answer_to run m read)

-- the bytes of the reply to a packet: by what stands just after its entry, and by the client's own earlier packets
abbrev pub reply : Run → Moment → List (List ℕ) → List ℕ → List ℕ
reply run m earlier packet = packet_text (answer_in run (client_of earlier) m (asked packet))

-- ---- events

abbrev pub cause_of : Entry → Cause
cause_of (entry.Record m hit) = if hit then cause.UntilDiagnostics else cause.UntilTime
cause_of (entry.Open c) = cause.UntilTime
cause_of (entry.Packet c what) = cause.UntilTime
cause_of entry.Unsettled = cause.UntilTime
cause_of (entry.Close c why) = cause.UntilTime
cause_of entry.End = cause.UntilTime

-- the event of an entry that reaches a goal, by what stands just after it
abbrev pub event_of : Run → Moment → Entry → Data
event_of run m e =
    answer_data (if is_finished run m then answer.Finished (time_of run (m.n - 1)) else answer.Paused (cause_of e) (time_of run (m.n - 1)))

-- the bytes of the event of an entry, for a client that listens
abbrev pub event : Run → Bool → Replayed → Entry → List ℕ
event run listens before e = if reaches before e && listens then packet_text (event_of run (moment_of (after before e)) e) else []

-- the events of entries that are no packets
unfoldable pub events : Run → Bool → Replayed → List Entry → List ℕ
events run listens s [] = []
events run listens s (e ∷ es) = event run listens s e ++ events run listens (after s e) es
