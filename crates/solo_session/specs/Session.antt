-- What a contract sees of a session, and what holds of one while its client is served.
use Rattle.std.specs.Prelude.{◌≡◌, ⊤, ℕ, ◌<◌, ◌≤◌, List, [], ◌∷◌, ◌++◌, length, map, Bool, true, false, if◌then◌else◌}
use Rattle.circuit.specs.Rounds.{Run, run_length}
use Rattle.frame_zero.specs.Packets.{packets, too_long, whole}
use Rattle.hall_core.specs.Facts.{facts_of}
use Rattle.hall_core.specs.Laws.{Taken}
use Rattle.hall_core.specs.Replay.{Replayed, replay}
use Rattle.hall_core.specs.declared.entry.Act.{Act}
use Rattle.hall_core.specs.declared.entry.Act.TheVariants as act
use Rattle.hall_core.specs.declared.entry.Entry.{Entry}
use Rattle.hall_core.specs.declared.entry.Entry.TheVariants as entry
use Rattle.hall_core.specs.declared.entry.Goal.{Goal}
use Rattle.hall_core.specs.declared.entry.Goal.TheVariants as goal
use Rattle.session_core.specs.Refusals.{Asking, Client, client_of}
use Rattle.session_core.specs.Replies.{act_in}
use Rattle.session_core.specs.Said.{Agrees, packets_in, said}
use Rattle.solo_session.specs.Pace.{opening, with_packets}

-- what a session keeps: the samples that it follows, the history so far, and what its packets made of the client
pub record Over (F : Type 0) : Type 0 where
  pub samples : F
  pub history : List Entry
  pub client : Client

-- the same, by the circuit and its samples
pub record Conversation : Type 0 where
  pub run : Run
  pub history : List Entry
  pub client : Client

abbrev pub conversation : {F : Type 0} → (F → Run) → Over F → Conversation
conversation run_of s = record { run = run_of s.samples; history = s.history; client = s.client }

-- a goal goes beyond what is recorded, and no further than there are samples
abbrev pub IsAhead : Run → Replayed → Goal → Type 0
IsAhead run s goal.Hold = ⊤
IsAhead run s (goal.To g kinds) = (s.n < g) × (g ≤ run.count) × (s.unsettled ≡ false)
IsAhead run s goal.Over = ⊥

-- the client is open, sample 0 is recorded, and the recorded samples settle
pub record IsServing (run : Run) (s : Replayed) : Type 0 where
  pub clients : s.clients ≡ true ∷ []
  pub some : 1 ≤ s.n
  pub settled : s.n ≤ run_length run
  pub ahead : IsAhead run s s.goal

abbrev pub IsRunning : Goal → Type 0
IsRunning goal.Hold = ⊥
IsRunning (goal.To g kinds) = ⊤
IsRunning goal.Over = ⊥

abbrev pub is_run_act : Act → Bool
is_run_act act.Look = false
is_run_act (act.Run m kinds) = true
is_run_act act.Pause = false

-- the entry of a packet
abbrev pub packet_entry : Conversation → Asking → Entry
packet_entry s read = entry.Packet 0 (act_in s.run s.client read)

-- these are the client's packets so far, what it was said is theirs, and the history is legal
pub record HasSaid (packets : List (List ℕ)) (s : Conversation) (bytes : List ℕ) : Type 0 where
  pub serving : IsServing s.run (replay s.history)
  pub client : s.client ≡ client_of packets
  pub counted : packets_in 0 s.history ≡ length packets
  pub taken : Taken (facts_of s.run) s.history
  pub agrees : Agrees s.run packets 0 s.history
  pub said : bytes ≡ said s.run packets 0 s.history

-- the same, and the history is that of the pace
pub record HasServed (packets : List (List ℕ)) (s : Conversation) (bytes : List ℕ) : Type 0 where
  pub paced : s.history ≡ with_packets s.run [] opening packets
  pub has_said : HasSaid packets s bytes

-- packets that stood first in some bytes were served, and these bytes are left
pub record IsServedSoFar (bytes left : List ℕ) (before now : Conversation) (text_before text_now : List ℕ) : Type 0 where
  pub run : now.run ≡ before.run
  pub done : List (List ℕ)
  -- whatever more there is to the bytes
  pub parts : (more : List ℕ) → packets (bytes ++ more) ≡ map whole done ++ packets (left ++ more)
  pub served : (earlier : List (List ℕ)) (sent : List ℕ) → HasServed earlier before (sent ++ text_before) → HasServed (earlier ++ done) now (sent ++ text_now)

-- all of them were, up to a part that is too long where there is one
pub record IsServedOf (bytes left : List ℕ) (ends : Bool) (before now : Conversation) (text_before text_now : List ℕ) : Type 0 where
  pub so_far : IsServedSoFar bytes left before now text_before text_now
  pub serving : IsServing now.run (replay now.history)
  pub rest : packets left ≡ (if ends then too_long ∷ [] else [])
