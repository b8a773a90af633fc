-- What a session with one client did, by the bytes that the client sent.
use Rattle.std.specs.Prelude.{◌≡◌, ◌⊎◌, ⊤, ℕ, ◌+◌, ◌≤◌, List, [], ◌∷◌, ◌++◌, length, take, Bool, true, false, not, ◌&&◌, nat_lt, Option, if◌then◌else◌}
use Rattle.std.specs.Io.KnownBytes.{IsAtEnd, append_known, prepend_known}
use Rattle.circuit.specs.Rounds.{Run}
use Rattle.frame_zero.specs.Packets.{packets, has_too_long}
use Rattle.hall_core.specs.Facts.{facts_of}
use Rattle.hall_core.specs.Legal.{Legal}
use Rattle.hall_core.specs.declared.entry.Entry.{Entry}
use Rattle.hall_core.specs.declared.entry.Entry.TheVariants as entry
use Rattle.hall_core.specs.declared.entry.Why.TheVariants as why
use Rattle.outside.specs.Faults.{Rose}
use Rattle.outside.specs.Sink.{IsSentInPart, SinkSeen, TookPart}
use Rattle.outside.specs.Source.{IsInput, SourceSeen}
use Rattle.solo_session.specs.Pace.{batches, course, input_limit, packets_of, piece_limit, solo_history}
use Rattle.session_core.specs.Said.{Agrees, said}
use Rattle.solo_session.specs.declared.solo.Ending.{Ending}
use Rattle.solo_session.specs.declared.solo.Ending.TheVariants as ending

-- what a session begins with: the run, what the input has left and what the output holds, where these tell it
pub record Outset : Type 0 where
  pub run : Run
  pub left : Option (List ℕ)
  pub held : Option (List ℕ)

abbrev pub outset_of : Run → SourceSeen → SinkSeen → Outset
outset_of run input out = record { run = run; left = input.left; held = out.held }

-- the history may be one of the run, and its packets are the client's
pub record IsSession (run : Run) (bytes : List ℕ) (history : List Entry) : Type 0 where
  pub legal : Legal (facts_of run) history
  pub agrees : Agrees run (packets_of bytes) 0 history

-- a part of the bytes that are read is too long to be a packet
abbrev pub is_too_long : List ℕ → Bool
is_too_long bytes = has_too_long (packets (take input_limit bytes))

-- how a session ends that no fault breaks off
abbrev pub ending_of : List ℕ → Ending
ending_of bytes = if not (is_too_long bytes) && nat_lt input_limit (length bytes) then ending.Limit else ending.Served

-- of the bytes that were read these were read last, in one piece, and no part of those before them is too long
pub record IsLastPiece (given earlier last : List ℕ) : Type 0 where
  pub parts : given ≡ earlier ++ last
  pub few : length last ≤ piece_limit
  pub goes_on : has_too_long (packets earlier) ≡ false

-- a part of the bytes that were read is too long, and nothing was read behind the piece in which it became so
pub record EndsTooLong (given : List ℕ) : Type 0 where
  pub earlier : List ℕ
  pub last : List ℕ
  pub is_last : IsLastPiece given earlier last
  pub long : has_too_long (packets given) ≡ true

-- why no more was read, where no fault breaks a session off: at the end of the input, behind a part that is too long, and
-- behind one byte more than are served
abbrev pub IsReadOn : Ending → Option (List ℕ) → List ℕ → Type 0
IsReadOn ending.Served left given = IsAtEnd left ⊎ EndsTooLong given
IsReadOn ending.Limit left given = length given ≡ input_limit + 1
IsReadOn ending.InputFailed left given = ⊤
IsReadOn ending.OutputFailed left given = ⊤

-- the history is the one that the client's bytes give, and all that it says to the client came behind what the output held;
-- `given` are the bytes that were read
pub record IsWhole (outset : Outset) (left held : Option (List ℕ)) (history : List Entry) (given : List ℕ) (ends : Ending) : Type 0 where
  pub bytes : List ℕ
  pub input : IsInput outset.left bytes
  pub ended : ends ≡ ending_of bytes
  pub read_on : IsReadOn ends left given
  pub session : IsSession outset.run bytes history
  pub whole : history ≡ solo_history outset.run bytes
  pub sent : held ≡ append_known outset.held (said outset.run (packets_of bytes) 0 history)

-- a beginning of a history, and the end for a fault
pub record IsCutOff (whole history : List Entry) : Type 0 where
  pub begun : List Entry
  pub more : List Entry
  pub parts : whole ≡ begun ++ more
  pub cut : history ≡ begun ++ entry.Close 0 why.Fault ∷ entry.End ∷ []

-- a fault broke the history off, or the output failed when it was whole already, since a part of the bytes is too long; a
-- beginning of what it says to the client came behind what the output held
pub record IsBroken (outset : Outset) (held : Option (List ℕ)) (history : List Entry) : Type 0 where
  pub bytes : List ℕ
  pub input : IsInput outset.left bytes
  pub session : IsSession outset.run bytes history
  pub broken : IsCutOff (solo_history outset.run bytes) history ⊎ ((is_too_long bytes ≡ true) × (history ≡ solo_history outset.run bytes))
  pub sent : IsSentInPart outset.held held (said outset.run (packets_of bytes) 0 history)

-- the packets of the bytes that were read have their entries, and all that these say came behind what the output held
pub record IsServedTo (outset : Outset) (held : Option (List ℕ)) (history : List Entry) (given : List ℕ) : Type 0 where
  pub whole : history ≡ course outset.run given ++ entry.Close 0 why.Fault ∷ entry.End ∷ []
  pub sent : held ≡ append_known outset.held (said outset.run (packets_of given) 0 history)

-- all that is due to the client when the packets of these bytes were served
abbrev pub due : Run → List ℕ → List ℕ
due run bytes = said run (packets_of bytes) 0 (course run bytes)

-- how a history ends behind a write that failed, by the bytes that were read and by the last piece of them: its packets are
-- those that were read. Behind a piece the client is let go for the fault, or for a part that is too long, which was read
-- before the write; at the end of the input all that was asked for is recorded before.
pub data IsCutShort (run : Run) (left : Option (List ℕ)) (given last : List ℕ) (history : List Entry) : Type 0 where
  behind_piece : has_too_long (packets given) ≡ false → history ≡ course run given ++ entry.Close 0 why.Fault ∷ entry.End ∷ [] → IsCutShort run left given last history
  behind_too_long : has_too_long (packets given) ≡ true → history ≡ course run given ++ entry.Close 0 why.TooLong ∷ entry.End ∷ [] → IsCutShort run left given last history
  at_end : IsAtEnd left → last ≡ [] → history ≡ batches (facts_of run) run.count (course run given) ++ entry.Close 0 why.Fault ∷ entry.End ∷ [] → IsCutShort run left given last history

-- what a write leaves that failed: nothing was read on behind it, the history has no packet that was not read, all that was
-- due before the last piece was read had come, and of what the history says besides a part came
pub record IsUnsent (outset : Outset) (left held : Option (List ℕ)) (history : List Entry) (given : List ℕ) : Type 0 where
  pub earlier : List ℕ
  pub last : List ℕ
  pub is_last : IsLastPiece given earlier last
  pub closed : IsCutShort outset.run left given last history
  pub rest : List ℕ
  pub says : said outset.run (packets_of given) 0 history ≡ due outset.run earlier ++ rest
  pub part : TookPart (append_known outset.held (due outset.run earlier)) held rest

-- these bytes were read of an input: at most one more than are served
pub record IsReadOf (before now : Option (List ℕ)) (given : List ℕ) : Type 0 where
  pub few : length given ≤ input_limit + 1
  pub read : before ≡ prepend_known given now

-- by how a session ended
abbrev pub IsEndedBy : Outset → Option (List ℕ) → Option (List ℕ) → List Entry → List ℕ → Ending → Type 0
IsEndedBy outset left held history given ending.Served = IsWhole outset left held history given ending.Served
IsEndedBy outset left held history given ending.Limit = IsWhole outset left held history given ending.Limit
IsEndedBy outset left held history given ending.InputFailed = IsBroken outset held history × IsServedTo outset held history given
IsEndedBy outset left held history given ending.OutputFailed = IsBroken outset held history × IsUnsent outset left held history given

-- what a session leaves: what the input has left, what the output holds, and the history
pub record IsEnded (outset : Outset) (left held : Option (List ℕ)) (history : List Entry) (ends : Ending) : Type 0 where
  pub given : List ℕ
  pub taken : IsReadOf outset.left left given
  pub by : IsEndedBy outset left held history given ends

-- memory was wanting: a beginning of what the history of the client's bytes says came behind what the output held
pub record IsWanting (outset : Outset) (held : Option (List ℕ)) : Type 0 where
  pub bytes : List ℕ
  pub input : IsInput outset.left bytes
  pub sent : IsSentInPart outset.held held (said outset.run (packets_of bytes) 0 (solo_history outset.run bytes))

-- the count of faults that rose is that of the object that failed, and no other did
abbrev pub IsCause : Ending → SourceSeen → SourceSeen → SinkSeen → SinkSeen → Type 0
IsCause ending.Served input input_now out out_now = (input_now.faults ≡ input.faults) × (out_now.faults ≡ out.faults)
IsCause ending.Limit input input_now out out_now = (input_now.faults ≡ input.faults) × (out_now.faults ≡ out.faults)
IsCause ending.InputFailed input input_now out out_now = Rose input.faults input_now.faults × (out_now.faults ≡ out.faults)
IsCause ending.OutputFailed input input_now out out_now = (input_now.faults ≡ input.faults) × Rose out.faults out_now.faults
