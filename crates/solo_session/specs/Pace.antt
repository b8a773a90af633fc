-- The history of a run with one client: the pace at which samples are recorded between its packets.
use Rattle.hall_core.specs.declared.entry.Entry.TheVariants.{Record}
use Rattle.std.specs.Prelude.{ℕ, zero, suc, ◌==◌, List, [], ◌∷◌, ◌++◌, length, take, false, nat_lt, if◌then◌else◌}
use Rattle.circuit.specs.Rounds.{Run, run_length}
use Rattle.frame_zero.specs.Packets.{packets, wholes, has_too_long}
use Rattle.hall_core.specs.Batches.{may_stop, most_recorded, record_of}
use Rattle.hall_core.specs.Facts.{facts_of}
use Rattle.hall_core.specs.Legal.{RunFacts}
use Rattle.hall_core.specs.Replay.{Replayed, replay}
use Rattle.hall_core.specs.declared.entry.Entry.{Entry}
use Rattle.hall_core.specs.declared.entry.Entry.TheVariants as entry
use Rattle.hall_core.specs.declared.entry.Why.TheVariants as why
use Rattle.session_core.specs.Replies.{act_of}

-- ---- one batch

-- a batch records at most so many samples
abbrev pub batch_size : ℕ
batch_size = 256

-- the record of so many samples; of none there is no entry
abbrev pub record_entries : RunFacts → Replayed → ℕ → List Entry
record_entries facts s zero = []
record_entries facts s (suc m) = record_of facts s (suc m) ∷ []

-- the most samples, up to the size of a batch, that may be recorded next
abbrev pub most_next : RunFacts → Replayed → ℕ
most_next facts s = most_recorded batch_size facts s

abbrev pub stop_entries : RunFacts → Replayed → List Entry
stop_entries facts s = if may_stop facts s then entry.Unsettled ∷ [] else []

abbrev pub recorded : RunFacts → List Entry → List Entry
recorded facts history = history ++ record_entries facts (replay history) (most_next facts (replay history))

abbrev pub stopped : RunFacts → List Entry → List Entry
stopped facts history = history ++ stop_entries facts (replay history)

-- as many samples as may be recorded, and then Unsettled where the next one does not settle
abbrev pub batch : RunFacts → List Entry → List Entry
batch facts history = stopped facts (recorded facts history)

-- ---- the whole

-- sample 0, and the client
abbrev pub opening : List Entry
opening = entry.Record 1 false ∷ entry.Open 0 ∷ []

-- a packet behind a history in which the client's earlier packets stand, and one batch
abbrev pub with_packet : Run → List (List ℕ) → List Entry → List ℕ → List Entry
with_packet run earlier history packet = batch (facts_of run) (history ++ entry.Packet 0 (act_of run earlier packet) ∷ [])

-- packet by packet
unfoldable pub with_packets : Run → List (List ℕ) → List Entry → List (List ℕ) → List Entry
with_packets run earlier history [] = history
with_packets run earlier history (p ∷ ps) = with_packets run (earlier ++ p ∷ []) (with_packet run earlier history p) ps

-- so many batches
unfoldable pub batches : RunFacts → ℕ → List Entry → List Entry
batches facts zero history = history
batches facts (suc more) history = batches facts more (batch facts history)

-- at most so many bytes of the input are read
abbrev pub input_limit : ℕ
input_limit = 16777216

-- at most so many bytes are read at a time
abbrev pub piece_limit : ℕ
piece_limit = 65536

-- the client's packets
abbrev pub packets_of : List ℕ → List (List ℕ)
packets_of bytes = wholes (packets (take input_limit bytes))

-- the history once the packets of these bytes were served, and no goal was waited for
abbrev pub course : Run → List ℕ → List Entry
course run bytes = with_packets run [] opening (packets_of bytes)

-- how the client leaves, by its bytes: a part of them is too long, there are more than are read, or they end. At their end
-- batches follow until no goal is left: as many as there are samples are enough.
abbrev pub closing : Run → List ℕ → List Entry → List Entry
closing run bytes history =
    if has_too_long (packets (take input_limit bytes)) then history ++ entry.Close 0 why.TooLong ∷ entry.End ∷ []
    else (if nat_lt input_limit (length bytes) then history ++ entry.Close 0 why.Limit ∷ entry.End ∷ []
    else batches (facts_of run) run.count history ++ entry.Close 0 why.Ended ∷ entry.End ∷ [])

-- the history that the bytes of the client give; where sample 0 does not settle nobody is served
abbrev pub solo_history : Run → List ℕ → List Entry
solo_history run bytes =
    if run_length run == 0 then entry.Unsettled ∷ entry.End ∷ []
    else closing run bytes (course run bytes)
