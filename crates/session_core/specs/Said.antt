-- The bytes that a history and a client's own packets give to that client.
use Rattle.std.specs.Prelude.{◌≡◌, ℕ, ◌≤◌, ◌==◌, List, [], ◌∷◌, ◌++◌, length, take, Bool, false, ◌&&◌, Option, Some, None, slice_get, if◌then◌else◌}
use Rattle.std.specs.List.{count_by}
use Rattle.circuit.specs.Rounds.{Run}
use Rattle.hall_core.specs.Legal.{is_open}
use Rattle.hall_core.specs.Replay.{after, replay}
use Rattle.hall_core.specs.declared.entry.Act.{Act}
use Rattle.hall_core.specs.declared.entry.Entry.{Entry}
use Rattle.hall_core.specs.declared.entry.Entry.TheVariants as entry
use Rattle.hall_core.specs.declared.entry.Why.{Why}
use Rattle.hall_core.specs.declared.entry.Why.TheVariants as why
use Rattle.proto_replies.specs.Data.{answer_data, packet_text}
use Rattle.proto_replies.specs.declared.answer.Answer.TheVariants as answer
use Rattle.proto_replies.specs.declared.answer.ErrorKind.TheVariants as error
use Rattle.session_core.specs.Refusals.{is_greeted}
use Rattle.hall_core.specs.Moments.{Moment, moment_of}
use Rattle.session_core.specs.Replies.{act_of, event, reply}

-- an entry is a packet of the client
abbrev pub is_packet_of : ℕ → Entry → Bool
is_packet_of c (entry.Open d) = false
is_packet_of c (entry.Packet d what) = c == d
is_packet_of c (entry.Record m hit) = false
is_packet_of c entry.Unsettled = false
is_packet_of c (entry.Close d why) = false
is_packet_of c entry.End = false

-- how many packets of the client stand in a history
abbrev pub packets_in : ℕ → List Entry → ℕ
packets_in c history = count_by (is_packet_of c) history

-- the reply to packet j of the client's packets; none where there are not so many
abbrev pub reply_to : Run → Moment → List (List ℕ) → Option (List ℕ) → List ℕ
reply_to run m earlier None = []
reply_to run m earlier (Some packet) = reply run m earlier packet

abbrev pub reply_at : Run → Moment → List (List ℕ) → ℕ → List ℕ
reply_at run m packets j = reply_to run m (take j packets) (slice_get packets j)

-- what is sent for the reason of a close
abbrev pub last_words : Why → List ℕ
last_words why.TooLong = packet_text (answer_data (answer.Error error.PacketTooLong))
last_words why.Ended = []
last_words why.Fault = []
last_words why.Slow = []
last_words why.Limit = []
last_words why.Memory = []
last_words why.Over = []

-- what an entry itself gives to a client, behind these entries
abbrev pub answered : Run → List (List ℕ) → ℕ → List Entry → Entry → List ℕ
answered run packets c before (entry.Packet d what) =
    if c == d then reply_at run (moment_of (after (replay before) (entry.Packet d what))) packets (packets_in c before) else []
answered run packets c before (entry.Close d why) = if c == d then last_words why else []
answered run packets c before (entry.Open d) = []
answered run packets c before (entry.Record m hit) = []
answered run packets c before entry.Unsettled = []
answered run packets c before entry.End = []

-- the client is open and greeted after an entry
abbrev pub listens : List (List ℕ) → ℕ → List Entry → Entry → Bool
listens packets c before e = is_open (after (replay before) e) c && is_greeted (take (packets_in c (before ++ e ∷ [])) packets)

-- what an entry behind these gives to a client: its reply, or its last words, and then the event
abbrev pub given_by : Run → List (List ℕ) → ℕ → List Entry → Entry → List ℕ
given_by run packets c before e = answered run packets c before e ++ event run (listens packets c before e) (replay before) e

-- what entries give, of which the first stands behind these
unfoldable pub said_behind : Run → List (List ℕ) → ℕ → List Entry → List Entry → List ℕ
said_behind run packets c before [] = []
said_behind run packets c before (e ∷ es) = given_by run packets c before e ++ said_behind run packets c (before ++ e ∷ []) es

-- all that a history gives to a client with these packets
abbrev pub said : Run → List (List ℕ) → ℕ → List Entry → List ℕ
said run packets c history = said_behind run packets c [] history

-- the j-th packet entry of the client is its j-th packet, and does what that packet asks
pub record Agrees (run : Run) (packets : List (List ℕ)) (c : ℕ) (history : List Entry) : Type 0 where
  pub taken : packets_in c history ≤ length packets
  pub acts : (before more : List Entry) (what : Act) (packet : List ℕ) → history ≡ before ++ entry.Packet c what ∷ more
      → slice_get packets (packets_in c before) ≡ Some packet → what ≡ act_of run (take (packets_in c before) packets) packet

-- the moments just after the packets of a client, of entries of which the first stands behind these
unfoldable pub moments_behind : ℕ → List Entry → List Entry → List Moment
moments_behind c before [] = []
moments_behind c before (e ∷ es) =
    if is_packet_of c e then moment_of (after (replay before) e) ∷ moments_behind c (before ++ e ∷ []) es else moments_behind c (before ++ e ∷ []) es

abbrev pub moments : ℕ → List Entry → List Moment
moments c history = moments_behind c [] history

-- the replies to a client, each by itself
unfoldable pub replies_behind : Run → List (List ℕ) → ℕ → List Entry → List Entry → List (List ℕ)
replies_behind run packets c before [] = []
replies_behind run packets c before (e ∷ es) =
    if is_packet_of c e then answered run packets c before e ∷ replies_behind run packets c (before ++ e ∷ []) es
    else replies_behind run packets c (before ++ e ∷ []) es

abbrev pub replies : Run → List (List ℕ) → ℕ → List Entry → List (List ℕ)
replies run packets c history = replies_behind run packets c [] history
