-- What holds of a session while its client's bytes are read.
use Rattle.std.specs.Prelude.{◌≡◌, ℕ, ◌≤◌, List, [], ◌++◌, length, map, Option, Some, None}
use Rattle.std.specs.Io.KnownBytes.{append_known, prepend_known}
use Rattle.frame_zero.specs.Packets.{packets, whole}
use Rattle.solo_session.specs.Pace.{input_limit}
use Rattle.solo_session.specs.Session.{HasServed, Conversation}
use Rattle.solo_session.specs.Solo.{IsCause, IsEnded, Outset}
use Rattle.solo_session.specs.declared.solo.Ending.{Ending}
use Rattle.solo_session.specs.declared.solo.Ending.TheVariants as ending
use Rattle.outside.specs.Sink.{SinkSeen, TookPart}
use Rattle.outside.specs.Source.{SourceSeen}

-- so many bytes were read, of which the rest is in no packet yet; the packets of the others were served, and this is what
-- they were to be told
pub record HasRead (outset : Outset) (left : Option (List ℕ)) (s : Conversation) (rest : List ℕ) (taken : ℕ) (told : List ℕ) : Type 0 where
  pub run : s.run ≡ outset.run
  pub given : List ℕ
  pub count : length given ≡ taken
  pub within : taken ≤ input_limit
  pub read : outset.left ≡ prepend_known given left
  pub done : List (List ℕ)
  -- whatever more there is to the bytes
  pub parts : (more : List ℕ) → packets (given ++ more) ≡ map whole done ++ packets (rest ++ more)
  pub served : HasServed done s told

-- the same, no packet is in the rest, and all that was to be told came behind what the output held
abbrev pub IsReading : Outset → Option (List ℕ) → Option (List ℕ) → Conversation → List ℕ → ℕ → Type 0
IsReading outset left held s rest taken =
    (told : List ℕ) × HasRead outset left s rest taken told × (held ≡ append_known outset.held told) × (packets rest ≡ [])

-- the session goes on, or has ended
abbrev pub IsTurn : Outset → Option (List ℕ) → Option (List ℕ) → Conversation → List ℕ → ℕ → Option Ending → Type 0
IsTurn outset left held s rest taken None = IsReading outset left held s rest taken
IsTurn outset left held s rest taken (Some ends) = IsEnded outset left held s.history ends

-- the output's count of faults, where it goes on or has ended and the input did not fail
abbrev pub IsOutputCause : Option Ending → SinkSeen → SinkSeen → Type 0
IsOutputCause None out out_now = out_now.faults ≡ out.faults
IsOutputCause (Some ends) out out_now = (input : SourceSeen) → IsCause ends input input out out_now

-- what a text left of the output, by how the session ended behind it
abbrev pub IsSentBy : Ending → Option (List ℕ) → Option (List ℕ) → List ℕ → Type 0
IsSentBy ending.Served before now text = now ≡ append_known before text
IsSentBy ending.Limit before now text = ⊥
IsSentBy ending.InputFailed before now text = ⊥
IsSentBy ending.OutputFailed before now text = TookPart before now text
