-- The words of the laws.
use Rattle.std.specs.Prelude.{◌≡◌, ℕ, ◌<◌, ◌≤◌, ◌^◌, ◌==◌, Bool, true, false, not, ◌&&◌, ◌⊎◌, List, [], ◌∷◌, ◌++◌}
use Rattle.std.specs.List.{count_by, list_any}
use Rattle.hall_core.specs.declared.entry.Entry.{Entry}
use Rattle.hall_core.specs.declared.entry.Entry.TheVariants as entry
use Rattle.hall_core.specs.declared.entry.Act.{Act}
use Rattle.hall_core.specs.declared.entry.Act.TheVariants as act
use Rattle.hall_core.specs.Legal.{RunFacts, Next}
use Rattle.hall_core.specs.Replay.{Replayed}

-- the histories that steps from the empty one lead to, of which each adds an entry that may come next
pub data Taken (run : RunFacts) : List Entry → Type 0 where
  none : Taken run []
  one_more : {history : List Entry} → Taken run history → (e : Entry) → Next run history e → Taken run (history ++ e ∷ [])

-- a packet that asks for samples
abbrev pub is_run : Entry → Bool
is_run (entry.Open c) = false
is_run (entry.Packet c act.Look) = false
is_run (entry.Packet c (act.Run m kinds)) = true
is_run (entry.Packet c act.Pause) = false
is_run (entry.Record m hit) = false
is_run entry.Unsettled = false
is_run (entry.Close c why) = false
is_run entry.End = false

-- an entry of the one who records
abbrev pub is_recording : Entry → Bool
is_recording (entry.Open c) = false
is_recording (entry.Packet c what) = false
is_recording (entry.Record m hit) = true
is_recording entry.Unsettled = true
is_recording (entry.Close c why) = false
is_recording entry.End = false

abbrev pub IsSmallAct : Act → Type 0
IsSmallAct act.Look = Unit {0}
IsSmallAct (act.Run m kinds) = m < 2 ^ 64
IsSmallAct act.Pause = Unit {0}

-- each number of the entry is one of 64 bits
abbrev pub IsSmall : Entry → Type 0
IsSmall (entry.Open c) = c < 2 ^ 64
IsSmall (entry.Packet c what) = (c < 2 ^ 64) × IsSmallAct what
IsSmall (entry.Record m hit) = m < 2 ^ 64
IsSmall entry.Unsettled = Unit {0}
IsSmall (entry.Close c why) = c < 2 ^ 64
IsSmall entry.End = Unit {0}

unfoldable pub AllSmall : List Entry → Type 0
AllSmall [] = Unit {0}
AllSmall (e ∷ es) = IsSmall e × AllSmall es

-- sample 0 settles, and the history begins with its record
abbrev pub BeginsWithSample : RunFacts → List Entry → Type 0
BeginsWithSample run history = (0 < run.length) × ((more : List Entry) × (history ≡ entry.Record 1 false ∷ more))

-- sample 0 does not settle, and nothing comes but the end
abbrev pub IsUnsettledAtOnce : RunFacts → List Entry → Type 0
IsUnsettledAtOnce run history = (run.length ≡ 0) × ((history ≡ entry.Unsettled ∷ []) ⊎ (history ≡ entry.Unsettled ∷ entry.End ∷ []))

abbrev pub opens : ℕ → Entry → Bool
opens c (entry.Open d) = c == d
opens c (entry.Packet d what) = false
opens c (entry.Record m hit) = false
opens c entry.Unsettled = false
opens c (entry.Close d why) = false
opens c entry.End = false

abbrev pub closes : ℕ → Entry → Bool
closes c (entry.Open d) = false
closes c (entry.Packet d what) = false
closes c (entry.Record m hit) = false
closes c entry.Unsettled = false
closes c (entry.Close d why) = c == d
closes c entry.End = false

-- the client was opened, and not closed
abbrev pub is_there : List Entry → ℕ → Bool
is_there history c = list_any (opens c) history && not (list_any (closes c) history)

-- the entry opens a client
abbrev pub is_opening : Entry → Bool
is_opening (entry.Open c) = true
is_opening (entry.Packet c what) = false
is_opening (entry.Record m hit) = false
is_opening entry.Unsettled = false
is_opening (entry.Close c why) = false
is_opening entry.End = false

-- how many clients were opened
abbrev pub opened : List Entry → ℕ
opened history = count_by is_opening history

-- a goal is not reached yet, there are so many samples, and none was found not to settle
abbrev pub LiesAhead : RunFacts → Replayed → ℕ → Type 0
LiesAhead run s g = (s.n < g) × (g ≤ run.count) × (s.unsettled ≡ false)
