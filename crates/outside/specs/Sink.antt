-- What a write to a sink says.
use Rattle.std.specs.Prelude.{◌≡◌, ⊤, ℕ, ◌<◌, ◌≤◌, List, ◌++◌, length, take, Option}
use Rattle.std.specs.Io.KnownBytes.{append_known}
use Rattle.outside.specs.Faults.{Rose}
use Rattle.outside.specs.declared.sink.Put.{Put}
use Rattle.outside.specs.declared.sink.Put.TheVariants as put

-- what is seen of a sink: the bytes that it holds, where it tells them, and how often it failed
pub record SinkSeen : Type 0 where
  pub held : Option (List ℕ)
  pub faults : ℕ

-- a sink takes one byte of the piece at least, and all of it at most
abbrev pub IsWithin : Put → List ℕ → Type 0
IsWithin (put.Took n) piece = (0 < n) × (n ≤ length piece)
IsWithin put.Failed piece = ⊤

-- the bytes that were taken stand behind those that were held, where the sink tells what it holds
abbrev pub Takes : SinkSeen → SinkSeen → Put → List ℕ → Type 0
Takes before now (put.Took n) piece = now.held ≡ append_known before.held (take n piece)
Takes before now put.Failed piece = now.held ≡ before.held

-- the count rises exactly where the sink failed
abbrev pub SinkCause : SinkSeen → SinkSeen → Put → Type 0
SinkCause before now (put.Took n) = now.faults ≡ before.faults
SinkCause before now put.Failed = (before.faults ≤ now.faults) × Rose before.faults now.faults

-- some of the bytes, from the first on, were taken, and not all
pub record TookPart (before now : Option (List ℕ)) (bytes : List ℕ) : Type 0 where
  pub count : ℕ
  pub not_all : count < length bytes
  pub holds : now ≡ append_known before (take count bytes)

-- a beginning of the bytes came behind what was held: nothing, a part or all of them
pub record IsSentInPart (before now : Option (List ℕ)) (bytes : List ℕ) : Type 0 where
  pub sent : List ℕ
  pub more : List ℕ
  pub parts : bytes ≡ sent ++ more
  pub holds : now ≡ append_known before sent
