-- What is seen of the objects of the outside before and after a call.
use Rattle.std.specs.Prelude.{◌≡◌, ℕ, ◌≤◌, List, Bool, true, false, Option, Some, None}
use Rattle.std.specs.Io.KnownBytes.{append_known}
use Rattle.outside.specs.Faults.{Rose}
use Rattle.outside.specs.Shelf.{File, Missing, ShelfSeen}
use Rattle.outside.specs.Sink.{IsSentInPart, SinkSeen}
use Rattle.outside.specs.Source.{SourceSeen}

-- all objects of a call
pub record Outside : Type 0 where
  pub shelf : ShelfSeen
  pub input : SourceSeen
  pub out : SinkSeen
  pub log : SinkSeen

abbrev pub outside_of : ShelfSeen → SourceSeen → SinkSeen → SinkSeen → Outside
outside_of shelf input out log = record { shelf = shelf; input = input; out = out; log = log }

-- nothing was read from it, or written to it, and it did not fail
abbrev pub IsQuiet : {X : Type 0} → X → X → Type 0
IsQuiet before now = now ≡ before

abbrev pub HasFailed : SinkSeen → SinkSeen → Type 0
HasFailed before now = Rose before.faults now.faults

-- a sink got the whole text behind what it held, or it failed and got a beginning
abbrev pub HasGot : Bool → SinkSeen → SinkSeen → List ℕ → Type 0
HasGot true before now text = now.held ≡ append_known before.held text
HasGot false before now text = HasFailed before now × IsSentInPart before.held now.held text

-- no count of faults falls
pub record IsLater (before now : Outside) : Type 0 where
  pub shelf : before.shelf.read_faults ≤ now.shelf.read_faults
  pub input : before.input.faults ≤ now.input.faults
  pub out : before.out.faults ≤ now.out.faults
  pub log : before.log.faults ≤ now.log.faults

-- the file of a name; of no name there is none
abbrev pub named : (List ℕ → File) → Option (List ℕ) → File
named file None = Missing
named file (Some name) = file name
