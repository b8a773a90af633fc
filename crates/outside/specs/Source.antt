-- What a read of a source says.
use Rattle.std.specs.Prelude.{◌≡◌, ⊤, ℕ, ◌<◌, ◌≤◌, List, take, Bool, true, false, Option, Some, None}
use Rattle.std.specs.Io.KnownBytes.{IsAtEnd, prepend_known}
use Rattle.outside.specs.Faults.{Rose}
use Rattle.outside.specs.declared.source.Got.{Got}
use Rattle.outside.specs.declared.source.Got.TheVariants as got

-- what is seen of a source: the bytes that it has left, where it tells them, whether it is at its end, and how often it
-- failed
pub record SourceSeen : Type 0 where
  pub left : Option (List ℕ)
  pub ended : Bool
  pub faults : ℕ

-- a source gives one byte at least, and at most as many as there is room for
abbrev pub IsGot : Got → ℕ → Type 0
IsGot (got.Bytes n) room = (0 < n) × (n ≤ room)
IsGot got.End room = ⊤
IsGot got.Failed room = ⊤

-- the bytes that were given stand at the front of the buffer, and stood at the front of those that were left, where the
-- source tells what is left; at its end nothing was left
abbrev pub Gives : SourceSeen → SourceSeen → Got → List ℕ → Type 0
Gives before now (got.Bytes n) buffer = before.left ≡ prepend_known (take n buffer) now.left
Gives before now got.End buffer = (now.left ≡ before.left) × IsAtEnd before.left
Gives before now got.Failed buffer = now.left ≡ before.left

-- a source that is at its end stays there: it gives nothing more
abbrev pub Stays : SourceSeen → SourceSeen → Got → Type 0
Stays before now (got.Bytes n) = before.ended ≡ false
Stays before now got.End = now.ended ≡ true
Stays before now got.Failed = now.ended ≡ before.ended

-- the count rises exactly where the source failed
abbrev pub SourceCause : SourceSeen → SourceSeen → Got → Type 0
SourceCause before now (got.Bytes n) = now.faults ≡ before.faults
SourceCause before now got.End = now.faults ≡ before.faults
SourceCause before now got.Failed = (before.faults ≤ now.faults) × Rose before.faults now.faults

-- these may be all bytes of an input: where it tells what it has left, they are these
abbrev pub IsInput : Option (List ℕ) → List ℕ → Type 0
IsInput None bytes = ⊤
IsInput (Some left) bytes = bytes ≡ left
