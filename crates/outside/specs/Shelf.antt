-- What a shelf tells of its files.
use Rattle.std.specs.Prelude.{◌≡◌, ⊤, ℕ, ◌<◌, List, length}

-- what a shelf tells of the file of a name: nothing, that there is none, or its bytes
pub data File : Type 0 where
  Unknown : File
  Missing : File
  Holds : List ℕ → File

-- what is seen of a shelf: what it tells of its files, and how often its reads and its writes failed
pub record ShelfSeen : Type 0 where
  pub file : List ℕ → File
  pub read_faults : ℕ
  pub write_faults : ℕ

abbrev pub IsKnown : File → Type 0
IsKnown Unknown = ⊥
IsKnown Missing = ⊤
IsKnown (Holds bytes) = ⊤

-- these may be the bytes of the file: where the shelf tells, they are
abbrev pub IsOf : File → List ℕ → Type 0
IsOf Unknown bytes = ⊤
IsOf Missing bytes = ⊥
IsOf (Holds held) bytes = bytes ≡ held

-- the file may have more bytes than this: where the shelf tells, it has
abbrev pub IsLonger : File → ℕ → Type 0
IsLonger Unknown limit = ⊤
IsLonger Missing limit = ⊥
IsLonger (Holds held) limit = limit < length held
