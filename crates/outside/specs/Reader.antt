-- A reader as a source.
use Rattle.std.specs.Prelude.{ℕ, List, Option, None, take, Bool}
use Rattle.std.specs.Io.KnownBytes.{Consumes, Keeps}
use Rattle.outside.specs.Source.{SourceSeen}
use Rattle.outside.specs.declared.source.Got.{Got}
use Rattle.outside.specs.declared.source.Got.TheVariants as got
use Rattle.outside.specs.declared.readers.Reader.{Reader}

-- the reader of std that the source reads from
abbrev pub reader_of : {R : Type 0} → Reader R → R
reader_of source = source.reader

-- whether it came to its end
abbrev pub is_ended : {R : Type 0} → Reader R → Bool
is_ended source = source.ended

-- how often it failed
abbrev pub faults_of : {R : Type 0} → Reader R → ℕ
faults_of source = source.faults

-- what is seen of it: it tells nothing of what is left
abbrev pub seen_of : {R : Type 0} → Reader R → SourceSeen
seen_of source = record { left = None; ended = source.ended; faults = source.faults }

-- the reader gave the bytes that the source says, where it is known what the reader has left
abbrev pub Hands : Option (List ℕ) → Option (List ℕ) → Got → List ℕ → Type 0
Hands before now (got.Bytes n) buffer = Consumes before now (take n buffer)
Hands before now got.End buffer = Keeps before now
Hands before now got.Failed buffer = Keeps before now
