-- A stream as a sink.
use Rattle.std.specs.Prelude.{ℕ, List, Option, None, take}
use Rattle.std.specs.Io.KnownBytes.{Appends, Keeps}
use Rattle.outside.specs.Sink.{SinkSeen}
use Rattle.outside.specs.declared.sink.Put.{Put}
use Rattle.outside.specs.declared.sink.Put.TheVariants as put
use Rattle.outside.specs.declared.streams.Stream.{Stream}

-- the writer of std that the stream hands its pieces to
abbrev pub writer_of : {W : Type 0} → Stream W → W
writer_of stream = stream.writer

-- how often it failed
abbrev pub faults_of : {W : Type 0} → Stream W → ℕ
faults_of stream = stream.faults

-- what is seen of it: it tells nothing of what it took
abbrev pub seen_of : {W : Type 0} → Stream W → SinkSeen
seen_of stream = record { held = None; faults = stream.faults }

-- the writer took the bytes that the stream says, where it is known what the writer holds
abbrev pub Hands : Option (List ℕ) → Option (List ℕ) → Put → List ℕ → Type 0
Hands before now (put.Took n) piece = Appends before now (take n piece)
Hands before now put.Failed piece = Keeps before now
