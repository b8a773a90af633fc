-- What a sink in memory holds, and how it answers.
use Rattle.std.specs.Prelude.{ℕ, ◌-◌, ◌^◌, List, [], Some}
use Rattle.outside.specs.Sink.{SinkSeen}

pub record Gathering : Type 0 where
  pub bytes : List ℕ
  pub failing : List ℕ
  pub most : ℕ
  pub calls : ℕ
  pub faults : ℕ

-- a sink that took nothing yet, fails at no call and takes whole pieces
abbrev pub new_gathering : Gathering
new_gathering = record { bytes = []; failing = []; most = 2 ^ 64 - 1; calls = 0; faults = 0 }

-- what is seen of a sink in memory
abbrev pub seen_of : Gathering → SinkSeen
seen_of gathering = record { held = Some gathering.bytes; faults = gathering.faults }
