-- What a source in memory has left, and how it answers.
use Rattle.std.specs.Prelude.{ℕ, ◌-◌, ◌^◌, List, [], length, nat_eq, Some}
use Rattle.outside.specs.Source.{SourceSeen}

pub record Giving : Type 0 where
  pub left : List ℕ
  pub failing : List ℕ
  pub most : ℕ
  pub calls : ℕ
  pub faults : ℕ

-- a source that has these bytes, fails at no call and fills each buffer that it can
abbrev pub new_giving : List ℕ → Giving
new_giving bytes = record { left = bytes; failing = []; most = 2 ^ 64 - 1; calls = 0; faults = 0 }

-- what is seen of a source in memory: it is at its end where it has nothing left
abbrev pub seen_of : Giving → SourceSeen
seen_of giving = record { left = Some giving.left; ended = nat_eq (length giving.left) 0; faults = giving.faults }
