-- Where the parts of an instance stand.
use Rattle.std.specs.Prelude.{ℕ, List, Option, option_map}
use Rattle.design_wires.specs.declared.here.Here.{Here}
use Rattle.design_wires.specs.declared.here.Shown.{Shown}

-- where the names of an instance are shown: what they begin with, and the number of its scope
pub record ShownPlace : Type 0 where
  pub prefix : List ℕ
  pub scope : ℕ

-- an instance: the identifier of its module, what the paths in it begin with, and where it is shown, if it is
pub record InstancePlace : Type 0 where
  pub owner : List ℕ
  pub prefix : List ℕ
  pub shown : Option ShownPlace

-- the same as the code has them
abbrev pub seen_shown : Shown → ShownPlace
seen_shown s = record { prefix = s.prefix.now; scope = s.scope }

abbrev pub seen_here : Here → InstancePlace
seen_here h = record { owner = h.owner.now; prefix = h.prefix.now; shown = option_map seen_shown h.shown }
