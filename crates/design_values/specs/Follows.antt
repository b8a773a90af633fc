-- Values of nets that follow drives.
use Rattle.std.specs.Prelude.{◌≡◌, ℕ, ◌+◌, ◌<◌, List, [], ◌∷◌}
use Rattle.circuit.specs.Signal.{Digits}
use Rattle.circuit.specs.State.{State}
use Rattle.circuit.specs.Valuation.{given}
use Rattle.circuit.specs.declared.netlist.Circuit.{Circuit}
use Rattle.circuit.specs.declared.netlist.Drive.{Drive}

-- the digits of the nets of a circuit, where it stands in this state and has these inputs
pub record Values : Type 0 where
  pub circuit : Circuit
  pub state : State
  pub inputs : List ℕ
  pub digits : Digits

-- each bit of a drive has what its driver gives
abbrev pub Follows : Values → Drive → Type 0
Follows v d = (i : ℕ) → i < d.width → v.digits d.net (d.at + i) ≡ given v.circuit v.state v.inputs v.digits d.by i

abbrev pub AllFollow : Values → List Drive → Type 0
AllFollow v [] = Unit {0}
AllFollow v (d ∷ ds) = Follows v d × AllFollow v ds
