use Rattle.std.proofs.Common.{take}
use Rattle.std.specs.Prelude.{nat_eq}
use Rattle.stimulus.specs.Inputs.{TellsPlaces}
use Rattle.stimulus.proofs.inputs.places_of_nets.Given as goal

abbrev pub invariant-loop-at : goal.invariant-loop-at
invariant-loop-at l = TellsPlaces nat_eq (take l.at l.nets) l.places.entries
